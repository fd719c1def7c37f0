-- Advances of a run.
use Rattle.std.specs.Prelude.{◌≡◌, ℕ, zero, suc, ◌+◌, ◌≤◌, ◌≢◌, ◌⊎◌, Some, None, Option}
use Rattle.rows.specs.Meanings.{Meaning}
use Rattle.machine.specs.States.{State}
use Rattle.machine.specs.Steps.{Step}
use Rattle.machine.specs.Next.{Taken, next}
use Rattle.runs.specs.Standings.{Limits, Standing, Status, number, failed, spent, tall, full, going, height, status, onto}

-- Goes M L j r q: j steps of the machine, each made while the status was going, lead from r to q.
pub data Goes (M : Meaning) (L : Limits) : ℕ → Standing → Standing → Type 0 where
  stays : {r : Standing} → Goes M L 0 r r
  goes :
      {j m c : ℕ} {r q : Standing} {p : State}
      → Goes M L j r q → status L q ≡ going → Step M m c q.state p → Goes M L (j + 1) r (onto q (m, c, p))

-- The run at q is within its limits.
pub record Within (L : Limits) (q : Standing) : Type 0 where
  pub fuel_lasts : q.steps ≤ L.fuel
  pub frames_fit : height q.state ≤ L.frames
  pub cells_fit : q.cells ≤ L.cells

-- An advance by the count n: n steps, or fewer where the run then has halted.
abbrev pub Advances : Meaning → Limits → ℕ → Standing → Standing → Type 0
Advances M L n r q = (j : ℕ) × Goes M L j r q × (j ≤ n) × ((j ≡ n) ⊎ (status L q ≢ going))

-- Where the run stands after the step taken, if there is one.
abbrev pub stepped : Standing → Option Taken → Standing
stepped r (Some t) = onto r t
stepped r None = r

-- q while the status is going, r once the run has halted
abbrev pub if-going : Status → Standing → Standing → Standing
if-going (number n) r q = r
if-going failed r q = r
if-going spent r q = r
if-going tall r q = r
if-going full r q = r
if-going going r q = q

-- One step, made only while the status is going.
abbrev pub once : Meaning → Limits → Standing → Standing
once M L r = if-going (status L r) r (stepped r (next M r.state))

-- The advance by a count, computed.
abbrev pub advanced : Meaning → Limits → ℕ → Standing → Standing
advanced M L zero r = r
advanced M L (suc n) r = once M L (advanced M L n r)
