-- What the proof of a program's advance, look and close takes from the theory, whatever the program's run is.
use Rattle.std.proofs.Common.{◌≡◌, ℕ, ◌+◌, ◌-◌, ◌≤◌, ◌≢◌, ◌⊎◌, sym, refl, ap, ◌∙◌, subst, subst₂, inl, inr, add-one, arith}
use Rattle.rows.specs.Meanings.{Meaning}
use Rattle.machine.specs.States.{State}
use Rattle.machine.specs.Steps.{Step, Final}
use Rattle.machine.specs.Next.{next}
use Rattle.runs.specs.Standings.{Limits, Standing, going, held, status}
use Rattle.runs.specs.Advances.{Advances, stepped, if-going, once, advanced}
use Rattle.runs.specs.Calls.{Running, now_at, advance, called, report, answer}
use Rattle.runs.specs.Promise.{Promised, Continues}
use Rattle.runs.proofs.Machine.{step_next, ends_or_goes}
use Rattle.runs.proofs.Running.{rests, allowed, ended_not_going, goes_steps, goes_typed, goes_within, advances}
use Rattle.runs.specs.Programs.{Begins, StepCounts, OnceMore, Turn, Finished, FuelEnough, CalledSound, AnswersSo, ContinuesSo, PromisedSo}
use Rattle.runs.proofs.Counting.{advance_continues}
use Rattle.runs.proofs.Twice.{whole_run}
use Rattle.machine.specs.Laws.{Laws}

pub begins : Begins
begins M o = refl

-- A turn of the loop: one more step from where k of them led.
pub once_more : OnceMore
once_more M k o p q e h = rw add-one (h ∙ ap (λ (r : Running). now_at r (once M r.limits r.standing)) e)

pub turn : Turn
turn M k o p q e g h =
    let s = p.standing in
    let x : once M p.limits s ≡ stepped s (next M s.state) = ap (λ u. if-going u s (stepped s (next M s.state))) g in
    once_more M k o p q e (h ∙ ap (now_at p) (sym x))

-- The loop's end: the count is used up, or the run has halted.
pub finished : Finished
finished M n k o p e le (inl h) = e ∙ ap (λ x. called o (advance M x)) h
finished M n k o p e le (inr h) =
    let j : k + (n - k) ≡ n = omega arith in
    let still : status o.limits (advanced M o.limits k o.standing) ≢ going = subst (λ (r : Running). (report r).status ≢ going) e h in
    e ∙ (ap (now_at o) (sym (rests M o.limits k (n - k) o.standing (advanced M o.limits k o.standing) refl still)) ∙ ap (λ x. called o (advance M x)) j)

pub answers_so : AnswersSo
answers_so o o' k t e h = let d : k ≡ o'.standing.steps - o.standing.steps = omega arith in λ i. record { taken = d i; status = h i }

-- With the fuel used up the run has halted.
used_up : {M : Meaning} {L : Limits} (k : ℕ) {r q : Standing} → Advances M L k r q → L.fuel ≤ r.steps + k → status L q ≢ going
used_up k (j, gs, le, inr h) enough = h
used_up {L} k {q} (j, gs, le, inl e) enough =
    let (m, c, ss, x, y, z) = goes_steps gs in
    λ g. let a = (allowed L q g).0 in omega arith

module _ (laws : Laws) where
  pub continues : ContinuesSo
  continues M law n o o' a e h =
      let f : a ≡ answer o (called o (advance M n)) = h ∙ ap (answer o) e in
      subst₂ (λ b p. Continues o (advance M n) b p) (sym f) (sym e) (advance_continues laws M law n o)

  pub promised : PromisedSo
  promised o r e = subst (Promised o) (sym e) (whole_run laws o)

  pub step_counts : StepCounts
  step_counts M L s w g = go (ends_or_goes laws w)
    where
      go : Final s.state ⊎ ((m : ℕ) × (c : ℕ) × (q : State) × Step M m c s.state q) → (stepped s (next M s.state)).steps ≡ s.steps + 1
      go (inl f) = absurd (ended_not_going (held L s) f g)
      go (inr (m, c, q, st)) = ap (λ x. (stepped s x).steps) (step_next laws st)

  pub called_sound : CalledSound
  called_sound M law n o w i =
      let a = advances laws M o.limits law n o.standing w in
      (goes_typed laws law a.1 w, goes_within a.1 i)

  pub fuel_enough : FuelEnough
  fuel_enough M law n k o w le enough = finished M n k o (called o (advance M k)) refl le (inr (used_up k (advances laws M o.limits law k o.standing w) enough))
