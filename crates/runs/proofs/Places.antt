-- The places on the machine's way from a rule.
use Rattle.std.proofs.Common.{◌≡◌, ℕ, ◌+◌, ◌<◌, ◌⊎◌, [], refl, subst, inl, inr, arith}
use native.Mathlib.Decide.{dec_lt}
use Rattle.theory.specs.Syntax.{Term}
use Rattle.rows.specs.Meanings.{Meaning}
use Rattle.machine.specs.States.{State, ◌▷◌}
use Rattle.machine.specs.Steps.{Step, Steps, at_start, then_step}
use Rattle.runs.specs.Standings.{Standing}
use Rattle.runs.specs.Promise.{Leads, OneMove}
use Rattle.machine.specs.Laws.{Laws}
use Rattle.runs.proofs.Machine.{step_moves, steps_cast, steps_unique}

-- Equal steps, moves, cells and states make equal standings.
pub standing_path : (s t : Standing) → s.steps ≡ t.steps → s.moves ≡ t.moves → s.cells ≡ t.cells → s.state ≡ t.state → s ≡ t
standing_path s t a b c d = λ i. record { steps = a i; moves = b i; cells = c i; state = d i }

-- Every step on the way, with the places before and after it.
pub record Split (M : Meaning) (e : Term) (i : ℕ) : Type 0 where
  pub before : Standing
  pub moves : ℕ
  pub cells : ℕ
  pub state : State
  pub leads : Leads M e before
  pub count : before.steps ≡ i
  pub step : Step M moves cells before.state state

pub split : {M : Meaning} {n m c : ℕ} {p q : State} (e : Term) → p ≡ ([] ▷ e) → Steps M n m c p q → (i : ℕ) → i < n → Split M e i
split e o at_start i h = absurd (omega arith)
split {M} e o (then_step {n = n} {m = m} {c = c} {m₁ = m₁} {c₁ = c₁} {p = p} {q = q} {r = r} ss st) i h = go (dec_lt i n) (split e o ss i)
  where
    go : Dec (i < n) → (i < n → Split M e i) → Split M e i
    go (yes k) f = f k
    go (no k) f = record { before = record { steps = n; moves = m; cells = c; state = q }; moves = m₁; cells = c₁; state = r; leads = subst (λ x. Steps M n m c x q) o ss; count = omega arith; step = st }

module _ (laws : Laws) where
  -- The number of steps settles the place.
  pub place_unique : {M : Meaning} {e : Term} (s t : Standing) → Leads M e s → Leads M e t → s.steps ≡ t.steps → s ≡ t
  place_unique s t a b h =
      let (x, y, z) = steps_unique laws (steps_cast h refl refl a) b in
      standing_path s t h x y z

  pub split_single : {M : Meaning} {e : Term} {i : ℕ} → Split M e i → OneMove M e i
  split_single {M} {e} {i} x = (
    x.before,
    x.leads,
    x.count,
    (
      record { steps = x.before.steps + 1; moves = x.before.moves + x.moves; cells = x.before.cells + x.cells; state = x.state },
      then_step x.leads x.step,
      omega (arith, x.count),
      go (step_moves laws x.step),
    ),
  )
    where
      go : (x.moves ≡ 0) ⊎ (x.moves ≡ 1) → (x.before.moves + x.moves ≡ x.before.moves) ⊎ (x.before.moves + x.moves ≡ x.before.moves + 1)
      go (inl h) = inl (omega arith)
      go (inr h) = inr (omega arith)
