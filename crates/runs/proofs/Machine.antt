-- The machine's laws, in the forms that the proofs on runs use.
use Rattle.std.proofs.Common.{◌≡◌, ℕ, ◌+◌, ◌⊎◌, Some, Option, sym, ap, ◌∙◌, subst, inl, inr, arith}
use mathlib.Core.Path.{subst₃}
use Rattle.rows.specs.Meanings.{Meaning, Lawful}
use Rattle.machine.specs.States.{State}
use Rattle.machine.specs.Steps.{Step, Steps, at_start, then_step, Final}
use Rattle.machine.specs.StateTyping.{WellTyped}
use Rattle.machine.specs.Next.{Taken, next, after}
use Rattle.machine.specs.Structural.{unravel, Reduces, ReducesIn, nowhere, then_reduces}
use Rattle.machine.specs.Laws.{Laws}

-- Steps with equal counts.
pub steps_cast : {M : Meaning} {n m c n' m' c' : ℕ} {p q : State} → n ≡ n' → m ≡ m' → c ≡ c' → Steps M n m c p q → Steps M n' m' c' p q
steps_cast {M} {p} {q} e f g ss = subst₃ (λ x y z. Steps M x y z p q) e f g ss

-- One outcome of a computation.
one_outcome : {m m' c c' : ℕ} {q q' : State} (o : Option Taken) → o ≡ Some (m, c, q) → o ≡ Some (m', c', q') → (m ≡ m') × (c ≡ c') × (q ≡ q')
one_outcome {m} {m'} {c} {c'} {q} {q'} o a b =
    let e : ◌≡◌ {A = Option Taken} (Some (m, c, q)) (Some (m', c', q')) = sym a ∙ b in
    let t : ◌≡◌ {A = Taken} (m, c, q) (m', c', q') = cc in
    (ap (λ x. x.0) t, ap (λ x. x.1) t, ap (λ x. x.2) t)

module _ (laws : Laws) where
  pub step_next : {M : Meaning} {m c : ℕ} {p q : State} → Step M m c p q → next M p ≡ Some (m, c, q)
  step_next {M} {m} {c} {p} {q} st = (laws.step_computed M m c p q).0 st

  pub step_unique : {M : Meaning} {m m' c c' : ℕ} {p q q' : State} → Step M m c p q → Step M m' c' p q' → (m ≡ m') × (c ≡ c') × (q ≡ q')
  step_unique {M} {p} a b = one_outcome (next M p) (step_next a) (step_next b)

  -- The moves, the cells and the state are settled by the number of steps.
  pub steps_unique : {M : Meaning} {n m m' c c' : ℕ} {p q q' : State} → Steps M n m c p q → Steps M n m' c' p q' → (m ≡ m') × (c ≡ c') × (q ≡ q')
  steps_unique {M} {n} {p} a b = one_outcome (after M n p) ((laws.steps_computed M n _ _ p _).0 a) ((laws.steps_computed M n _ _ p _).0 b)

  pub step_keeps : {M : Meaning} {m c : ℕ} {p q : State} → Lawful M → Step M m c p q → WellTyped p → WellTyped q
  step_keeps {M} {m} {c} {p} {q} law st w = laws.stays_typed M law m c p q st w

  pub ends_or_goes : {M : Meaning} {p : State} → WellTyped p → Final p ⊎ ((m : ℕ) × (c : ℕ) × (q : State) × Step M m c p q)
  ends_or_goes {M} {p} w = laws.ends_or_goes M p w

  -- No step leads on from an end.
  pub end_rests : {M : Meaning} {m c : ℕ} {p q : State} → Final p → Step M m c p q → ⊥
  end_rests {M} {m} {c} {p} {q} f st = laws.ends_rest M m c p q f st

  pub step_moves : {M : Meaning} {m c : ℕ} {p q : State} → Step M m c p q → (m ≡ 0) ⊎ (m ≡ 1)
  step_moves {M} {m} {c} {p} {q} st = go (laws.step_unravels M m c p q st)
    where
      go : ((m ≡ 0) × (unravel p ≡ unravel q)) ⊎ ((m ≡ 1) × Reduces M (unravel p) (unravel q)) → (m ≡ 0) ⊎ (m ≡ 1)
      go (inl (e, f)) = inl e
      go (inr (e, r)) = inr e

  -- m moves are m structural steps between the states unravelled.
  pub steps_follow : {M : Meaning} {n m c : ℕ} {p q : State} → Steps M n m c p q → ReducesIn M m (unravel p) (unravel q)
  steps_follow at_start = nowhere
  steps_follow {M} (then_step {m = m} {m₁ = m₁} {c₁ = c₁} {p = p} {q = q} {r = r} ss st) = go (laws.step_unravels M m₁ c₁ q r st) (steps_follow ss)
    where
      go : ((m₁ ≡ 0) × (unravel q ≡ unravel r)) ⊎ ((m₁ ≡ 1) × Reduces M (unravel q) (unravel r)) → ReducesIn M m (unravel p) (unravel q) → ReducesIn M (m + m₁) (unravel p) (unravel r)
      go (inl (e, f)) rs =
          let x : m ≡ m + m₁ = omega arith in
          subst (λ y. ReducesIn M y (unravel p) (unravel r)) x (subst (λ y. ReducesIn M m (unravel p) y) f rs)
      go (inr (e, s)) rs =
          let x : m + 1 ≡ m + m₁ = omega arith in
          subst (λ y. ReducesIn M y (unravel p) (unravel r)) x (then_reduces rs s)
