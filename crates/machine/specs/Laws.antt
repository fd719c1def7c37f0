-- What is proved of the machine.
use Rattle.std.specs.Prelude.{◌≡◌, ℕ, ◌-◌, ◌≤◌, ◌⊎◌, ◌↔◌, List, [], ◌∷◌, length, Some}
use Rattle.std.specs.List.{slice_get}
use Rattle.rows.specs.Limits.{top}
use Rattle.rows.specs.Meanings.{Meaning, Lawful}
use Rattle.theory.specs.Syntax.{Ty, Term, name}
use Rattle.theory.specs.Typing.{◌⊢◌∶◌}
use Rattle.machine.specs.Values.{amount}
use Rattle.machine.specs.Substitution.{or_else, close, Below, AllClosed}
use Rattle.machine.specs.States.{Stack, State, ◌▷◌, ◌◁◌}
use Rattle.machine.specs.Steps.{Step, Steps, Final}
use Rattle.machine.specs.StateTyping.{WellTyped}
use Rattle.machine.specs.Next.{next, after}
use Rattle.machine.specs.Structural.{bare, unravel, Reduces, ReducesIn}

-- The computed step is the step of the rules, so there is at most one.
abbrev pub StepComputed : Type 0
StepComputed = (M : Meaning) (m c : ℕ) (p q : State) → Step M m c p q ↔ (next M p ≡ Some (m, c, q))

-- Many steps, computed, are the steps of the rules.
abbrev pub StepsComputed : Type 0
StepsComputed = (M : Meaning) (n m c : ℕ) (p q : State) → Steps M n m c p q ↔ (after M n p ≡ Some (m, c, q))

-- A step keeps a state well typed, over every lawful meaning.
abbrev pub StaysTyped : Type 0
StaysTyped = (M : Meaning) → Lawful M → (m c : ℕ) (p q : State) → Step M m c p q → WellTyped p → WellTyped q

-- A well typed state is an end, or has a step.
abbrev pub EndsOrGoes : Type 0
EndsOrGoes = (M : Meaning) (p : State) → WellTyped p → Final p ⊎ ((m : ℕ) × (c : ℕ) × (q : State) × Step M m c p q)

-- An end has no step.
abbrev pub EndsRest : Type 0
EndsRest = (M : Meaning) (m c : ℕ) (p q : State) → Final p → Step M m c p q → ⊥

-- A number that a well typed state returns is an amount.
abbrev pub AmountsFit : Type 0
AmountsFit = (k : Stack) (n : ℕ) → WellTyped (k ◁ amount n) → n ≤ top

-- A step makes no move or one. With no move the state unravels to the same term; a move is one structural step.
abbrev pub StepUnravels : Type 0
StepUnravels =
    (M : Meaning) (m c : ℕ) (p q : State) → Step M m c p q
    → ((m ≡ 0) × (unravel p ≡ unravel q)) ⊎ ((m ≡ 1) × Reduces M (unravel p) (unravel q))

-- After n steps with m moves from the start of a rule, m structural steps lead from the rule to what the state unravels to.
abbrev pub MovesStructural : Type 0
MovesStructural =
    (M : Meaning) (e : Term) (n m c : ℕ) (q : State) → Steps M n m c ([] ▷ e) q → ReducesIn M m (bare e) (unravel q)

-- At most one structural step leads on.
abbrev pub StructuralDetermined : Type 0
StructuralDetermined = (M : Meaning) (e e₁ e₂ : Term) → Reduces M e e₁ → Reduces M e e₂ → e₁ ≡ e₂

-- To put closed terms for the names outside a binder, and then one for its own, is to put all at once.
abbrev pub PutAtOnce : Type 0
PutAtOnce = (e : Term) (ρ : List Term) (t : Term) → AllClosed ρ → close 0 (e ∷ []) (close 1 ρ t) ≡ close 0 (e ∷ ρ) t

-- The names of a typed term are all in sight.
abbrev pub TypedBelow : Type 0
TypedBelow = (Γ : List Ty) (e : Term) (τ : Ty) → Γ ⊢ e ∶ τ → Below (length Γ) e

-- A closed term stays as it is, whatever is put for names.
abbrev pub ClosedStays : Type 0
ClosedStays = (ρ : List Term) (t : Term) → Below 0 t → close 0 ρ t ≡ t

-- A term with closed terms for all its names is closed.
abbrev pub PutCloses : Type 0
PutCloses = (ρ : List Term) (t : Term) → AllClosed ρ → Below (length ρ) t → Below 0 (close 0 ρ t)

-- A name becomes its term, and one beyond all terms moves down by so many.
abbrev pub NamePut : Type 0
NamePut = (ρ : List Term) (i : ℕ) → close 0 ρ (name i) ≡ or_else (slice_get ρ i) (name (i - length ρ))

-- All of them.
pub record Laws : Type 0 where
  pub step_computed : StepComputed
  pub steps_computed : StepsComputed
  pub stays_typed : StaysTyped
  pub ends_or_goes : EndsOrGoes
  pub ends_rest : EndsRest
  pub amounts_fit : AmountsFit
  pub step_unravels : StepUnravels
  pub moves_structural : MovesStructural
  pub structural_determined : StructuralDetermined
  pub put_at_once : PutAtOnce
  pub typed_below : TypedBelow
  pub closed_stays : ClosedStays
  pub put_closes : PutCloses
  pub name_put : NamePut
