-- Which frames, stacks and states are well typed.
use Rattle.std.specs.Prelude.{[], ◌∷◌}
use Rattle.theory.specs.Syntax.{Ty, nat, to, One, Two, Term}
use Rattle.theory.specs.Typing.{Makes₁, Makes₂, ◌⊢◌∶◌}
use Rattle.machine.specs.Values.{Value, term}
use Rattle.machine.specs.States.{Frame, in_one, in_first, in_second, in_ifz, in_app, in_catch, Stack, State, ◌▷◌, ◌◁◌, ◌◂}

-- Takes f σ τ: the form of f has type τ with a σ in its open place.
pub data Takes : Frame → Ty → Ty → Type 0 where
  one_takes : {g : One} {σ τ : Ty} → Makes₁ g σ τ → Takes (in_one g) σ τ
  first_takes : {g : Two} {B : Term} {σ τ υ : Ty} → Makes₂ g σ τ υ → [] ⊢ B ∶ τ → Takes (in_first g B) σ υ
  second_takes : {g : Two} {v : Value} {σ τ υ : Ty} → Makes₂ g σ τ υ → [] ⊢ term v ∶ σ → Takes (in_second g v) τ υ
  ifz_takes : {B C : Term} {τ : Ty} → [] ⊢ B ∶ τ → (nat ∷ []) ⊢ C ∶ τ → Takes (in_ifz B C) nat τ
  app_takes : {B : Term} {σ τ : Ty} → [] ⊢ B ∶ σ → Takes (in_app B) (to σ τ) τ
  catch_takes : {B : Term} {τ : Ty} → [] ⊢ B ∶ τ → Takes (in_catch B) τ τ

-- The empty stack expects nat only.
pub data Expects : Stack → Ty → Type 0 where
  none_expects : Expects [] nat
  frame_expects : {f : Frame} {k : Stack} {σ τ : Ty} → Takes f σ τ → Expects k τ → Expects (f ∷ k) σ

-- A state is well typed when its stack expects the type of what it evaluates or returns, or, failing, some type.
pub data WellTyped : State → Type 0 where
  well_▷ : {k : Stack} {e : Term} {τ : Ty} → Expects k τ → [] ⊢ e ∶ τ → WellTyped (k ▷ e)
  well_◁ : {k : Stack} {v : Value} {τ : Ty} → Expects k τ → [] ⊢ term v ∶ τ → WellTyped (k ◁ v)
  well_◂ : {k : Stack} {τ : Ty} → Expects k τ → WellTyped (k ◂)
