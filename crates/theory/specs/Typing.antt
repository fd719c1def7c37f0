-- Which terms have which type.
use Rattle.std.specs.Prelude.{◌≡◌, ℕ, ◌≤◌, List, ◌∷◌, Some}
use Rattle.std.specs.List.{slice_get}
use Rattle.rows.specs.Limits.{top}
use Rattle.theory.specs.Syntax.{Ty, nat, to, both, One, succ, fst, snd, get, Op, Two, pair, calc}
use Rattle.theory.specs.Syntax.{Term, num, name, one, two, ifz, lam, app, fix, fail, catch}

-- a form with one part makes a τ of a σ
pub data Makes₁ : One → Ty → Ty → Type 0 where
  of_succ : Makes₁ succ nat nat
  of_get : Makes₁ get nat nat
  of_fst : {σ τ : Ty} → Makes₁ fst (both σ τ) σ
  of_snd : {σ τ : Ty} → Makes₁ snd (both σ τ) τ

-- a form with two parts makes an υ of a σ and a τ
pub data Makes₂ : Two → Ty → Ty → Ty → Type 0 where
  of_pair : {σ τ : Ty} → Makes₂ (pair (both σ τ)) σ τ (both σ τ)
  of_calc : {o : Op} → Makes₂ (calc o) nat nat nat

-- Γ ⊢ e ∶ τ: with names of the types Γ in sight, nearest first, e has type τ
infix 30 ◌⊢◌∶◌
pub data ◌⊢◌∶◌ : List Ty → Term → Ty → Type 0 where
  ⊢num : {Γ : List Ty} {n : ℕ} → n ≤ top → Γ ⊢ num n ∶ nat
  ⊢name : {Γ : List Ty} {d : ℕ} {τ : Ty} → slice_get Γ d ≡ Some τ → Γ ⊢ name d ∶ τ
  ⊢one : {Γ : List Ty} {g : One} {A : Term} {σ τ : Ty} → Makes₁ g σ τ → Γ ⊢ A ∶ σ → Γ ⊢ one g A ∶ τ
  ⊢two : {Γ : List Ty} {g : Two} {A B : Term} {σ τ υ : Ty} → Makes₂ g σ τ υ → Γ ⊢ A ∶ σ → Γ ⊢ B ∶ τ → Γ ⊢ two g A B ∶ υ
  ⊢ifz : {Γ : List Ty} {A B C : Term} {τ : Ty} → Γ ⊢ A ∶ nat → Γ ⊢ B ∶ τ → (nat ∷ Γ) ⊢ C ∶ τ → Γ ⊢ ifz A B C ∶ τ
  ⊢lam : {Γ : List Ty} {A : Term} {σ τ : Ty} → (σ ∷ Γ) ⊢ A ∶ τ → Γ ⊢ lam (to σ τ) A ∶ to σ τ
  ⊢app : {Γ : List Ty} {A B : Term} {σ τ : Ty} → Γ ⊢ A ∶ to σ τ → Γ ⊢ B ∶ σ → Γ ⊢ app A B ∶ τ
  ⊢fix : {Γ : List Ty} {A : Term} {τ : Ty} → (τ ∷ Γ) ⊢ A ∶ τ → Γ ⊢ fix τ A ∶ τ
  ⊢fail : {Γ : List Ty} {τ : Ty} → Γ ⊢ fail τ ∶ τ
  ⊢catch : {Γ : List Ty} {A B : Term} {τ : Ty} → Γ ⊢ A ∶ τ → Γ ⊢ B ∶ τ → Γ ⊢ catch A B ∶ τ
