-- In a well typed state the top frame takes the value that is returned, and numbers are at most top.
use Rattle.std.proofs.Common.{◌≡◌, ℕ, Bool, true, List, [], ◌∷◌, Some, refl, subst, le-leb}
use mathlib.Core.Bool.{Bool-set}
use mathlib.Core.Logic.{∥∥₁_elim}
use Rattle.std.proofs.lemmas.Bool.{and_from}
use Rattle.rows.specs.Limits.{top}
use Rattle.theory.specs.Syntax.{Ty, nat, to, both, succ, fst, snd, get, pair, calc, Term}
use Rattle.theory.specs.Typing.{◌⊢◌∶◌, ⊢num, ⊢two, ⊢lam, of_succ, of_get, of_fst, of_snd, of_pair, of_calc}
use Rattle.machine.specs.Values.{term}
use Rattle.machine.specs.StateTyping.{Takes, one_takes, first_takes, second_takes, ifz_takes, app_takes}
use Rattle.machine.specs.StateTyping.{frame_expects, WellTyped, well_▷, well_◁, well_◂}
use Rattle.environments.specs.Values.{Value}
use Rattle.environments.specs.Values as V
use Rattle.environments.specs.Frames.{Frame}
use Rattle.environments.specs.Frames as F
use Rattle.environments.specs.Modes.{Mode}
use Rattle.environments.specs.Modes as M
use Rattle.environments.specs.States.{top_of}
use Rattle.environments.specs.Stands.{Meant, names, pair_of, meant_at, pair_in, value_of, cells_of, frame_of, stack_of}
use Rattle.environments.specs.Stands.{mode_of, stands}
use Rattle.environments.specs.Fits.{is_number, is_lam, is_pair, suits, value_is_small, frame_is_small}
use Rattle.environments.specs.Laws.{TypedSuits}
use Rattle.environments.proofs.Steps.{clash}

-- The values of a type.
abbrev shaped : Ty → Value → Bool
shaped nat v = is_number v
shaped (to σ τ) v = is_lam v
shaped (both σ τ) v = is_pair v

module _ (ts : List Term) (ms : List Meant) where
  pair_shaped : (i : ℕ) (m : Meant) {τ : Ty} → [] ⊢ term (pair_in m) ∶ τ → shaped τ (V.Pair i) ≡ true
  pair_shaped i (names ρ) (⊢two g a b) = elim g [ ]
  pair_shaped i (pair_of T v w) (⊢two of_pair a b) = refl

  value_shaped : (v : Value) {τ : Ty} → [] ⊢ term (value_of ts ms v) ∶ τ → shaped τ v ≡ true
  value_shaped (V.Number n) (⊢num h) = refl
  value_shaped (V.Lam T a e) (⊢lam b) = refl
  value_shaped (V.Pair i) a = pair_shaped i (meant_at ms i) a

  value_small : (v : Value) {τ : Ty} → [] ⊢ term (value_of ts ms v) ∶ τ → value_is_small v ≡ true
  value_small (V.Number n) (⊢num h) = le-leb n top h
  value_small (V.Lam T a e) b = refl
  value_small (V.Pair i) b = refl

  frame_small : (f : Frame) {σ τ : Ty} → Takes (frame_of ts ms f) σ τ → frame_is_small f ≡ true
  frame_small (F.Unary g) t = refl
  frame_small (F.First g r e) t = refl
  frame_small (F.Second g u) (second_takes m b) = value_small u b
  frame_small (F.Ifz z m e) t = refl
  frame_small (F.Apply r e) t = refl
  frame_small (F.Catch r e) t = refl

  frame_suits : (f : Frame) (v : Value) {σ τ : Ty} → Takes (frame_of ts ms f) σ τ → [] ⊢ term (value_of ts ms v) ∶ σ
      → suits f v ≡ true
  frame_suits (F.Unary succ) v (one_takes of_succ) a = value_shaped v a
  frame_suits (F.Unary fst) v (one_takes of_fst) a = value_shaped v a
  frame_suits (F.Unary snd) v (one_takes of_snd) a = value_shaped v a
  frame_suits (F.Unary get) v (one_takes of_get) a = value_shaped v a
  frame_suits (F.First (pair T) r e) v t a = refl
  frame_suits (F.First (calc o) r e) v (first_takes of_calc b) a = value_shaped v a
  frame_suits (F.Second (pair T) u) v t a = refl
  frame_suits (F.Second (calc o) u) v (second_takes of_calc b) a =
      and_from (is_number u) (is_number v) (value_shaped u b) (value_shaped v a)
  frame_suits (F.Ifz z m e) v (ifz_takes b c) a = value_shaped v a
  frame_suits (F.Apply r e) v (app_takes b) a = value_shaped v a
  frame_suits (F.Catch r e) v t a = refl

  taken : (k : List Frame) (v : Value) (f : Frame) → top_of k ≡ Some f
      → WellTyped (mode_of ts ms (stack_of ts ms k) (M.Return v)) → suits f v ≡ true
  taken [] v f q w = clash (cc)
  taken (g ∷ k) v f q (well_◁ (frame_expects t x) a) =
      let e : g ≡ f = cc in
      subst (λ (h : Frame). suits h v ≡ true) e (frame_suits g v t a)

  value : (k : List Frame) (v : Value) → WellTyped (mode_of ts ms (stack_of ts ms k) (M.Return v)) → value_is_small v ≡ true
  value k v (well_◁ x a) = value_small v a

  top_small : (k : List Frame) (x : Mode) (f : Frame) → top_of k ≡ Some f
      → WellTyped (mode_of ts ms (stack_of ts ms k) x) → frame_is_small f ≡ true
  top_small [] x f q w = clash (cc)
  top_small (g ∷ k) (M.Eval c) f q (well_▷ (frame_expects t x) a) =
      let e : g ≡ f = cc in
      subst (λ (h : Frame). frame_is_small h ≡ true) e (frame_small g t)
  top_small (g ∷ k) (M.Return v) f q (well_◁ (frame_expects t x) a) =
      let e : g ≡ f = cc in
      subst (λ (h : Frame). frame_is_small h ≡ true) e (frame_small g t)
  top_small (g ∷ k) M.Fail f q (well_◂ (frame_expects t x)) =
      let e : g ≡ f = cc in
      subst (λ (h : Frame). frame_is_small h ≡ true) e (frame_small g t)

-- a test that every typing passes is passed where there is one
passed : {A : Type 0} (b : Bool) → ∥ A ∥₁ → (A → b ≡ true) → b ≡ true
passed b w f = ∥∥₁_elim w (Bool-set b true) f

pub typed_suits : TypedSuits
typed_suits ts s w =
    let ms = cells_of ts s.cells in
    let at : (x : Mode) → s.mode ≡ x → WellTyped (stands ts s)
    → WellTyped (mode_of ts ms (stack_of ts ms s.stack) x) =
    λ x e t. subst (λ (y : Mode). WellTyped (mode_of ts ms (stack_of ts ms s.stack) y)) e t in
    record {
      taken = λ v f e q. passed (suits f v) w (λ t. taken ts ms s.stack v f q (at (M.Return v) e t));
      value = λ v e. passed (value_is_small v) w (λ t. value ts ms s.stack v (at (M.Return v) e t));
      frame = λ f q. passed (frame_is_small f) w (λ t. top_small ts ms s.stack s.mode f q t);
    }
