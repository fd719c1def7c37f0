-- Induction over types and terms by their bracketed forms, and what a fold makes of a form.
use Rattle.std.specs.Prelude.{◌≡◌, ℕ, List, [], ◌∷◌, map, length, slice_index_or, refl}
use Rattle.std.proofs.Common.{ap, arith}
use Rattle.theory.specs.Syntax.{Ty, nat, to, both, One, succ, fst, snd, get, add, sub, mul, Two, pair, calc, Term, num, name, one, two, ifz, lam, app, fix, fail, catch}
use Rattle.rows.specs.declared.forms.Form.{Form}
use Rattle.rows.specs.declared.forms.Form.TheVariants.{Succ, Ifz, Lam, Ap, Fix, Pair, Fst, Snd, Add, Sub, Mul, Get, Fail, Catch}
use Rattle.rows.specs.declared.forms.Shape.{Shape}
use Rattle.rows.specs.declared.forms.Shape.TheVariants.{To, Both}
use Rattle.rows.specs.Forms.{types, parts}
use Rattle.theory.specs.Lists.{All}
use Rattle.theory.specs.Folds.{shaped, built, Types, fold_type, Terms, fold}

pub by_shapes : (P : Ty → Type 0) → P nat → ((k : Shape) (T U : Ty) → P T → P U → P (shaped k T U)) → (T : Ty) → P T
by_shapes P n s nat = n
by_shapes P n s (to T U) = s To T U (by_shapes P n s T) (by_shapes P n s U)
by_shapes P n s (both T U) = s Both T U (by_shapes P n s T) (by_shapes P n s U)

pub fold_shaped : {R : Type 0} (a : Types R) (k : Shape) (T U : Ty) → fold_type a (shaped k T U) ≡ a.shape k (fold_type a T) (fold_type a U)
fold_shaped a To T U = refl
fold_shaped a Both T U = refl

module _ (P : Term → Type 0) (numbers : (n : ℕ) → P (num n)) (names : (n : ℕ) → P (name n))
    (step : (f : Form) (Ts : List Ty) (es : List Term) → length Ts ≡ types f → length es ≡ parts f → All P es → P (built f Ts es)) where
  by_one : (g : One) (A : Term) → P A → P (one g A)
  by_one succ A h = step Succ [] (A ∷ []) refl refl (h, tt)
  by_one fst A h = step Fst [] (A ∷ []) refl refl (h, tt)
  by_one snd A h = step Snd [] (A ∷ []) refl refl (h, tt)
  by_one get A h = step Get [] (A ∷ []) refl refl (h, tt)

  by_two : (g : Two) (A B : Term) → P A → P B → P (two g A B)
  by_two (pair T) A B h k = step Pair (T ∷ []) (A ∷ B ∷ []) refl refl (h, (k, tt))
  by_two (calc add) A B h k = step Add [] (A ∷ B ∷ []) refl refl (h, (k, tt))
  by_two (calc sub) A B h k = step Sub [] (A ∷ B ∷ []) refl refl (h, (k, tt))
  by_two (calc mul) A B h k = step Mul [] (A ∷ B ∷ []) refl refl (h, (k, tt))

  pub by_forms : (e : Term) → P e
  by_forms (num n) = numbers n
  by_forms (name n) = names n
  by_forms (one g A) = by_one g A (by_forms A)
  by_forms (two g A B) = by_two g A B (by_forms A) (by_forms B)
  by_forms (ifz A B C) = step Ifz [] (A ∷ B ∷ C ∷ []) refl refl (by_forms A, (by_forms B, (by_forms C, tt)))
  by_forms (lam T A) = step Lam (T ∷ []) (A ∷ []) refl refl (by_forms A, tt)
  by_forms (app A B) = step Ap [] (A ∷ B ∷ []) refl refl (by_forms A, (by_forms B, tt))
  by_forms (fix T A) = step Fix (T ∷ []) (A ∷ []) refl refl (by_forms A, tt)
  by_forms (fail T) = step Fail (T ∷ []) [] refl refl tt
  by_forms (catch A B) = step Catch [] (A ∷ B ∷ []) refl refl (by_forms A, (by_forms B, tt))

pub none : {X : Type 0} (xs : List X) → length xs ≡ 0 → [] ≡ xs
none [] h = refl
none (x ∷ xs) h = absurd (omega arith)

pub just : {X : Type 0} (d : X) (xs : List X) → length xs ≡ 1 → slice_index_or xs 0 d ∷ [] ≡ xs
just d [] h = absurd (omega arith)
just d (x ∷ xs) h = ap (λ l. x ∷ l) (none xs (omega arith))

pub couple : {X : Type 0} (d : X) (xs : List X) → length xs ≡ 2 → slice_index_or xs 0 d ∷ slice_index_or xs 1 d ∷ [] ≡ xs
couple d [] h = absurd (omega arith)
couple d (x ∷ xs) h = ap (λ l. x ∷ l) (just d xs (omega arith))

pub triple : {X : Type 0} (d : X) (xs : List X) → length xs ≡ 3 → slice_index_or xs 0 d ∷ slice_index_or xs 1 d ∷ slice_index_or xs 2 d ∷ [] ≡ xs
triple d [] h = absurd (omega arith)
triple d (x ∷ xs) h = ap (λ l. x ∷ l) (couple d xs (omega arith))

pub fold_built : {R : Type 0} (a : Terms R) (f : Form) (Ts : List Ty) (es : List Term) → length Ts ≡ types f → length es ≡ parts f → fold a (built f Ts es) ≡ a.form f Ts (map (fold a) es)
fold_built a Succ Ts es h k = λ i. a.form Succ (none Ts h i) (map (fold a) (just (num 0) es k i))
fold_built a Ifz Ts es h k = λ i. a.form Ifz (none Ts h i) (map (fold a) (triple (num 0) es k i))
fold_built a Lam Ts es h k = λ i. a.form Lam (just nat Ts h i) (map (fold a) (just (num 0) es k i))
fold_built a Ap Ts es h k = λ i. a.form Ap (none Ts h i) (map (fold a) (couple (num 0) es k i))
fold_built a Fix Ts es h k = λ i. a.form Fix (just nat Ts h i) (map (fold a) (just (num 0) es k i))
fold_built a Pair Ts es h k = λ i. a.form Pair (just nat Ts h i) (map (fold a) (couple (num 0) es k i))
fold_built a Fst Ts es h k = λ i. a.form Fst (none Ts h i) (map (fold a) (just (num 0) es k i))
fold_built a Snd Ts es h k = λ i. a.form Snd (none Ts h i) (map (fold a) (just (num 0) es k i))
fold_built a Add Ts es h k = λ i. a.form Add (none Ts h i) (map (fold a) (couple (num 0) es k i))
fold_built a Sub Ts es h k = λ i. a.form Sub (none Ts h i) (map (fold a) (couple (num 0) es k i))
fold_built a Mul Ts es h k = λ i. a.form Mul (none Ts h i) (map (fold a) (couple (num 0) es k i))
fold_built a Get Ts es h k = λ i. a.form Get (none Ts h i) (map (fold a) (just (num 0) es k i))
fold_built a Fail Ts es h k = λ i. a.form Fail (just nat Ts h i) (map (fold a) (none es k i))
fold_built a Catch Ts es h k = λ i. a.form Catch (none Ts h i) (map (fold a) (couple (num 0) es k i))
