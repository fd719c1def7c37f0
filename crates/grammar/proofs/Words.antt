-- The words of the forms tell them apart.
use Rattle.std.proofs.Common.{◌≡◌, ℕ, Bool, true, false, cond, eqb, List, [], ◌∷◌, Some, refl, ap, ◌∙◌, ap₂, arith, eqb-true}
use borrow.Author.Tests.{both_ways}
use Rattle.rows.specs.declared.forms.Form.{Form}
use Rattle.rows.specs.declared.forms.Form.TheVariants.{Succ, Ifz, Lam, Ap, Fix, Pair, Fst, Snd, Add, Sub, Mul, Get, Fail, Catch}
use Rattle.rows.specs.declared.forms.Shape.{Shape}
use Rattle.rows.specs.declared.forms.Shape.TheVariants.{To, Both}
use Rattle.rows.specs.Forms.{forms}
use Rattle.grammar.specs.Words.{word as word_of, shape_word, form_of, shape_of, same, spelt}

pub form_word : (f : Form) → form_of (word_of f) ≡ Some f
form_word Succ = refl
form_word Ifz = refl
form_word Lam = refl
form_word Ap = refl
form_word Fix = refl
form_word Pair = refl
form_word Fst = refl
form_word Snd = refl
form_word Add = refl
form_word Sub = refl
form_word Mul = refl
form_word Get = refl
form_word Fail = refl
form_word Catch = refl

pub shape_word_of : (k : Shape) → shape_of (shape_word k) ≡ Some k
shape_word_of To = refl
shape_word_of Both = refl

-- and the forms their words
pub same_true : (v w : List ℕ) → same v w ≡ true → v ≡ w
same_true [] [] h = refl
same_true [] (y ∷ w) h = absurd (both_ways false refl h)
same_true (x ∷ v) [] h = absurd (both_ways false refl h)
same_true (x ∷ v) (y ∷ w) h = go (eqb x y) refl (λ k. same_true v w k) h
  where
    go : (b : Bool) → eqb x y ≡ b → (same v w ≡ true → v ≡ w) → cond b (same v w) false ≡ true → x ∷ v ≡ y ∷ w
    go true e f k = ap₂ (λ a l. a ∷ l) (eqb-true x y e) (f k)
    go false e f k = absurd (both_ways false refl k)

spelt_is : {K : Type 0} (g : K → List ℕ) (ks : List K) (v : List ℕ) (k : K) → spelt g ks v ≡ Some k → v ≡ g k
spelt_is g [] v k h = let z : ◌≡◌ {A = ℕ} 0 1 = cc in absurd (omega arith)
spelt_is g (j ∷ ks) v k h = go (same v (g j)) refl (λ q. spelt_is g ks v k q) h
  where
    go : (b : Bool) → same v (g j) ≡ b → (spelt g ks v ≡ Some k → v ≡ g k) → cond b (Some j) (spelt g ks v) ≡ Some k → v ≡ g k
    go true e f q = let i : j ≡ k = cc in same_true v (g j) e ∙ ap g i
    go false e f q = f q

pub form_is : (v : List ℕ) (f : Form) → form_of v ≡ Some f → v ≡ word_of f
form_is v f h = spelt_is word_of forms v f h

pub shape_is : (v : List ℕ) (k : Shape) → shape_of v ≡ Some k → v ≡ shape_word k
shape_is v k h = spelt_is shape_word (To ∷ Both ∷ []) v k h
