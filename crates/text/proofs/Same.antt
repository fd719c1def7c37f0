-- Words that differ.
use Rattle.std.proofs.Common.{◌≡◌, ℕ, zero, suc, Bool, true, false, cond, eqb, List, [], ◌∷◌, length, get_or, refl, ap, arith}
use Rattle.std.proofs.lemmas.Bool.{ne_eqb}
use Rattle.grammar.specs.Words.{same}

-- a byte before them changes nothing
more : (b : Bool) (xs ys : List ℕ) → same xs ys ≡ false → cond b (same xs ys) false ≡ false
more true xs ys e = e
more false xs ys e = refl

-- words of different lengths
pub same_apart : (xs ys : List ℕ) → (length xs ≡ length ys → ⊥) → same xs ys ≡ false
same_apart [] [] h = absurd (h refl)
same_apart [] (y ∷ ys) h = refl
same_apart (x ∷ xs) [] h = refl
same_apart (x ∷ xs) (y ∷ ys) h = more (eqb x y) xs ys (same_apart xs ys (λ e. h (omega arith)))

-- words with different bytes at a place
unlike : (i : ℕ) (xs ys : List ℕ) → (get_or xs i 0 ≡ get_or ys i 0 → ⊥) → same xs ys ≡ false
unlike i [] [] h = absurd (h refl)
unlike i [] (y ∷ ys) h = refl
unlike i (x ∷ xs) [] h = refl
unlike zero (x ∷ xs) (y ∷ ys) h = ap (λ b. cond b (same xs ys) false) (ne_eqb x y h)
unlike (suc i) (x ∷ xs) (y ∷ ys) h = more (eqb x y) xs ys (unlike i xs ys h)

pub unlike_first : (xs ys : List ℕ) → (get_or xs 0 0 ≡ get_or ys 0 0 → ⊥) → same xs ys ≡ false
unlike_first = unlike 0

pub unlike_second : (xs ys : List ℕ) → (get_or xs 1 0 ≡ get_or ys 1 0 → ⊥) → same xs ys ≡ false
unlike_second = unlike 1

pub unlike_third : (xs ys : List ℕ) → (get_or xs 2 0 ≡ get_or ys 2 0 → ⊥) → same xs ys ≡ false
unlike_third = unlike 2
