-- The words of the forms.
use Rattle.std.specs.Prelude.{ℕ, Bool, true, false, cond, List, [], ◌∷◌, Some, None, codes, Option, ◌==◌}
use Rattle.rows.specs.declared.forms.Form.{Form}
use Rattle.rows.specs.declared.forms.Form.TheVariants.{Succ, Ifz, Lam, Ap, Fix, Pair, Fst, Snd, Add, Sub, Mul, Get, Fail, Catch}
use Rattle.rows.specs.declared.forms.Shape.{Shape}
use Rattle.rows.specs.declared.forms.Shape.TheVariants.{To, Both}
use Rattle.rows.specs.Forms.{forms}

abbrev pub word : Form → List ℕ
word Succ = codes "s"
word Ifz = codes "ifz"
word Lam = codes "lam"
word Ap = codes "ap"
word Fix = codes "fix"
word Pair = codes "pair"
word Fst = codes "fst"
word Snd = codes "snd"
word Add = codes "add"
word Sub = codes "sub"
word Mul = codes "mul"
word Get = codes "get"
word Fail = codes "fail"
word Catch = codes "catch"

abbrev pub shape_word : Shape → List ℕ
shape_word To = codes "to"
shape_word Both = codes "both"

-- whether two words are the same bytes
abbrev pub same : List ℕ → List ℕ → Bool
same [] [] = true
same [] (y ∷ ys) = false
same (x ∷ xs) [] = false
same (x ∷ xs) (y ∷ ys) = cond (x == y) (same xs ys) false

-- the first of some things whose word is w
abbrev pub spelt : {X : Type 0} → (X → List ℕ) → List X → List ℕ → Option X
spelt f [] w = None
spelt f (x ∷ xs) w = cond (same w (f x)) (Some x) (spelt f xs w)

abbrev pub form_of : List ℕ → Option Form
form_of w = spelt word forms w

abbrev pub shape_of : List ℕ → Option Shape
shape_of w = spelt shape_word (To ∷ Both ∷ []) w
