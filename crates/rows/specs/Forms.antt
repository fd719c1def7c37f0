-- The bracketed forms: the kinds of their rows, and what they take.
use Rattle.std.specs.Prelude.{ℕ, ◌-◌, Option, Some, None, cond, List, [], ◌∷◌, slice_index_or, ◌==◌, nat_lt}
use Rattle.rows.specs.declared.forms.Form.{Form}
use Rattle.rows.specs.declared.forms.Form.TheVariants.{Succ, Ifz, Lam, Ap, Fix, Pair, Fst, Snd, Add, Sub, Mul, Get, Fail, Catch}
use Rattle.rows.specs.declared.forms.Head.{Head}
use Rattle.rows.specs.declared.forms.Head.TheVariants.{Number, Name, Form as Bracketed}
use Rattle.rows.specs.declared.forms.Shape.{Shape}
use Rattle.rows.specs.declared.forms.Shape.TheVariants.{To, Both}

-- the kind of a form's rows
abbrev pub kind : Form → ℕ
kind Succ = 2
kind Ifz = 3
kind Lam = 4
kind Ap = 5
kind Fix = 6
kind Pair = 7
kind Fst = 8
kind Snd = 9
kind Add = 10
kind Sub = 11
kind Mul = 12
kind Get = 13
kind Fail = 14
kind Catch = 15

-- how many types a form takes first
abbrev pub types : Form → ℕ
types Succ = 0
types Ifz = 0
types Lam = 1
types Ap = 0
types Fix = 1
types Pair = 1
types Fst = 0
types Snd = 0
types Add = 0
types Sub = 0
types Mul = 0
types Get = 0
types Fail = 1
types Catch = 0

-- how many terms follow
abbrev pub parts : Form → ℕ
parts Succ = 1
parts Ifz = 3
parts Lam = 1
parts Ap = 2
parts Fix = 1
parts Pair = 2
parts Fst = 1
parts Snd = 1
parts Add = 2
parts Sub = 2
parts Mul = 2
parts Get = 1
parts Fail = 0
parts Catch = 2

-- and of a type's
abbrev pub shape_kind : Shape → ℕ
shape_kind To = 1
shape_kind Both = 2

-- every form, in the order of the kinds
abbrev pub forms : List Form
forms = Succ ∷ Ifz ∷ Lam ∷ Ap ∷ Fix ∷ Pair ∷ Fst ∷ Snd ∷ Add ∷ Sub ∷ Mul ∷ Get ∷ Fail ∷ Catch ∷ []

-- the form of rows of kind k, for a k from 2 to 15
abbrev pub form_at : ℕ → Form
form_at k = slice_index_or forms (k - 2) Catch

-- what rows of kind k begin with
abbrev pub head_at : ℕ → Head
head_at k = cond (nat_lt k 2) (cond (k == 0) Number Name) (Bracketed (form_at k))

-- the shape of type rows of kind k, if they have one
abbrev pub shape_at : ℕ → Option Shape
shape_at k = cond (k == 1) (Some To) (cond (k == 2) (Some Both) None)
