-- The types of rows. A type is the place of its type row, and nat is at 0.
use Rattle.std.specs.Prelude.{ℕ, Bool, cond, ◌&&◌, List, [], ◌∷◌, length, get_or, Some, None, Ok, Err, Option, Result, ◌==◌, nat_lt, slice_index_or}
use Rattle.std.specs.List.{slice_get}
use Rattle.rows.specs.declared.tables.TypeRow.{TypeRow}
use Rattle.rows.specs.declared.tables.TermRow.{TermRow}
use Rattle.rows.specs.declared.forms.Form.{Form}
use Rattle.rows.specs.declared.forms.Form.TheVariants.{Succ, Ifz, Lam, Ap, Fix, Pair, Fst, Snd, Add, Sub, Mul, Get, Fail, Catch}
use Rattle.rows.specs.declared.forms.Shape.TheVariants.{To, Both}
use Rattle.rows.specs.Forms.{kind, form_at, shape_kind}
use Rattle.rows.specs.Rows.{nat_row}
use Rattle.checker.specs.Lowest.{lower}
use Rattle.checker.specs.RowTests.{arity}
use Rattle.checker.specs.Descents.{rows_as}

-- the place that stands for no type
abbrev pub no_type : ℕ
no_type = 4294967295

-- the type row at a place
abbrev pub row_of : List TypeRow → ℕ → TypeRow
row_of ts p = slice_index_or ts p nat_row

-- whether the type at a place is a function
abbrev pub is_to : List TypeRow → ℕ → Bool
is_to ts p = (row_of ts p).kind == shape_kind To

-- whether it is a pair
abbrev pub is_both : List TypeRow → ℕ → Bool
is_both ts p = (row_of ts p).kind == shape_kind Both

-- the type of the name that the first part is under, if it is under one; a lam whose type is no function type gives its name none
abbrev pub bound : List TypeRow → TermRow → Option ℕ
bound ts r =
    cond (r.kind == kind Lam) (Some (cond (is_to ts r.ty) (row_of ts r.ty).left no_type))
    (cond (r.kind == kind Fix) (Some r.ty) None)

-- the names in sight with one more, where one is bound
abbrev pub under : Option ℕ → List ℕ → List ℕ
under None names = names
under (Some t) names = t ∷ names

-- the type of a name, if it is in sight and has one
abbrev pub known : Option ℕ → Option ℕ
known None = None
known (Some t) = cond (t == no_type) None (Some t)

-- a type, provided that a condition holds
abbrev pub need : Bool → ℕ → Option ℕ
need b t = cond b (Some t) None

-- the type of a form with the type t whose parts have the types x, y and z
abbrev pub rule : List TypeRow → Form → ℕ → ℕ → ℕ → ℕ → Option ℕ
rule ts Succ t x y z = need (x == 0) 0
rule ts Ifz t x y z = need (x == 0 && y == z) y
rule ts Lam t x y z = need (is_to ts t && x == (row_of ts t).right) t
rule ts Ap t x y z = need (is_to ts x && y == (row_of ts x).left) (row_of ts x).right
rule ts Fix t x y z = need (x == t) t
rule ts Pair t x y z = need (is_both ts t && (x == (row_of ts t).left && y == (row_of ts t).right)) t
rule ts Fst t x y z = need (is_both ts x) (row_of ts x).left
rule ts Snd t x y z = need (is_both ts x) (row_of ts x).right
rule ts Add t x y z = need (x == 0 && y == 0) 0
rule ts Sub t x y z = need (x == 0 && y == 0) 0
rule ts Mul t x y z = need (x == 0 && y == 0) 0
rule ts Get t x y z = need (x == 0) 0
rule ts Fail t x y z = Some t
rule ts Catch t x y z = need (x == y) x

-- the type of a row: nat of a number, a name's, or by the form's rule
abbrev pub own_type : List TypeRow → TermRow → Option ℕ → ℕ → ℕ → ℕ → Option ℕ
own_type ts r name x y z =
    cond (r.kind == 0) (Some 0)
    (cond (r.kind == 1) (known name)
    (rule ts (form_at r.kind) r.ty x y z))

-- a type, or the lowest row without one
abbrev pub Found : Type 0
Found = Result ℕ ℕ

-- the row without a type, if there is one
abbrev pub fault : Found → Option ℕ
fault (Ok t) = None
fault (Err p) = Some p

-- the type, which is of no account where there is none
abbrev pub type_in : Found → ℕ
type_in (Ok t) = t
type_in (Err p) = 0

-- the lowest fault of the parts; else this row's type, or this row
abbrev pub settled : ℕ → Option ℕ → Option ℕ → Found
settled p (Some q) t = Err q
settled p None (Some t) = Ok t
settled p None None = Err p

-- the type of row p by what was found of its parts
abbrev pub joined : List TypeRow → ℕ → TermRow → Option ℕ → Found → Found → Found → Found
joined ts p r name x y z = settled p (lower (fault x) (lower (fault y) (fault z))) (own_type ts r name (type_in x) (type_in y) (type_in z))

-- the type of the term at row p with these names in sight, by the types of its parts
abbrev pub type_form : List TypeRow → (ℕ → List ℕ → Found) → ℕ → TermRow → List ℕ → Found
type_form ts part p r names =
    joined ts p r (slice_get names r.number)
    (cond (nat_lt 0 (arity r.kind)) (part r.a (under (bound ts r) names)) (Ok 0))
    (cond (nat_lt 1 (arity r.kind)) (part r.b names) (Ok 0))
    (cond (nat_lt 2 (arity r.kind)) (part r.c (0 ∷ names)) (Ok 0))

-- the same by what was found of the rows before it, in a table
abbrev pub type_row : List TypeRow → List (List ℕ → Found) → TermRow → List ℕ → Found
type_row ts done r = type_form ts (λ p. get_or done p (λ _. Ok 0)) (length done) r

-- the type of the term at row p with these names in sight, or its lowest row without one
abbrev pub type_at : List TypeRow → List TermRow → ℕ → List ℕ → Found
type_at ts es p = slice_index_or (rows_as (type_row ts) [] es) p (λ _. Ok 0)
