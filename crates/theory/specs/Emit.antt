-- The rows of a term: a row for each term after the rows of its parts, and one for each type, made where its bracket first closes.
use Rattle.std.specs.Prelude.{ℕ, cond, List, [], ◌∷◌, ◌++◌, map, length, nat_lt}
use Rattle.theory.specs.Syntax.{Ty, Term}
use Rattle.rows.specs.declared.forms.Form.{Form}
use Rattle.rows.specs.declared.tables.TypeRow.{TypeRow}
use Rattle.rows.specs.declared.tables.TermRow.{TermRow}
use Rattle.rows.specs.declared.forms.Shape.{Shape}
use Rattle.rows.specs.Forms.{shape_kind}
use Rattle.rows.specs.Rows.{type_row, nat_row, leaf_row, form_row, row_place}
use Rattle.theory.specs.Folds.{Types, fold_type, Terms, fold}

abbrev pub Tables : Type 0
Tables = List TypeRow × List TermRow

-- the tables with some rows more, and the place of the last one
abbrev pub Emits : Type 0
Emits = Tables → Tables × ℕ

-- a type row, unless an equal one is there
abbrev pub add_type : TypeRow → Emits
add_type r s = cond (nat_lt (row_place r s.0) (length s.0)) (s, row_place r s.0) ((s.0 ++ r ∷ [], s.1), length s.0)

abbrev pub add_term : TermRow → Emits
add_term r s = ((s.0, s.1 ++ r ∷ []), length s.1)

-- one after the other, with all their places
abbrev pub emit_all : List Emits → Tables → Tables × List ℕ
emit_all [] s = (s, [])
emit_all (l ∷ ls) s = ((emit_all ls (l s).0).0, (l s).1 ∷ (emit_all ls (l s).0).1)

abbrev pub emit_shape : Shape → Emits → Emits → Emits
emit_shape k t u s = add_type (type_row (shape_kind k) (t s).1 (u (t s).0).1) (u (t s).0).0

abbrev pub type_emits : Types Emits
type_emits = record { natural = λ s. (s, 0); shape = emit_shape }

abbrev pub emit_type : Ty → Emits
emit_type T = fold_type type_emits T

-- a form's types, then its parts, then its own row
abbrev pub emit_form : Form → List Ty → List Emits → Emits
emit_form f Ts es s =
    let t = emit_all (map emit_type Ts) s in
    let p = emit_all es t.0 in
    add_term (form_row f t.1 p.1) p.0

abbrev pub term_emits : Terms Emits
term_emits = record { number = λ n. add_term (leaf_row 0 n); called = λ d. add_term (leaf_row 1 d); form = emit_form }

abbrev pub emit : Term → Emits
emit e = fold term_emits e

abbrev pub empty : Tables
empty = (nat_row ∷ [], [])

abbrev pub rows_of : Term → Tables
rows_of e = (emit e empty).0
