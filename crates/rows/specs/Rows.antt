-- Rows by what they hold. A field that is not used is 0.
use Rattle.std.specs.Prelude.{ℕ, suc, Bool, false, cond, List, [], ◌∷◌, ◌==◌, slice_index}
use Rattle.rows.specs.declared.forms.Form.{Form}
use Rattle.rows.specs.declared.tables.TypeRow.{TypeRow}
use Rattle.rows.specs.declared.tables.TermRow.{TermRow}
use Rattle.rows.specs.Forms.{kind}

abbrev pub type_row : ℕ → ℕ → ℕ → TypeRow
type_row k l r = record { kind = k; left = l; right = r }

-- nat, which is row 0 of every type table
abbrev pub nat_row : TypeRow
nat_row = type_row 0 0 0

-- a number, of kind 0, or a name, of kind 1
abbrev pub leaf_row : ℕ → ℕ → TermRow
leaf_row k n = record { kind = k; ty = 0; number = n; a = 0; b = 0; c = 0 }

-- a form with the rows of its types and of its parts
abbrev pub form_row : Form → List ℕ → List ℕ → TermRow
form_row f xs ys = record { kind = kind f; ty = slice_index xs 0; number = 0; a = slice_index ys 0; b = slice_index ys 1; c = slice_index ys 2 }

abbrev pub row_alike : TypeRow → TypeRow → Bool
row_alike p q = cond (p.kind == q.kind) (cond (p.left == q.left) (p.right == q.right) false) false

-- the place of the first equal row, or the number of rows
abbrev pub row_place : TypeRow → List TypeRow → ℕ
row_place p [] = 0
row_place p (q ∷ qs) = cond (row_alike p q) 0 (suc (row_place p qs))
