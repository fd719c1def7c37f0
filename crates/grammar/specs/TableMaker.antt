-- Making the rows of the two tables, as forms close.
use Rattle.std.specs.Prelude.{ℕ, cond, [], ◌∷◌, ◌++◌, length, Some, None, Option, nat_lt}
use Rattle.rows.specs.declared.tables.TypeRow.{TypeRow}
use Rattle.rows.specs.declared.tables.TermRow.{TermRow}
use Rattle.rows.specs.Forms.{shape_kind}
use Rattle.rows.specs.Rows.{type_row, leaf_row, form_row, row_place}
use Rattle.theory.specs.Emit.{Tables}
use Rattle.grammar.specs.Reader.{Maker}

-- one term row more, where there is room: the tables then, and its place
abbrev pub row_made : ℕ → TermRow → Tables → Option (Tables × ℕ)
row_made room r s = cond (nat_lt (length s.1) room) (Some ((s.0, s.1 ++ r ∷ []), length s.1)) None

-- a type row, made once
abbrev pub type_made : ℕ → TypeRow → Tables → Option (Tables × ℕ)
type_made room r s =
    cond (nat_lt (row_place r s.0) (length s.0)) (Some (s, row_place r s.0))
    (cond (nat_lt (length s.0) room) (Some ((s.0 ++ r ∷ [], s.1), length s.0)) None)

-- rows of the two tables, with room for so many of each; a type or a term stands at a place
abbrev pub into_tables : ℕ → ℕ → Maker Tables ℕ ℕ
into_tables type_room term_room = record {
  natural = 0;
  shape = λ k l r s. type_made type_room (type_row (shape_kind k) l r) s;
  leaf = λ k n s. row_made term_room (leaf_row k n) s;
  form = λ f xs ys s. row_made term_room (form_row f xs ys) s;
}
