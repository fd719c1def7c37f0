-- The texts of rows.
use Rattle.std.specs.Prelude.{ℕ, List}
use Rattle.rows.specs.declared.tables.TypeRow.{TypeRow}
use Rattle.theory.specs.Emit.{Tables}
use Rattle.theory.specs.Stands.{term_at}
use Rattle.theory.specs.Theorems.{type_at}
use Rattle.grammar.specs.Tight.{tight_type, tight}

-- the text of a type row, and that of a term row
abbrev pub type_text : List TypeRow → ℕ → List ℕ
type_text ts p = tight_type (type_at ts p)

abbrev pub term_text : Tables → ℕ → List ℕ
term_text s p = tight (term_at s p)
