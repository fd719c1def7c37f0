-- The term that two tables stand for: each row by the rows before it.
use Rattle.std.specs.Prelude.{ℕ, ◌-◌, cond, List, [], ◌∷◌, ◌++◌, length, ◌==◌, slice_index_or}
use Rattle.theory.specs.Syntax.{Ty, nat, Term, num, name}
use Rattle.rows.specs.declared.forms.Shape.TheVariants.{To, Both}
use Rattle.rows.specs.declared.tables.TypeRow.{TypeRow}
use Rattle.rows.specs.declared.tables.TermRow.{TermRow}
use Rattle.rows.specs.Forms.{form_at}
use Rattle.theory.specs.Folds.{shaped, built}
use Rattle.theory.specs.Emit.{Tables}

-- a row's type, where the rows before it stand for Ts
abbrev pub type_of_row : List Ty → TypeRow → Ty
type_of_row Ts r = cond (r.kind == 0) nat (shaped (cond (r.kind == 1) To Both) (slice_index_or Ts r.left nat) (slice_index_or Ts r.right nat))

-- the types of all rows, after those of Ts
abbrev pub types_from : List Ty → List TypeRow → List Ty
types_from Ts [] = Ts
types_from Ts (r ∷ rs) = types_from (Ts ++ type_of_row Ts r ∷ []) rs

-- a row's term, where the type rows stand for Ts and the term rows before it for es
abbrev pub term_of_row : List Ty → List Term → TermRow → Term
term_of_row Ts es r =
    cond (r.kind == 0) (num r.number)
    (cond (r.kind == 1) (name r.number)
    (built (form_at r.kind) (slice_index_or Ts r.ty nat ∷ []) (slice_index_or es r.a (num 0) ∷ slice_index_or es r.b (num 0) ∷ slice_index_or es r.c (num 0) ∷ [])))

-- the terms of all rows, after those of es
abbrev pub terms_from : List Ty → List Term → List TermRow → List Term
terms_from Ts es [] = es
terms_from Ts es (r ∷ rs) = terms_from Ts (es ++ term_of_row Ts es r ∷ []) rs

-- the term at a row
abbrev pub term_at : Tables → ℕ → Term
term_at s p = slice_index_or (terms_from (types_from [] s.0) [] s.1) p (num 0)

-- the last row is the rule
abbrev pub rule_of : Tables → Term
rule_of s = term_at s (length s.1 - 1)
