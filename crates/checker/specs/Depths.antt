-- Rows under too many binders.
use Rattle.std.specs.Prelude.{ℕ, ◌+◌, Bool, cond, ◌||◌, List, [], length, get_or, Some, None, Option, ◌==◌, nat_lt, slice_index_or}
use Rattle.rows.specs.declared.tables.TermRow.{TermRow}
use Rattle.rows.specs.declared.forms.Form.TheVariants.{Lam, Fix}
use Rattle.rows.specs.Forms.{kind}
use Rattle.checker.specs.Lowest.{first_of, lower}
use Rattle.checker.specs.RowTests.{arity}
use Rattle.checker.specs.Descents.{rows_as}

-- whether the first part of rows of a kind is under a name; of the others only the third is, which ifz alone has
abbrev pub opens : ℕ → Bool
opens k = k == kind Lam || k == kind Fix

-- the lowest row of the term at row p, which is under d binders, that is under more than limit, by the same of its parts
abbrev pub deep_form : ℕ → (ℕ → ℕ → Option ℕ) → ℕ → TermRow → ℕ → Option ℕ
deep_form limit part p r d =
    first_of
    (lower (cond (nat_lt 0 (arity r.kind)) (part r.a (d + cond (opens r.kind) 1 0)) None)
    (lower (cond (nat_lt 1 (arity r.kind)) (part r.b d) None)
    (cond (nat_lt 2 (arity r.kind)) (part r.c (d + 1)) None)))
    (cond (nat_lt limit d) (Some p) None)

-- the same by what was said of the rows before it, in a table
abbrev pub deep_row : ℕ → List (ℕ → Option ℕ) → TermRow → ℕ → Option ℕ
deep_row limit done r = deep_form limit (λ p. get_or done p (λ _. None)) (length done) r

-- the lowest row of the term at row p that is under more than limit, where row p is under so many
abbrev pub deep_at : ℕ → List TermRow → ℕ → ℕ → Option ℕ
deep_at limit es p = slice_index_or (rows_as (deep_row limit) [] es) p (λ _. None)
