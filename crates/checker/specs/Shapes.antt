-- Type rows of a shape, and the names that parts are under.
use Rattle.std.specs.Prelude.{ℕ, cond, ◌&&◌, List, length, Some, None, Option, ◌==◌, nat_lt}
use Rattle.rows.specs.declared.tables.TypeRow.{TypeRow}
use Rattle.rows.specs.declared.tables.TermRow.{TermRow}
use Rattle.checker.specs.Types.{row_of, bound}

-- the type row at a place, if there is one, and it is of kind k
abbrev pub shaped : List TypeRow → ℕ → ℕ → Option TypeRow
shaped ts k t = cond (nat_lt t (length ts) && (row_of ts t).kind == k) (Some (row_of ts t)) None

-- the type of the name that part i of a row is under, if it is under one
abbrev pub bound_at : List TypeRow → TermRow → ℕ → Option ℕ
bound_at ts r i = cond (i == 0) (bound ts r) (cond (i == 2) (Some 0) None)
