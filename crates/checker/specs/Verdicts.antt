-- What the check of two tables finds: nothing, or the first fault and its lowest row.
use Rattle.std.specs.Prelude.{ℕ, ◌-◌, Bool, cond, not, ◌||◌, [], length, is_some, Some, None, Ok, Err, Option, Result, ◌==◌, nat_lt}
use Rattle.rows.specs.Limits.{most_types, most_terms}
use Rattle.theory.specs.Emit.{Tables}
use Rattle.checker.specs.declared.refusal.Fault.{Fault}
use Rattle.checker.specs.declared.refusal.Fault.TheVariants.{TableSize, BadType, BadTerm, PartUse, TooDeep, Untyped, NotNat}
use Rattle.checker.specs.declared.refusal.Refusal.{Refusal}
use Rattle.checker.specs.Lowest.{first_of, lowest}
use Rattle.checker.specs.RowTests.{good_type, good_term, used_once}
use Rattle.checker.specs.Depths.{deep_at}
use Rattle.checker.specs.Types.{Found, type_at}

-- a fault at a row
abbrev pub refusal : Fault → ℕ → Refusal
refusal f p = record { fault = f; row = p }

-- a fault at a row, if there is one
abbrev pub at_row : Fault → Option ℕ → Option Refusal
at_row f None = None
at_row f (Some p) = Some (refusal f p)

-- no row, or too many
abbrev pub misfit : ℕ → ℕ → Bool
misfit most n = n == 0 || nat_lt most n

-- the fault of a table with no row or too many
abbrev pub sizes : Tables → Option Refusal
sizes s = cond (misfit most_types (length s.0) || misfit most_terms (length s.1)) (Some (refusal TableSize 0)) None

-- the first law of tables that is broken
abbrev pub rows_verdict : Tables → Option Refusal
rows_verdict s =
    first_of (sizes s)
    (first_of (at_row BadType (lowest (good_type s.0) (length s.0)))
    (first_of (at_row BadTerm (lowest (good_term (length s.0) s.1) (length s.1)))
    (at_row PartUse (lowest (used_once s.1) (length s.1 - 1)))))

-- the rule has no type, or one that is not nat
abbrev pub ends : ℕ → Found → Option Refusal
ends last (Err p) = Some (refusal Untyped p)
ends last (Ok t) = cond (t == 0) None (Some (refusal NotNat last))

-- the first fault of two tables, with so many sight rows
abbrev pub verdict : Tables → ℕ → Option Refusal
verdict s sight =
    first_of (rows_verdict s)
    (first_of (at_row TooDeep (deep_at sight s.1 (length s.1 - 1) 0))
    (ends (length s.1 - 1) (type_at s.0 s.1 (length s.1 - 1) [])))

-- no fault is a pass
abbrev pub answer : Option Refusal → Result (Unit {0}) Refusal
answer None = Ok tt
answer (Some f) = Err f

-- whether two tables pass with sight rows enough
abbrev pub passes : Tables → Bool
passes s = not (is_some (verdict s (length s.1)))
