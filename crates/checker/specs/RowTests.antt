-- The laws of type rows and of term rows, as a test of each row.
use Rattle.std.specs.Prelude.{◌≡◌, ℕ, suc, ◌<◌, Bool, true, false, cond, ◌&&◌, ◌||◌, List, length, ◌==◌, nat_le, nat_lt, slice_index_or}
use Rattle.rows.specs.Limits.{top}
use Rattle.rows.specs.declared.forms.Shape.TheVariants.{To, Both}
use Rattle.rows.specs.Forms.{types, parts, form_at, shape_kind}
use Rattle.rows.specs.Rows.{nat_row, leaf_row, row_alike, row_place}
use Rattle.rows.specs.declared.tables.TypeRow.{TypeRow}
use Rattle.rows.specs.declared.tables.TermRow.{TermRow}
use Rattle.theory.specs.Laws.{uses}

-- what is read where there is no term row
abbrev pub no_row : TermRow
no_row = leaf_row 0 0

-- a function or a pair of types at earlier rows
abbrev pub compound : ℕ → TypeRow → Bool
compound p r = (r.kind == shape_kind To || r.kind == shape_kind Both) && (nat_lt r.left p && nat_lt r.right p)

-- row 0 is nat; any later row is a function or a pair, and the first row that is equal to it is itself
abbrev pub good_type : List TypeRow → ℕ → Bool
good_type ts p =
    cond (p == 0) (row_alike (slice_index_or ts p nat_row) nat_row)
    (compound p (slice_index_or ts p nat_row) && row_place (slice_index_or ts p nat_row) ts == p)

-- how many parts the rows of a kind have: numbers and names have none
abbrev pub arity : ℕ → ℕ
arity k = cond (nat_lt k 2) 0 (parts (form_at k))

-- whether they have a type
abbrev pub typed : ℕ → Bool
typed k = cond (nat_lt k 2) false (nat_lt 0 (types (form_at k)))

-- a field that is used is below a limit, and any other is 0
abbrev pub placed : Bool → ℕ → ℕ → Bool
placed used x limit = cond used (nat_lt x limit) (x == 0)

-- the parts of row p are earlier rows
abbrev pub parts_placed : ℕ → TermRow → Bool
parts_placed p r =
    placed (nat_lt 0 (arity r.kind)) r.a p
    && (placed (nat_lt 1 (arity r.kind)) r.b p
    && placed (nat_lt 2 (arity r.kind)) r.c p)

-- and so are those of every row
abbrev pub PartsPlaced : List TermRow → Type 0
PartsPlaced es = (p : ℕ) → p < length es → parts_placed p (slice_index_or es p no_row) ≡ true

-- what term row p keeps beside n type rows
abbrev pub good_row : ℕ → ℕ → TermRow → Bool
good_row n p r =
    nat_le r.kind 15
    && (placed (nat_lt r.kind 2) r.number (suc top)
    && (placed (typed r.kind) r.ty n
    && parts_placed p r))

-- the same of row p of a table
abbrev pub good_term : ℕ → List TermRow → ℕ → Bool
good_term n es p = good_row n p (slice_index_or es p no_row)

-- a row is a part exactly once
abbrev pub used_once : List TermRow → ℕ → Bool
used_once es p = uses p es == 1
