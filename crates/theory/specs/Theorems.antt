-- What the rows of a term are.
use Rattle.std.specs.Prelude.{◌≡◌, ℕ, suc, ◌<◌, ◌≤◌, cond, List, [], ◌∷◌, map, length, get_or, take, ◌==◌, ◌≢◌, slice_index_or}
use Rattle.rows.specs.Limits.{top}
use Rattle.rows.specs.Forms.{types, parts, form_at}
use Rattle.rows.specs.declared.tables.TypeRow.{TypeRow}
use Rattle.rows.specs.declared.tables.TermRow.{TermRow}
use Rattle.theory.specs.Syntax.{Ty, nat, Term, num, name}
use Rattle.theory.specs.Folds.{built, largest}
use Rattle.theory.specs.Emit.{Tables, emit, empty, rows_of}
use Rattle.theory.specs.Stands.{type_of_row, types_from, term_at, rule_of}
use Rattle.theory.specs.Laws.{Below, parts_of, Lawful}

-- they stand for the term, which is at the last of them
pub record Standing (e : Term) : Type 0 where
  pub stands : rule_of (rows_of e) ≡ e
  pub last : suc (emit e empty).1 ≡ length (rows_of e).1

abbrev pub RowsStand : Type 0
RowsStand = (e : Term) → Standing e

-- and keep every law of tables, where there are at most so many of them and no number is above the largest
abbrev pub RowsLawful : ℕ → ℕ → ℕ → Type 0
RowsLawful types terms highest =
    (e : Term) → largest e ≤ highest → length (rows_of e).0 ≤ types → length (rows_of e).1 ≤ terms → Lawful (rows_of e)

-- the type at a row
abbrev pub type_at : List TypeRow → ℕ → Ty
type_at ts p = slice_index_or (types_from [] ts) p nat

-- the rows of the types of a form's row
abbrev pub types_of : TermRow → List ℕ
types_of r = take (types (form_at r.kind)) (r.ty ∷ [])

-- row p of a type table by the rows before it
pub record TypeUnfolds (ts : List TypeRow) (p : ℕ) (r : TypeRow) : Type 0 where
  pub earlier : (r.kind ≢ 0) → (r.left < p) × (r.right < p)
  pub stands : type_at ts p ≡ type_of_row (types_from [] ts) r

-- row p, a number or a name
pub record LeafUnfolds (s : Tables) (p : ℕ) (r : TermRow) : Type 0 where
  pub small : r.number ≤ top
  pub stands : term_at s p ≡ cond (r.kind == 0) (num r.number) (name r.number)

-- row p, a form with the rows of its types and of its parts
pub record FormUnfolds (s : Tables) (p : ℕ) (r : TermRow) : Type 0 where
  pub all_types : length (types_of r) ≡ types (form_at r.kind)
  pub all_parts : length (parts_of r) ≡ parts (form_at r.kind)
  pub types_below : Below (length s.0) (types_of r)
  pub parts_below : Below p (parts_of r)
  pub stands : term_at s p ≡ built (form_at r.kind) (map (type_at s.0) (types_of r)) (map (term_at s) (parts_of r))

-- what each row of two tables stands for, by the rows before it
pub record Unfolds (s : Tables) : Type 0 where
  pub type : (p : ℕ) (d : TypeRow) → p < length s.0 → TypeUnfolds s.0 p (slice_index_or s.0 p d)
  pub leaf : (p : ℕ) (d : TermRow) → p < length s.1 → (get_or s.1 p d).kind < 2 → LeafUnfolds s p (slice_index_or s.1 p d)
  pub form : (p : ℕ) (d : TermRow) → p < length s.1 → 2 ≤ (get_or s.1 p d).kind → FormUnfolds s p (slice_index_or s.1 p d)
  -- no number or name in it is larger than the largest amount
  pub small : (p : ℕ) → p < length s.1 → largest (term_at s p) ≤ top

abbrev pub RowsUnfold : Type 0
RowsUnfold = (s : Tables) → Lawful s → Unfolds s

-- the rule of lawful tables has as many term rows as they, since no row is shared or left out, and no more type rows
pub record Counted (s : Tables) : Type 0 where
  pub terms : length (rows_of (rule_of s)).1 ≡ length s.1
  pub types : length (rows_of (rule_of s)).0 ≤ length s.0

abbrev pub RowsCounted : Type 0
RowsCounted = (s : Tables) → Lawful s → Counted s
