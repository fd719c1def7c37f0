-- The laws that two tables keep.
use Rattle.std.specs.Prelude.{◌≡◌, ℕ, zero, suc, ◌+◌, ◌<◌, ◌≤◌, cond, ◌⊎◌, List, [], ◌∷◌, length, take, ◌==◌, ◌≢◌, nat_lt, slice_index, slice_index_or}
use Rattle.std.proofs.Common.{arith}
use Rattle.rows.specs.Limits.{top, most_types, most_terms}
use Rattle.rows.specs.declared.forms.Form.{Form}
use Rattle.rows.specs.declared.tables.TypeRow.{TypeRow}
use Rattle.rows.specs.declared.tables.TermRow.{TermRow}
use Rattle.rows.specs.Forms.{types, parts, form_at}
use Rattle.rows.specs.Rows.{nat_row, leaf_row, form_row}
use Rattle.theory.specs.Emit.{Tables}

-- every place is below n
abbrev pub Below : ℕ → List ℕ → Type 0
Below n [] = Unit {0}
Below n (x ∷ xs) = (x < n) × Below n xs

-- and so is the one at i
pub below_at : (n : ℕ) (xs : List ℕ) → Below n xs → (i : ℕ) → i < length xs → slice_index xs i < n
below_at n [] b i h = absurd (omega arith)
below_at n (x ∷ xs) b zero h = b.0
below_at n (x ∷ xs) b (suc i) h = below_at n xs b.1 i (omega arith)

-- row p beside n type rows: a number or a name, or a form with its types and its parts, which are earlier rows
pub data Row (n p : ℕ) (r : TermRow) : Type 0 where
  leaf : (k m : ℕ) → k < 2 → m ≤ top → r ≡ leaf_row k m → Row n p r
  form : (f : Form) (xs ys : List ℕ) → length xs ≡ types f → length ys ≡ parts f → Below n xs → Below p ys → r ≡ form_row f xs ys → Row n p r

-- row p of a type table, after row 0: a function or a pair of types at earlier rows
pub record Compound (p : ℕ) (r : TypeRow) : Type 0 where
  pub kind : (r.kind ≡ 1) ⊎ (r.kind ≡ 2)
  pub left : r.left < p
  pub right : r.right < p

-- the rows of a row's parts
abbrev pub parts_of : TermRow → List ℕ
parts_of r = cond (nat_lt r.kind 2) [] (take (parts (form_at r.kind)) (r.a ∷ r.b ∷ r.c ∷ []))

-- how often a place is in a list
abbrev pub times : ℕ → List ℕ → ℕ
times p [] = 0
times p (y ∷ ys) = cond (p == y) 1 0 + times p ys

-- how often a row is a part
abbrev pub uses : ℕ → List TermRow → ℕ
uses p [] = 0
uses p (r ∷ rs) = times p (parts_of r) + uses p rs

pub record Lawful (s : Tables) : Type 0 where
  pub type_count : (1 ≤ length s.0) × (length s.0 ≤ most_types)
  pub term_count : (1 ≤ length s.1) × (length s.1 ≤ most_terms)
  -- row 0 is nat, and no other row is
  pub first : (d : TypeRow) → slice_index_or s.0 0 d ≡ nat_row
  pub later : (p : ℕ) (d : TypeRow) → 0 < p → p < length s.0 → Compound p (slice_index_or s.0 p d)
  -- no two type rows are equal
  pub apart : (p q : ℕ) (d : TypeRow) → p < q → q < length s.0 → slice_index_or s.0 p d ≢ slice_index_or s.0 q d
  pub rows : (p : ℕ) (d : TermRow) → p < length s.1 → Row (length s.0) p (slice_index_or s.1 p d)
  -- every row but the last is a part exactly once
  pub once : (p : ℕ) → suc p < length s.1 → uses p s.1 ≡ 1
