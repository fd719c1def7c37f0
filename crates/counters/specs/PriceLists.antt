-- What rows mean as a price list, and when they are refused.
use Rattle.std.specs.Prelude.{ℕ, ◌+◌, Bool, cond, ◌&&◌, List, [], ◌∷◌, length, Some, None, ◌==◌, nat_le, nat_lt}
use Rattle.rows.specs.Limits.{top}
use Rattle.counters.specs.declared.price.PriceRow.{PriceRow}
use Rattle.counters.specs.Limits.{most_rows, largest_field}
use Rattle.counters.specs.Tables.{Table}
use Rattle.counters.specs.Refusals.{Outcome, earlier}

-- The price in the article's row; nothing without a row.
abbrev pub price_table : List PriceRow → Table
price_table [] article = None
price_table (row ∷ rows) article = cond (row.article == article) (Some row.price) (price_table rows article)

-- Whether a row's article is at most 9,999 and its price an amount.
abbrev pub is_priced : PriceRow → Bool
is_priced row = nat_le row.article largest_field && nat_le row.price top

-- 34 at place i for a row with a field out of range, else 35 for an article below the least that it may have.
abbrev pub row_fault : PriceRow → ℕ → ℕ → Outcome
row_fault row least i = cond (is_priced row) (cond (nat_le least row.article) None (Some (35, i))) (Some (34, i))

-- The first fault of these rows, of which the first has place i. Each row after it has to be above the one before.
abbrev pub first_bad : List PriceRow → ℕ → ℕ → Outcome
first_bad [] least i = None
first_bad (row ∷ rows) least i = earlier (row_fault row least i) (first_bad rows (row.article + 1) (i + 1))

-- 33 above 2,000 rows, and then 34 or 35 at the first bad row. Every article may stand in the first row.
abbrev pub prices_outcome : List PriceRow → Outcome
prices_outcome rows = cond (nat_lt most_rows (length rows)) (Some (33, most_rows)) (first_bad rows 0 0)
