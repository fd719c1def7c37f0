-- A till's question, to a basket below 10,000 and to a price list from there on.
use Rattle.std.specs.Prelude.{◌≡◌, ℕ, List, Some, None, Ok, Err, Option, Result}
use Rattle.counters.specs.declared.line.Line.{Line}
use Rattle.counters.specs.declared.price.PriceRow.{PriceRow}
use Rattle.counters.specs.declared.refusal.Refusal.{Refusal}
use Rattle.counters.specs.Tables.{Table}
use Rattle.counters.specs.Refusals.{told, earlier}
use Rattle.counters.specs.Baskets.{basket_outcome, basket_table}
use Rattle.counters.specs.PriceLists.{prices_outcome, price_table}
use Rattle.counters.specs.Splits.{split_table}

-- The table of both lists.
abbrev pub till_table : List Line → List PriceRow → Table
till_table lines rows = split_table 10000 (basket_table lines) (price_table rows)

-- The entry of the table where neither list is refused, else the first refusal.
abbrev pub Asked : Result (Option ℕ) Refusal → List Line → List PriceRow → ℕ → Type 0
Asked (Ok answer) lines rows question = (earlier (basket_outcome lines) (prices_outcome rows) ≡ None) × (answer ≡ till_table lines rows question)
Asked (Err refusal) lines rows question = earlier (basket_outcome lines) (prices_outcome rows) ≡ Some (told refusal)
