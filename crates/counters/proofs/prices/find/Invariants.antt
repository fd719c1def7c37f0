use Rattle.std.proofs.Common.{ℕ, ◌-◌, ◌<◌, ◌≤◌, length, get_or}
use Rattle.counters.specs.declared.price.PriceRow.{PriceRow}
use Rattle.counters.proofs.Looks.{digits}
use Rattle.counters.proofs.prices.find.Given as goal

abbrev pub none : PriceRow
none = record { article = 0; price = 0 }

-- The rows before low are below the article, and those from high on above it.
abbrev pub invariant-loop-low : goal.invariant-loop-low
invariant-loop-low l =
    (l.high ≤ length l.rows)
    × ((k : ℕ) → k < l.low → (get_or l.rows k none).article < l.article)
    × ((k : ℕ) → l.high ≤ k → k < length l.rows → l.article < (get_or l.rows k none).article)

-- At most 11 looks, since 2,000 rows are fewer than 2 ^ 11.
abbrev pub decreases-loop-low : goal.decreases-loop-low
decreases-loop-low l = digits 11 (l.high - l.low)
