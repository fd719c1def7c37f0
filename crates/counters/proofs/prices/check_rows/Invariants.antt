use Rattle.std.proofs.Common.{◌≡◌, drop}
use Rattle.counters.specs.PriceLists.{first_bad}
use Rattle.counters.proofs.prices.check_rows.Given as goal

abbrev pub invariant-loop-place : goal.invariant-loop-place
invariant-loop-place l = first_bad (drop l.place l.rows) l.least l.place ≡ first_bad l.rows 0 0
