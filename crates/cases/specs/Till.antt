-- A rule's text, read and then run to a halt over the counter of a till.
use Rattle.std.specs.Prelude.{ℕ, List, Some, None, codes, Option}
use Prim.Native.String.{String}
use Rattle.rows.specs.Meanings.{Meaning}
use Rattle.theory.specs.Emit.{Tables}
use Rattle.theory.specs.Stands.{rule_of}
use Rattle.grammar.specs.Reader.{Outcome, accepted, refused_at}
use Rattle.grammar.specs.Theorems.{outcome_within}
use Rattle.counters.specs.declared.line.Line.{Line}
use Rattle.counters.specs.declared.price.PriceRow.{PriceRow}
use Rattle.counters.specs.Baskets.{basket_table}
use Rattle.counters.specs.PriceLists.{price_table}
use Rattle.counters.specs.Splits.{split_table}
use Rattle.runs.specs.Standings.{Limits, Status}
use Rattle.runs.specs.Calls.{start, advance, called, Report, report}

-- A line of a basket: an article and a quantity.
abbrev pub line : ℕ → ℕ → Line
line a q = record { article = a; quantity = q }

-- A row of a price list: an article and its price.
abbrev pub price : ℕ → ℕ → PriceRow
price a p = record { article = a; price = p }

-- The till asks its basket below 10,000, and its price list from there on.
abbrev pub till : List Line → List PriceRow → Meaning
till lines rows = split_table 10000 (basket_table lines) (price_table rows)

-- A status, with the steps, moves and cells.
abbrev pub Halt : Type 0
Halt = Status × ℕ × ℕ × ℕ

-- What a report says of the halt.
abbrev pub halt : Report → Halt
halt r = (r.status, r.steps, r.moves, r.cells)

-- The rule of the tables that were read, advanced by all its fuel; nothing of a text that is refused.
abbrev pub ran : Meaning → Limits → Outcome Tables ℕ → Option Halt
ran M L (accepted s n) = Some (halt (report (called (start L (rule_of s)) (advance M L.fuel))))
ran M L (refused_at f p) = None

-- The text, read into as many rows as a sheet may have with 64 forms open at most, and then run.
abbrev pub outcome : List Line → List PriceRow → Limits → String → Option Halt
outcome lines rows L text = ran (till lines rows) L (outcome_within 16384 1024 2048 1024 2048 64 (codes text))
