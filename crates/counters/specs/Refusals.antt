-- The refusals of making a basket or a price list, by number and place.
use Rattle.std.specs.Prelude.{ℕ, Some, None, Ok, Err, Option, Result}
use Rattle.counters.specs.Limits.{most_lines, most_rows}
use Rattle.counters.specs.declared.refusal.Refusal.{Refusal}
use Rattle.counters.specs.declared.refusal.Refusal.TheVariants.{TooManyLines, LargeLine, TooManyRows, LargeRow, RowOrder}

-- The number and the place by which a refusal is told.
abbrev pub told : Refusal → ℕ × ℕ
told TooManyLines = (31, most_lines)
told (LargeLine i) = (32, i)
told TooManyRows = (33, most_rows)
told (LargeRow i) = (34, i)
told (RowOrder i) = (35, i)

-- What making comes to: nothing where it succeeds, else the number and the place of its refusal.
abbrev pub Outcome : Type 0
Outcome = Option (ℕ × ℕ)

-- The outcome that a result stands for.
abbrev pub outcome : {A : Type 0} → Result A Refusal → Outcome
outcome (Ok _) = None
outcome (Err refusal) = Some (told refusal)

-- The first refusal of two.
abbrev pub earlier : Outcome → Outcome → Outcome
earlier (Some refused) other = Some refused
earlier None other = other
