-- What a counter means, and what every meaning keeps.
use Rattle.std.specs.Prelude.{◌≡◌, ℕ, ◌<◌, ◌≤◌, Some, None, Option}
use Rattle.rows.specs.Limits.{top}

-- A table gives each question an amount, or nothing.
abbrev pub Table : Type 0
Table = ℕ → Option ℕ

-- Questions and amounts are numbers from 0 to top.
pub record Lawful (table : Table) : Type 0 where
  -- No amount is above top.
  pub amounts : (question amount : ℕ) → table question ≡ Some amount → amount ≤ top
  -- A question above top has no amount.
  pub above : (question : ℕ) → top < question → table question ≡ None

-- The amount of an entry, and 0 where there is none.
abbrev pub amount_or_zero : Option ℕ → ℕ
amount_or_zero (Some amount) = amount
amount_or_zero None = 0
