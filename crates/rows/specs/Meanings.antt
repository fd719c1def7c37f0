-- What a counter means, and what every meaning keeps.
use Rattle.std.specs.Prelude.{◌≡◌, ℕ, ◌<◌, ◌≤◌, Some, None, Option}
use Rattle.rows.specs.Limits.{top}

-- A meaning gives each question an amount, or nothing.
abbrev pub Meaning : Type 0
Meaning = ℕ → Option ℕ

-- Questions and amounts are numbers from 0 to top.
pub record Lawful (M : Meaning) : Type 0 where
  -- No amount is above top.
  pub amounts : (question amount : ℕ) → M question ≡ Some amount → amount ≤ top
  -- A question above top has no amount.
  pub above : (question : ℕ) → top < question → M question ≡ None
