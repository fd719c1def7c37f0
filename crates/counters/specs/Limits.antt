-- How large a basket and a price list can be.
use Rattle.std.specs.Prelude.{ℕ}

-- The most lines of a basket.
abbrev pub most_lines : ℕ
most_lines = 200

-- The most rows of a price list.
abbrev pub most_rows : ℕ
most_rows = 2000

-- The largest article, and the largest quantity of a line.
abbrev pub largest_field : ℕ
largest_field = 9999
