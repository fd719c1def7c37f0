-- The largest amount, and the most rows of a sheet.
use Rattle.std.specs.Prelude.{ℕ}

abbrev pub top : ℕ
top = 999999999

abbrev pub most_types : ℕ
most_types = 1024

abbrev pub most_terms : ℕ
most_terms = 2048
