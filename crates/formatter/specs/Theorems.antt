-- Tidy text stays as it is.
use Rattle.std.specs.Prelude.{◌≡◌, ℕ, List, ◌++◌, Ok}
use Rattle.formatter.specs.Lines.{tidied, newline, formatted}

-- a tidy text is tidied to itself, and a line of it formatted to that line
pub record Stays (t : List ℕ) : Type 0 where
  pub text : tidied t ≡ Ok t
  pub whole : formatted (t ++ newline) ≡ t ++ newline

-- what tidying gives is tidy
abbrev pub TidyStays : Type 0
TidyStays = (bs t : List ℕ) → tidied bs ≡ Ok t → Stays t
