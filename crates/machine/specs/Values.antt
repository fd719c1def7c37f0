-- Values: numbers, functions and pairs of values.
use Rattle.std.specs.Prelude.{ℕ}
use Rattle.theory.specs.Syntax.{Ty, pair, Term, num, two, lam}

-- A value is a number, a function or a pair of values; a function and a pair have their type beside them.
pub data Value : Type 0 where
  amount : ℕ → Value
  function : Ty → Term → Value
  couple : Ty → Value → Value → Value
  deriving Discrete as discrete_value

-- the term that a value is
abbrev pub term : Value → Term
term (amount n) = num n
term (function T A) = lam T A
term (couple T v w) = two (pair T) (term v) (term w)
