-- The values of the environment machine.
use Rattle.std.specs.Prelude.{ℕ}
use Rattle.theory.specs.Syntax.{Ty}

-- A number, a function by its type, the place of its body and an environment, or the cell of a pair.
pub data Value : Type 0 where
  Number : ℕ → Value
  Lam : Ty → ℕ → ℕ → Value
  Pair : ℕ → Value
