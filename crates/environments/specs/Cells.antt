-- The cells of the environment machine.
use Rattle.std.specs.Prelude.{ℕ}
use Rattle.theory.specs.Syntax.{Ty}
use Rattle.environments.specs.Closures.{Closed}
use Rattle.environments.specs.Values.{Value}

-- A binding: what its name is bound to, and the environment outside it. Or a pair: its type and its two values.
pub data Cell : Type 0 where
  Bound : Closed → ℕ → Cell
  Pair : Ty → Value → Value → Cell
