-- The modes of the environment machine.
use Rattle.environments.specs.Closures.{Closed}
use Rattle.environments.specs.Values.{Value}

-- The machine evaluates a closure, returns a value, or fails.
pub data Mode : Type 0 where
  Eval : Closed → Mode
  Return : Value → Mode
  Fail : Mode
