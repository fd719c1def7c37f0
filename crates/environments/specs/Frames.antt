-- The frames of the environment machine.
use Rattle.std.specs.Prelude.{ℕ}
use Rattle.theory.specs.Syntax.{One, Two}
use Rattle.environments.specs.Values.{Value}

-- A form with one part open. A part that waits is the place of a node, with an environment; the two branches of an
-- ifz share one.
pub data Frame : Type 0 where
  Unary : One → Frame
  First : Two → ℕ → ℕ → Frame
  Second : Two → Value → Frame
  Ifz : ℕ → ℕ → ℕ → Frame
  Apply : ℕ → ℕ → Frame
  Catch : ℕ → ℕ → Frame
