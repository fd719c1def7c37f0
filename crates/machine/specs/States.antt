-- The states of the control-stack machine.
use Rattle.std.specs.Prelude.{List}
use Rattle.theory.specs.Syntax.{One, Two, Term}
use Rattle.machine.specs.Values.{Value}

-- A form with the part that is being run left open. Of a form with two parts that are both run, the first part is open
-- and the second waits, or the first is a value and the second is open.
pub data Frame : Type 0 where
  in_one : One → Frame
  in_first : Two → Term → Frame
  in_second : Two → Value → Frame
  in_ifz : Term → Term → Frame
  in_app : Term → Frame
  in_catch : Term → Frame
  deriving Discrete as discrete_frame

-- the top frame first
abbrev pub Stack : Type 0
Stack = List Frame

-- k ▷ e evaluates e, k ◁ v returns the value v, and k ◂ fails, each under the frames of k
infix 40 ◌▷◌ ◌◁◌ ◌◂
pub data State : Type 0 where
  ◌▷◌ : Stack → Term → State
  ◌◁◌ : Stack → Value → State
  ◌◂ : Stack → State
  deriving Discrete as discrete_state
