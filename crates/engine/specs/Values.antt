-- What values become.
use Rattle.std.specs.Prelude.{ℕ, cond, Some, None, Option, nat_le}
use Rattle.rows.specs.Limits.{top}
use Rattle.engine.specs.declared.state.Closure.{Closure}
use Rattle.engine.specs.declared.state.Closure.TheVariants as D
use Rattle.engine.specs.declared.state.Value.{Value}
use Rattle.engine.specs.declared.state.Value.TheVariants as V
use Rattle.engine.specs.declared.state.Cell.{Cell}
use Rattle.engine.specs.declared.state.Cell.TheVariants as C
use Rattle.engine.specs.declared.state.Mode.{Mode}
use Rattle.engine.specs.declared.state.Mode.TheVariants as M

-- a number as an amount, or a failure above top
abbrev pub limited_to : ℕ → Mode
limited_to n = cond (nat_le n top) (M.Return (V.Number n)) M.Fail

-- an answer, or a failure where there is none
abbrev pub answered_by : Option ℕ → Mode
answered_by (Some n) = M.Return (V.Number n)
answered_by None = M.Fail

-- a closure evaluated
abbrev pub closure_mode : Closure → Mode
closure_mode (D.Number n) = M.Numeral n
closure_mode (D.Row r e) = M.Eval r e

-- the halves of a pair, and 0 of any other cell
abbrev pub halves_of : Cell → Value × Value
halves_of (C.Pair p v w) = (v, w)
halves_of _ = (V.Number 0, V.Number 0)

-- the cell that binds a name to a closure
abbrev pub bound_to : Closure → ℕ → Cell
bound_to (D.Row r e) x = C.Bound r e x
bound_to (D.Number n) x = C.Number n x
