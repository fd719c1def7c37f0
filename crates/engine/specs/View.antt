-- What the store and the mode are, as a state of the environment machine.
use Rattle.std.specs.Prelude.{ℕ, [], slice_index_or}
use Rattle.rows.specs.declared.tables.TermRow.{TermRow}
use Rattle.rows.specs.Rows.{leaf_row}
use Rattle.theory.specs.Syntax.{Ty, nat, succ, fst, snd, get, pair, calc}
use Rattle.theory.specs.Syntax as T
use Rattle.theory.specs.Emit.{Tables}
use Rattle.theory.specs.Stands.{types_from}
use Rattle.environments.specs.Closures as D
use Rattle.environments.specs.Values as EV
use Rattle.environments.specs.Cells as EC
use Rattle.environments.specs.Frames as EF
use Rattle.environments.specs.Modes as EM
use Rattle.engine.specs.declared.state.Op.{Op}
use Rattle.engine.specs.declared.state.Op.TheVariants as O
use Rattle.engine.specs.declared.state.Value.{Value}
use Rattle.engine.specs.declared.state.Value.TheVariants as V
use Rattle.engine.specs.declared.state.Frame.{Frame}
use Rattle.engine.specs.declared.state.Frame.TheVariants as F
use Rattle.engine.specs.declared.state.Cell.{Cell}
use Rattle.engine.specs.declared.state.Cell.TheVariants as C
use Rattle.engine.specs.declared.state.Mode.{Mode}
use Rattle.engine.specs.declared.state.Mode.TheVariants as M

-- the row at a place, and the type that it has
abbrev pub row_at : Tables → ℕ → TermRow
row_at s r = slice_index_or s.1 r (leaf_row 0 0)

abbrev pub type_in : Tables → ℕ → Ty
type_in s r = slice_index_or (types_from [] s.0) (row_at s r).ty nat

abbrev pub op_of : Op → T.Op
op_of O.Add = T.add
op_of O.Sub = T.sub
op_of O.Mul = T.mul

-- a function, by the row of its lam
abbrev pub lam_of : Tables → ℕ → ℕ → EV.Value
lam_of s r e = EV.Lam (type_in s r) (row_at s r).a e

abbrev pub value_of : Tables → Value → EV.Value
value_of s (V.Number n) = EV.Number n
value_of s (V.Lam r e) = lam_of s r e
value_of s (V.Pair i) = EV.Pair i

-- a blank frame, which is never in use, is one that nothing is returned to
abbrev pub view_frame : Tables → Frame → EF.Frame
view_frame s (F.Blank a b c d) = EF.Second (calc T.add) (EV.Lam nat 0 0)
view_frame s F.Succ = EF.Unary succ
view_frame s F.Fst = EF.Unary fst
view_frame s F.Snd = EF.Unary snd
view_frame s F.Get = EF.Unary get
view_frame s (F.Ifz r e) = EF.Ifz (row_at s r).b (row_at s r).c e
view_frame s (F.Apply r e) = EF.Apply r e
view_frame s (F.Catch r e) = EF.Catch r e
view_frame s (F.PairFirst p e) = EF.First (pair (type_in s p)) (row_at s p).b e
view_frame s (F.PairSecond p v) = EF.Second (pair (type_in s p)) (value_of s v)
view_frame s (F.CalcFirst o r e) = EF.First (calc (op_of o)) r e
view_frame s (F.CalcSecond o n) = EF.Second (calc (op_of o)) (EV.Number n)

abbrev pub view_cell : Tables → Cell → EC.Cell
view_cell s (C.Blank a b c d e f) = EC.Bound (D.Number 0) 0
view_cell s (C.Bound r e x) = EC.Bound (D.Row r e) x
view_cell s (C.Number n x) = EC.Bound (D.Number n) x
view_cell s (C.Pair p v w) = EC.Pair (type_in s p) (value_of s v) (value_of s w)

abbrev pub mode_of : Tables → Mode → EM.Mode
mode_of s (M.Eval r e) = EM.Eval (D.Row r e)
mode_of s (M.Numeral n) = EM.Eval (D.Number n)
mode_of s (M.Return v) = EM.Return (value_of s v)
mode_of s M.Fail = EM.Fail
