-- What a store holds.
use Rattle.std.specs.Prelude.{ℕ, zero, suc, List, [], ◌∷◌, ◌++◌, get_or, Some, None, Option, slice_index_or}
use Rattle.rows.specs.declared.tables.TermRow.{TermRow}
use Rattle.rows.specs.declared.forms.Head.{Head}
use Rattle.rows.specs.declared.forms.Head.TheVariants as H
use Rattle.rows.specs.Forms.{head_at}
use Rattle.rows.specs.Rows.{leaf_row}
use Rattle.engine.specs.declared.state.Closure.{Closure}
use Rattle.engine.specs.declared.state.Closure.TheVariants as D
use Rattle.engine.specs.declared.state.Value.{Value}
use Rattle.engine.specs.declared.state.Value.TheVariants as V
use Rattle.engine.specs.declared.state.Frame.{Frame}
use Rattle.engine.specs.declared.state.Frame.TheVariants as F
use Rattle.engine.specs.declared.state.Cell.{Cell}
use Rattle.engine.specs.declared.state.Cell.TheVariants as C
use Rattle.engine.specs.declared.store.Store.{Store}
use Rattle.engine.specs.Contents.{Contents}

-- the frames in use, the top one first
abbrev pub frames_in : Store → List Frame
frames_in t = t.frames

-- the cells in use, in the order in which they were made
abbrev pub cells_in : Store → List Cell
cells_in t = t.cells

-- the top of a list of frames, and the others
abbrev pub top_of : List Frame → Option Frame
top_of [] = None
top_of (f ∷ fs) = Some f

abbrev pub rest_of : List Frame → List Frame
rest_of [] = []
rest_of (f ∷ fs) = fs

-- a slot that is not in use
abbrev pub no_frame : Frame
no_frame = F.Blank 0 0 0 0

abbrev pub no_cell : Cell
no_cell = C.Blank 0 0 0 0 0 0

-- a frame whose first part is open, with the value that the part returned: the second part is open now
abbrev pub to_second : Frame → Value → Frame
to_second (F.PairFirst p e) v = F.PairSecond p v
to_second (F.CalcFirst o r e) (V.Number n) = F.CalcSecond o n
to_second f v = f

-- the same of the top of a stack
abbrev pub top_second : List Frame → Value → List Frame
top_second [] v = []
top_second (f ∷ fs) v = to_second f v ∷ fs

-- ---- a store with a frame more, with one less, with another on top, and with a cell more
abbrev pub pushed : Frame → Contents → Contents
pushed f t = record { frames = f ∷ t.frames; cells = t.cells }

abbrev pub popped : Contents → Contents
popped t = record { frames = rest_of t.frames; cells = t.cells }

abbrev pub seconded : Value → Contents → Contents
seconded v t = record { frames = top_second t.frames v; cells = t.cells }

abbrev pub allocated : Cell → Contents → Contents
allocated x t = record { frames = t.frames; cells = t.cells ++ (x ∷ []) }

-- ---- names

-- what a cell binds, and the environment outside the binding; a cell that binds nothing is never looked up
abbrev pub binding_of : Cell → Closure × ℕ
binding_of (C.Bound r e x) = (D.Row r e, x)
binding_of (C.Number n x) = (D.Number n, x)
binding_of _ = (D.Number 0, 0)

-- the nearest binding of an environment, and the environment without it
abbrev pub nearest_in : List Cell → ℕ → Closure × ℕ
nearest_in cs zero = (D.Number 0, 0)
nearest_in cs (suc i) = binding_of (slice_index_or cs i no_cell)

-- what name d is bound to in the environment e
unfoldable pub find_in : List Cell → ℕ → ℕ → Closure
find_in cs e zero = (nearest_in cs e).0
find_in cs e (suc d) = find_in cs (nearest_in cs e).1 d

-- what a row stands for in an environment, by what the row begins with
abbrev pub resolved_by : Head → List Cell → ℕ → ℕ → ℕ → Closure
resolved_by H.Number cs n r e = D.Row r e
resolved_by H.Name cs n r e = find_in cs e n
resolved_by (H.Form g) cs n r e = D.Row r e

abbrev pub entered : List TermRow → List Cell → ℕ → ℕ → Closure
entered rows cs r e = resolved_by (head_at (get_or rows r (leaf_row 0 0)).kind) cs (get_or rows r (leaf_row 0 0)).number r e
