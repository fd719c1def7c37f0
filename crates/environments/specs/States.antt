-- The environment machine: its state and its step. It leaves terms as they are and keeps what their names are bound
-- to in cells.
use Rattle.std.specs.Prelude.{ℕ, zero, suc, ◌+◌, ◌-◌, cond, List, [], ◌∷◌, ◌++◌, length, Some, None, Option, nat_le, slice_index_or}
use Rattle.rows.specs.Limits.{top}
use Rattle.rows.specs.Meanings.{Meaning}
use Rattle.theory.specs.Syntax.{succ, fst, snd, get, pair, calc}
use Rattle.machine.specs.Steps.{result}
use Rattle.environments.specs.Nodes.{Node, node_in}
use Rattle.environments.specs.Nodes as G
use Rattle.environments.specs.Closures.{Closed}
use Rattle.environments.specs.Closures as D
use Rattle.environments.specs.Values.{Value}
use Rattle.environments.specs.Values as V
use Rattle.environments.specs.Cells.{Cell}
use Rattle.environments.specs.Cells as C
use Rattle.environments.specs.Frames.{Frame}
use Rattle.environments.specs.Frames as F
use Rattle.environments.specs.Modes.{Mode}
use Rattle.environments.specs.Modes as M

-- A mode, a stack with its top first, and the cells in the order in which they were made.
pub record State : Type 0 where
  pub mode : Mode
  pub stack : List Frame
  pub cells : List Cell

-- A step taken: its moves, its cells, and where it leads.
abbrev pub Taken : Type 0
Taken = ℕ × ℕ × State

-- A step of m moves and c cells to the mode x, the stack k and the cells cs.
abbrev pub taken : ℕ → ℕ → Mode → List Frame → List Cell → Taken
taken m c x k cs = (m, c, record { mode = x; stack = k; cells = cs })

-- ---- names

-- A place beyond all cells holds a binding of 0.
abbrev pub blank_cell : Cell
blank_cell = C.Bound (D.Number 0) 0

-- The cell at a place.
abbrev pub cell_at : List Cell → ℕ → Cell
cell_at cs i = slice_index_or cs i blank_cell

-- What a cell binds, and the environment outside it.
abbrev pub bound_of_cell : Cell → Closed
bound_of_cell (C.Bound c x) = c
bound_of_cell (C.Pair T v w) = D.Number 0

abbrev pub next_of_cell : Cell → ℕ
next_of_cell (C.Bound c x) = x
next_of_cell (C.Pair T v w) = 0

-- The nearest binding of an environment, and the environment without it.
abbrev pub nearest : List Cell → ℕ → Closed
nearest cs zero = D.Number 0
nearest cs (suc i) = bound_of_cell (cell_at cs i)

abbrev pub outward : List Cell → ℕ → ℕ
outward cs zero = 0
outward cs (suc i) = next_of_cell (cell_at cs i)

-- What name d is bound to in the environment e: the nearest binding after d steps outward.
unfoldable pub find : List Cell → ℕ → ℕ → Closed
find cs e zero = nearest cs e
find cs e (suc d) = find cs (outward cs e) d

-- The closure of place r in the environment e: what it is bound to if the node there is a name.
abbrev pub resolved : List Cell → ℕ → ℕ → Node → Closed
resolved cs r e (G.Number n) = D.Row r e
resolved cs r e (G.Name d) = find cs e d
resolved cs r e (G.Unary g a) = D.Row r e
resolved cs r e (G.Binary g a b) = D.Row r e
resolved cs r e (G.Ifz a b c) = D.Row r e
resolved cs r e (G.Lam T a) = D.Row r e
resolved cs r e (G.Apply a b) = D.Row r e
resolved cs r e (G.Fix T a) = D.Row r e
resolved cs r e (G.Fail T) = D.Row r e
resolved cs r e (G.Catch a b) = D.Row r e

-- The same, of the node at that place.
unfoldable pub enter : List Node → List Cell → ℕ → ℕ → Closed
enter nodes cs r e = resolved cs r e (node_in nodes r)

-- ---- the step

-- A number returned, or a failure above top.
abbrev pub limited : ℕ → Mode
limited n = cond (nat_le n top) (M.Return (V.Number n)) M.Fail

-- An answer of the counter returned, or a failure where there is none.
abbrev pub answered : Option ℕ → Mode
answered (Some n) = M.Return (V.Number n)
answered None = M.Fail

-- The two values of a pair.
abbrev pub left_in : Cell → Value
left_in (C.Bound c x) = V.Number 0
left_in (C.Pair T v w) = v

abbrev pub right_in : Cell → Value
right_in (C.Bound c x) = V.Number 0
right_in (C.Pair T v w) = w

-- Place r entered with a binding of c more, outside of which is the environment x.
abbrev pub binding : List Node → List Cell → Closed → ℕ → ℕ → List Frame → Taken
binding nodes cs c x r k =
    taken 1 1 (M.Eval (enter nodes (cs ++ (C.Bound c x ∷ [])) r (suc (length cs)))) k (cs ++ (C.Bound c x ∷ []))

-- The node of place r evaluated in the environment e.
abbrev pub evaluated : List Node → List Frame → List Cell → ℕ → ℕ → Node → Taken
evaluated nodes k cs r e (G.Number n) = taken 0 0 (M.Return (V.Number n)) k cs
evaluated nodes k cs r e (G.Name d) = taken 0 0 (M.Eval (D.Row r e)) k cs
evaluated nodes k cs r e (G.Unary g a) = taken 0 0 (M.Eval (enter nodes cs a e)) (F.Unary g ∷ k) cs
evaluated nodes k cs r e (G.Binary g a b) = taken 0 0 (M.Eval (enter nodes cs a e)) (F.First g b e ∷ k) cs
evaluated nodes k cs r e (G.Ifz a b c) = taken 0 0 (M.Eval (enter nodes cs a e)) (F.Ifz b c e ∷ k) cs
evaluated nodes k cs r e (G.Lam T a) = taken 0 0 (M.Return (V.Lam T a e)) k cs
evaluated nodes k cs r e (G.Apply a b) = taken 0 0 (M.Eval (enter nodes cs a e)) (F.Apply b e ∷ k) cs
evaluated nodes k cs r e (G.Fix T a) = binding nodes cs (D.Row r e) e a k
evaluated nodes k cs r e (G.Fail T) = taken 0 0 M.Fail k cs
evaluated nodes k cs r e (G.Catch a b) = taken 0 0 (M.Eval (enter nodes cs a e)) (F.Catch b e ∷ k) cs

-- A closure evaluated.
abbrev pub begun : List Node → List Frame → List Cell → Closed → Taken
begun nodes k cs (D.Number n) = taken 0 0 (M.Return (V.Number n)) k cs
begun nodes k cs (D.Row r e) = evaluated nodes k cs r e (node_in nodes r)

-- A value returned to a frame. One that the frame does not take leaves the state as it is: a well typed state has none.
abbrev pub returned : List Node → Meaning → Frame → List Frame → List Cell → Value → Taken
returned nodes t (F.Unary succ) k cs (V.Number n) = taken 1 0 (limited (n + 1)) k cs
returned nodes t (F.Unary succ) k cs (V.Lam T a e) = taken 0 0 (M.Return (V.Lam T a e)) (F.Unary succ ∷ k) cs
returned nodes t (F.Unary succ) k cs (V.Pair i) = taken 0 0 (M.Return (V.Pair i)) (F.Unary succ ∷ k) cs
returned nodes t (F.Unary fst) k cs (V.Number n) = taken 0 0 (M.Return (V.Number n)) (F.Unary fst ∷ k) cs
returned nodes t (F.Unary fst) k cs (V.Lam T a e) = taken 0 0 (M.Return (V.Lam T a e)) (F.Unary fst ∷ k) cs
returned nodes t (F.Unary fst) k cs (V.Pair i) = taken 1 0 (M.Return (left_in (cell_at cs i))) k cs
returned nodes t (F.Unary snd) k cs (V.Number n) = taken 0 0 (M.Return (V.Number n)) (F.Unary snd ∷ k) cs
returned nodes t (F.Unary snd) k cs (V.Lam T a e) = taken 0 0 (M.Return (V.Lam T a e)) (F.Unary snd ∷ k) cs
returned nodes t (F.Unary snd) k cs (V.Pair i) = taken 1 0 (M.Return (right_in (cell_at cs i))) k cs
returned nodes t (F.Unary get) k cs (V.Number n) = taken 1 0 (answered (t n)) k cs
returned nodes t (F.Unary get) k cs (V.Lam T a e) = taken 0 0 (M.Return (V.Lam T a e)) (F.Unary get ∷ k) cs
returned nodes t (F.Unary get) k cs (V.Pair i) = taken 0 0 (M.Return (V.Pair i)) (F.Unary get ∷ k) cs
returned nodes t (F.First g r e) k cs v = taken 0 0 (M.Eval (enter nodes cs r e)) (F.Second g v ∷ k) cs
returned nodes t (F.Second (pair T) u) k cs v = taken 0 1 (M.Return (V.Pair (length cs))) k (cs ++ (C.Pair T u v ∷ []))
returned nodes t (F.Second (calc o) (V.Number n)) k cs (V.Number m) = taken 1 0 (limited (result o n m)) k cs
returned nodes t (F.Second (calc o) (V.Number n)) k cs (V.Lam T a e) =
    taken 0 0 (M.Return (V.Lam T a e)) (F.Second (calc o) (V.Number n) ∷ k) cs
returned nodes t (F.Second (calc o) (V.Number n)) k cs (V.Pair i) =
    taken 0 0 (M.Return (V.Pair i)) (F.Second (calc o) (V.Number n) ∷ k) cs
returned nodes t (F.Second (calc o) (V.Lam T a e)) k cs v =
    taken 0 0 (M.Return v) (F.Second (calc o) (V.Lam T a e) ∷ k) cs
returned nodes t (F.Second (calc o) (V.Pair i)) k cs v = taken 0 0 (M.Return v) (F.Second (calc o) (V.Pair i) ∷ k) cs
returned nodes t (F.Ifz z m e) k cs (V.Number zero) = taken 1 0 (M.Eval (enter nodes cs z e)) k cs
returned nodes t (F.Ifz z m e) k cs (V.Number (suc n)) = binding nodes cs (D.Number n) e m k
returned nodes t (F.Ifz z m e) k cs (V.Lam T a x) = taken 0 0 (M.Return (V.Lam T a x)) (F.Ifz z m e ∷ k) cs
returned nodes t (F.Ifz z m e) k cs (V.Pair i) = taken 0 0 (M.Return (V.Pair i)) (F.Ifz z m e ∷ k) cs
returned nodes t (F.Apply r e) k cs (V.Number n) = taken 0 0 (M.Return (V.Number n)) (F.Apply r e ∷ k) cs
returned nodes t (F.Apply r e) k cs (V.Lam T a x) = binding nodes cs (enter nodes cs r e) x a k
returned nodes t (F.Apply r e) k cs (V.Pair i) = taken 0 0 (M.Return (V.Pair i)) (F.Apply r e ∷ k) cs
returned nodes t (F.Catch r e) k cs v = taken 1 0 (M.Return v) k cs

-- A failure at a frame.
abbrev pub failed : List Node → Frame → List Frame → List Cell → Taken
failed nodes (F.Unary g) k cs = taken 1 0 M.Fail k cs
failed nodes (F.First g r e) k cs = taken 1 0 M.Fail k cs
failed nodes (F.Second g v) k cs = taken 1 0 M.Fail k cs
failed nodes (F.Ifz z m e) k cs = taken 1 0 M.Fail k cs
failed nodes (F.Apply r e) k cs = taken 1 0 M.Fail k cs
failed nodes (F.Catch r e) k cs = taken 1 0 (M.Eval (enter nodes cs r e)) k cs

-- The top frame, and the frames below it.
abbrev pub top_of : List Frame → Option Frame
top_of [] = None
top_of (f ∷ k) = Some f

abbrev pub rest_of : List Frame → List Frame
rest_of [] = []
rest_of (f ∷ k) = k

-- A value returned to the stack.
abbrev pub on_return : List Node → Meaning → Value → Option Frame → List Frame → List Cell → Taken
on_return nodes t v None k cs = taken 0 0 (M.Return v) k cs
on_return nodes t v (Some f) k cs = returned nodes t f k cs v

-- A failure at the stack.
abbrev pub on_fail : List Node → Option Frame → List Frame → List Cell → Taken
on_fail nodes None k cs = taken 0 0 M.Fail k cs
on_fail nodes (Some f) k cs = failed nodes f k cs

-- The step from a mode, a stack and cells.
abbrev pub stepped : List Node → Meaning → Mode → List Frame → List Cell → Taken
stepped nodes t (M.Eval c) k cs = begun nodes k cs c
stepped nodes t (M.Return v) k cs = on_return nodes t v (top_of k) (rest_of k) cs
stepped nodes t M.Fail k cs = on_fail nodes (top_of k) (rest_of k) cs

-- The step, by the mode and the top frame; an end stays.
abbrev pub step : List Node → Meaning → State → Taken
step nodes t s = stepped nodes t s.mode s.stack s.cells

-- Where a run begins: the last node in the empty environment.
abbrev pub start : List Node → State
start nodes = record { mode = M.Eval (enter nodes [] (length nodes - 1) 0); stack = []; cells = [] }
