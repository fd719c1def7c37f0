-- Runs of the environment machine, under limits.
use Rattle.std.specs.Prelude.{ℕ, zero, suc, ◌+◌, cond, List, [], ◌∷◌, length, nat_le, nat_lt}
use Rattle.rows.specs.Meanings.{Meaning}
use Rattle.theory.specs.Syntax.{pair, calc, Term}
use Rattle.runs.specs.Standings.{Limits, Status, number, failed, spent, tall, full, going, Standing as Standing'}
use Rattle.environments.specs.Nodes.{Node, node_in}
use Rattle.environments.specs.Nodes as G
use Rattle.environments.specs.Closures as D
use Rattle.environments.specs.Values.{Value}
use Rattle.environments.specs.Values as V
use Rattle.environments.specs.Frames.{Frame}
use Rattle.environments.specs.Frames as F
use Rattle.environments.specs.Modes.{Mode}
use Rattle.environments.specs.Modes as M
use Rattle.environments.specs.States.{State, Taken, step, start}
use Rattle.environments.specs.Stands.{stands}

-- Where a run stands: the steps and moves made, and the state, whose cells are as many as were made.
pub record Standing : Type 0 where
  pub steps : ℕ
  pub moves : ℕ
  pub state : State

-- Where the run of the control-stack machine stands, for which it stands.
abbrev pub standing : List Term → Standing → Standing'
standing ts r =
    record { steps = r.steps; moves = r.moves; cells = length r.state.cells; state = stands ts r.state }

-- The frames that evaluating a node adds.
abbrev pub opens : Node → ℕ
opens (G.Number n) = 0
opens (G.Name d) = 0
opens (G.Unary g a) = 1
opens (G.Binary g a b) = 1
opens (G.Ifz a b c) = 1
opens (G.Lam T a) = 0
opens (G.Apply a b) = 1
opens (G.Fix T a) = 0
opens (G.Fail T) = 0
opens (G.Catch a b) = 1

-- The cells that evaluating a node makes.
abbrev pub unrolls : Node → ℕ
unrolls (G.Number n) = 0
unrolls (G.Name d) = 0
unrolls (G.Unary g a) = 0
unrolls (G.Binary g a b) = 0
unrolls (G.Ifz a b c) = 0
unrolls (G.Lam T a) = 0
unrolls (G.Apply a b) = 0
unrolls (G.Fix T a) = 1
unrolls (G.Fail T) = 0
unrolls (G.Catch a b) = 0

-- The frames that the next step adds.
abbrev pub adds : List Node → Mode → ℕ
adds nodes (M.Eval (D.Number n)) = 0
adds nodes (M.Eval (D.Row r e)) = opens (node_in nodes r)
adds nodes (M.Return v) = 0
adds nodes M.Fail = 0

-- The cells that the return of a value to a frame makes.
abbrev pub binds : Frame → Value → ℕ
binds (F.Unary g) v = 0
binds (F.First g r e) v = 0
binds (F.Second (pair T) u) v = 1
binds (F.Second (calc o) u) v = 0
binds (F.Ifz z m e) (V.Number zero) = 0
binds (F.Ifz z m e) (V.Number (suc n)) = 1
binds (F.Ifz z m e) (V.Lam T a x) = 0
binds (F.Ifz z m e) (V.Pair i) = 0
binds (F.Apply r e) v = 1
binds (F.Catch r e) v = 0

-- The cells that the next step makes.
abbrev pub makes : List Node → Mode → List Frame → ℕ
makes nodes (M.Eval (D.Number n)) k = 0
makes nodes (M.Eval (D.Row r e)) k = unrolls (node_in nodes r)
makes nodes (M.Return v) [] = 0
makes nodes (M.Return v) (f ∷ k) = binds f v
makes nodes M.Fail k = 0

-- The first limit that does not allow the next step; going, if all allow it.
abbrev pub held : List Node → Limits → Standing → Status
held nodes L r =
    cond (nat_le L.fuel r.steps) spent
    (cond (nat_lt L.frames (length r.state.stack + adds nodes r.state.mode)) tall
    (cond (nat_lt L.cells (length r.state.cells + makes nodes r.state.mode r.state.stack)) full going))

-- The end, where there is one, and t otherwise.
abbrev pub ended_or : Mode → List Frame → Status → Status
ended_or (M.Eval c) k t = t
ended_or (M.Return (V.Number n)) [] t = number n
ended_or (M.Return (V.Number n)) (f ∷ k) t = t
ended_or (M.Return (V.Lam T a e)) k t = t
ended_or (M.Return (V.Pair i)) k t = t
ended_or M.Fail [] t = failed
ended_or M.Fail (f ∷ k) t = t

-- The status: the first that fits.
abbrev pub status : List Node → Limits → Standing → Status
status nodes L r = ended_or r.state.mode r.state.stack (held nodes L r)

-- A run just opened at the last node.
abbrev pub opening : List Node → Standing
opening nodes = record { steps = 0; moves = 0; state = start nodes }

-- Where the run stands after one more step.
abbrev pub onto : Standing → Taken → Standing
onto r t = record { steps = r.steps + 1; moves = r.moves + t.0; state = t.2 }

-- q while the status is going, r once the run has halted
abbrev pub if-going : Status → Standing → Standing → Standing
if-going (number n) r q = r
if-going failed r q = r
if-going spent r q = r
if-going tall r q = r
if-going full r q = r
if-going going r q = q

-- One step, made only while the status is going.
abbrev pub once : List Node → Meaning → Limits → Standing → Standing
once nodes t L r = if-going (status nodes L r) r (onto r (step nodes t r.state))

-- Steps while the status is going and the count lasts.
unfoldable pub advanced : List Node → Meaning → Limits → ℕ → Standing → Standing
advanced nodes t L zero r = r
advanced nodes t L (suc n) r = once nodes t L (advanced nodes t L n r)
