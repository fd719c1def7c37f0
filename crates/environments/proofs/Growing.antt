-- How much a step moves, and how far its stack and its cells grow.
use Rattle.std.proofs.Common.{◌≡◌, ℕ, zero, suc, ◌+◌, ◌≤◌, List, [], ◌∷◌, ◌++◌, length, arith}
use Rattle.std.proofs.lemmas.List.{length_push}
use Rattle.rows.specs.Meanings.{Meaning}
use Rattle.theory.specs.Syntax.{succ, fst, snd, get, pair, calc}
use Rattle.environments.specs.Nodes.{Node, node_in}
use Rattle.environments.specs.Nodes as G
use Rattle.environments.specs.Closures.{Closed}
use Rattle.environments.specs.Closures as D
use Rattle.environments.specs.Values.{Value}
use Rattle.environments.specs.Values as V
use Rattle.environments.specs.Cells.{Cell}
use Rattle.environments.specs.Cells as C
use Rattle.environments.specs.Frames.{Frame}
use Rattle.environments.specs.Frames as F
use Rattle.environments.specs.Modes.{Mode}
use Rattle.environments.specs.Modes as M
use Rattle.environments.specs.States.{State, Taken, taken, enter, evaluated, begun, returned, failed, stepped, step}
use Rattle.environments.specs.Runs.{opens, unrolls, adds, binds, makes}
use Rattle.environments.specs.Laws.{Grows}

-- A step t from the stack k and the cells cs, which may add a frames and make b cells.
record Within (k : List Frame) (cs : List Cell) (a b : ℕ) (t : Taken) : Type 0 where
  moves : t.0 ≤ 1
  frames : length t.2.stack ≤ length k + a
  cells : length t.2.cells ≡ length cs + t.1
  made : t.1 ≤ b

module _ (k : List Frame) (cs : List Cell) {a b : ℕ} where
  same : {m : ℕ} {x : Mode} {k' : List Frame} → m ≤ 1 → length k' ≤ length k + a → Within k cs a b (taken m 0 x k' cs)
  same h l = record { moves = h; frames = l; cells = omega arith; made = omega arith }

  more : {m : ℕ} {x : Mode} {k' : List Frame} (c : Cell) → m ≤ 1 → length k' ≤ length k + a → 1 ≤ b
      → Within k cs a b (taken m 1 x k' (cs ++ (c ∷ [])))
  more c h l g = record { moves = h; frames = l; cells = length_push cs c; made = g }

eval_within : (nodes : List Node) (k : List Frame) (cs : List Cell) (r e : ℕ) (g : Node)
    → Within k cs (opens g) (unrolls g) (evaluated nodes k cs r e g)
eval_within nodes k cs r e (G.Number n) = same k cs (omega arith) (omega arith)
eval_within nodes k cs r e (G.Name d) = same k cs (omega arith) (omega arith)
eval_within nodes k cs r e (G.Unary g a) = same k cs (omega arith) (omega arith)
eval_within nodes k cs r e (G.Binary g a b) = same k cs (omega arith) (omega arith)
eval_within nodes k cs r e (G.Ifz a b c) = same k cs (omega arith) (omega arith)
eval_within nodes k cs r e (G.Lam T a) = same k cs (omega arith) (omega arith)
eval_within nodes k cs r e (G.Apply a b) = same k cs (omega arith) (omega arith)
eval_within nodes k cs r e (G.Fix T a) = more k cs (C.Bound (D.Row r e) e) (omega arith) (omega arith) (omega arith)
eval_within nodes k cs r e (G.Fail T) = same k cs (omega arith) (omega arith)
eval_within nodes k cs r e (G.Catch a b) = same k cs (omega arith) (omega arith)

begun_within : (nodes : List Node) (k : List Frame) (cs : List Cell) (c : Closed)
    → Within k cs (adds nodes (M.Eval c)) (makes nodes (M.Eval c) k) (begun nodes k cs c)
begun_within nodes k cs (D.Number n) = same k cs (omega arith) (omega arith)
begun_within nodes k cs (D.Row r e) = eval_within nodes k cs r e (node_in nodes r)

returned_within : (nodes : List Node) (ans : Meaning) (f : Frame) (k : List Frame) (cs : List Cell) (v : Value)
    → Within (f ∷ k) cs 0 (binds f v) (returned nodes ans f k cs v)
returned_within nodes ans (F.Unary succ) k cs (V.Number n) = same (F.Unary succ ∷ k) cs (omega arith) (omega arith)
returned_within nodes ans (F.Unary succ) k cs (V.Lam T a e) = same (F.Unary succ ∷ k) cs (omega arith) (omega arith)
returned_within nodes ans (F.Unary succ) k cs (V.Pair i) = same (F.Unary succ ∷ k) cs (omega arith) (omega arith)
returned_within nodes ans (F.Unary fst) k cs (V.Number n) = same (F.Unary fst ∷ k) cs (omega arith) (omega arith)
returned_within nodes ans (F.Unary fst) k cs (V.Lam T a e) = same (F.Unary fst ∷ k) cs (omega arith) (omega arith)
returned_within nodes ans (F.Unary fst) k cs (V.Pair i) = same (F.Unary fst ∷ k) cs (omega arith) (omega arith)
returned_within nodes ans (F.Unary snd) k cs (V.Number n) = same (F.Unary snd ∷ k) cs (omega arith) (omega arith)
returned_within nodes ans (F.Unary snd) k cs (V.Lam T a e) = same (F.Unary snd ∷ k) cs (omega arith) (omega arith)
returned_within nodes ans (F.Unary snd) k cs (V.Pair i) = same (F.Unary snd ∷ k) cs (omega arith) (omega arith)
returned_within nodes ans (F.Unary get) k cs (V.Number n) = same (F.Unary get ∷ k) cs (omega arith) (omega arith)
returned_within nodes ans (F.Unary get) k cs (V.Lam T a e) = same (F.Unary get ∷ k) cs (omega arith) (omega arith)
returned_within nodes ans (F.Unary get) k cs (V.Pair i) = same (F.Unary get ∷ k) cs (omega arith) (omega arith)
returned_within nodes ans (F.First g r e) k cs v = same (F.First g r e ∷ k) cs (omega arith) (omega arith)
returned_within nodes ans (F.Second (pair T) u) k cs v =
    more (F.Second (pair T) u ∷ k) cs (C.Pair T u v) (omega arith) (omega arith) (omega arith)
returned_within nodes ans (F.Second (calc o) (V.Number n)) k cs (V.Number m) =
    same (F.Second (calc o) (V.Number n) ∷ k) cs (omega arith) (omega arith)
returned_within nodes ans (F.Second (calc o) (V.Number n)) k cs (V.Lam T a e) =
    same (F.Second (calc o) (V.Number n) ∷ k) cs (omega arith) (omega arith)
returned_within nodes ans (F.Second (calc o) (V.Number n)) k cs (V.Pair i) =
    same (F.Second (calc o) (V.Number n) ∷ k) cs (omega arith) (omega arith)
returned_within nodes ans (F.Second (calc o) (V.Lam T a e)) k cs v =
    same (F.Second (calc o) (V.Lam T a e) ∷ k) cs (omega arith) (omega arith)
returned_within nodes ans (F.Second (calc o) (V.Pair i)) k cs v =
    same (F.Second (calc o) (V.Pair i) ∷ k) cs (omega arith) (omega arith)
returned_within nodes ans (F.Ifz z m e) k cs (V.Number zero) = same (F.Ifz z m e ∷ k) cs (omega arith) (omega arith)
returned_within nodes ans (F.Ifz z m e) k cs (V.Number (suc n)) =
    more (F.Ifz z m e ∷ k) cs (C.Bound (D.Number n) e) (omega arith) (omega arith) (omega arith)
returned_within nodes ans (F.Ifz z m e) k cs (V.Lam T a x) = same (F.Ifz z m e ∷ k) cs (omega arith) (omega arith)
returned_within nodes ans (F.Ifz z m e) k cs (V.Pair i) = same (F.Ifz z m e ∷ k) cs (omega arith) (omega arith)
returned_within nodes ans (F.Apply r e) k cs (V.Number n) = same (F.Apply r e ∷ k) cs (omega arith) (omega arith)
returned_within nodes ans (F.Apply r e) k cs (V.Lam T a x) =
    more (F.Apply r e ∷ k) cs (C.Bound (enter nodes cs r e) x) (omega arith) (omega arith) (omega arith)
returned_within nodes ans (F.Apply r e) k cs (V.Pair i) = same (F.Apply r e ∷ k) cs (omega arith) (omega arith)
returned_within nodes ans (F.Catch r e) k cs v = same (F.Catch r e ∷ k) cs (omega arith) (omega arith)

failed_within : (nodes : List Node) (f : Frame) (k : List Frame) (cs : List Cell)
    → Within (f ∷ k) cs 0 0 (failed nodes f k cs)
failed_within nodes (F.Unary g) k cs = same (F.Unary g ∷ k) cs (omega arith) (omega arith)
failed_within nodes (F.First g r e) k cs = same (F.First g r e ∷ k) cs (omega arith) (omega arith)
failed_within nodes (F.Second g v) k cs = same (F.Second g v ∷ k) cs (omega arith) (omega arith)
failed_within nodes (F.Ifz z m e) k cs = same (F.Ifz z m e ∷ k) cs (omega arith) (omega arith)
failed_within nodes (F.Apply r e) k cs = same (F.Apply r e ∷ k) cs (omega arith) (omega arith)
failed_within nodes (F.Catch r e) k cs = same (F.Catch r e ∷ k) cs (omega arith) (omega arith)

stepped_within : (nodes : List Node) (ans : Meaning) (x : Mode) (k : List Frame) (cs : List Cell)
    → Within k cs (adds nodes x) (makes nodes x k) (stepped nodes ans x k cs)
stepped_within nodes ans (M.Eval c) k cs = begun_within nodes k cs c
stepped_within nodes ans (M.Return v) [] cs = same [] cs (omega arith) (omega arith)
stepped_within nodes ans (M.Return v) (f ∷ k) cs = returned_within nodes ans f k cs v
stepped_within nodes ans M.Fail [] cs = same [] cs (omega arith) (omega arith)
stepped_within nodes ans M.Fail (f ∷ k) cs = failed_within nodes f k cs

pub step_grows : (nodes : List Node) (M : Meaning) (s : State) → Grows nodes s (step nodes M s)
step_grows nodes M s =
    let w = stepped_within nodes M s.mode s.stack s.cells in
    record { moves = w.moves; frames = w.frames; cells = w.cells; made = w.made }
