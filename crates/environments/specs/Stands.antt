-- What a state of the environment machine stands for: the state of the control-stack machine in which every binding
-- is put for its name.
use Rattle.std.specs.Prelude.{ℕ, zero, suc, List, [], ◌∷◌, slice_index_or}
use Rattle.theory.specs.Syntax.{Ty, nat, Term, num}
use Rattle.machine.specs.Values.{Value, amount, function, couple}
use Rattle.machine.specs.Substitution.{close}
use Rattle.machine.specs.States.{Frame, in_one, in_first, in_second, in_ifz, in_app, in_catch, State, ◌▷◌, ◌◁◌, ◌◂}
use Rattle.machine.specs.Next.{Taken}
use Rattle.environments.specs.Closures.{Closed}
use Rattle.environments.specs.Closures as D
use Rattle.environments.specs.Values.{Value as Value'}
use Rattle.environments.specs.Values as V
use Rattle.environments.specs.Cells.{Cell}
use Rattle.environments.specs.Cells as C
use Rattle.environments.specs.Frames.{Frame as Frame'}
use Rattle.environments.specs.Frames as F
use Rattle.environments.specs.Modes.{Mode}
use Rattle.environments.specs.Modes as M
use Rattle.environments.specs.Folds.{built}
use Rattle.environments.specs.NodeTerms.{node_term_at}
use Rattle.environments.specs.States.{State as State', Taken as Taken'}

-- What a cell stands for: the closed terms of the environment that begins with it, nearest first, or a pair.
pub data Meant : Type 0 where
  names : List Term → Meant
  pair_of : Ty → Value → Value → Meant

-- The terms of an environment; a pair has none.
abbrev pub names_in : Meant → List Term
names_in (names ρ) = ρ
names_in (pair_of T v w) = []

-- The pair; an environment is none, and 0 with 0 stands for it.
abbrev pub pair_in : Meant → Value
pair_in (names ρ) = couple nat (amount 0) (amount 0)
pair_in (pair_of T v w) = couple T v w

-- What a place beyond all cells stands for.
abbrev pub blank_meant : Meant
blank_meant = names (num 0 ∷ [])

-- What the cell at a place stands for.
abbrev pub meant_at : List Meant → ℕ → Meant
meant_at ms i = slice_index_or ms i blank_meant

-- The terms for the names of an environment, nearest first.
abbrev pub env_of : List Meant → ℕ → List Term
env_of ms zero = []
env_of ms (suc i) = names_in (meant_at ms i)

-- A closure stands for the term of its node with the terms of its environment for the names. Here and below ts are
-- the terms of all nodes, and ms what the cells stand for.
abbrev pub closed_of : List Term → List Meant → Closed → Term
closed_of ts ms (D.Number n) = num n
closed_of ts ms (D.Row r e) = close 0 (env_of ms e) (node_term_at ts r)

-- The value for which a value stands; under the binder of a function its own name stays.
abbrev pub value_of : List Term → List Meant → Value' → Value
value_of ts ms (V.Number n) = amount n
value_of ts ms (V.Lam T a e) = function T (close 1 (env_of ms e) (node_term_at ts a))
value_of ts ms (V.Pair i) = pair_in (meant_at ms i)

-- What a cell stands for, by the cells before it.
abbrev pub cell_of : List Term → List Meant → Cell → Meant
cell_of ts ms (C.Bound c x) = names (closed_of ts ms c ∷ env_of ms x)
cell_of ts ms (C.Pair T v w) = pair_of T (value_of ts ms v) (value_of ts ms w)

-- What all cells stand for.
abbrev pub cells_of : List Term → List Cell → List Meant
cells_of ts cs = built (cell_of ts) cs

-- The frame for which a frame stands.
abbrev pub frame_of : List Term → List Meant → Frame' → Frame
frame_of ts ms (F.Unary g) = in_one g
frame_of ts ms (F.First g r e) = in_first g (close 0 (env_of ms e) (node_term_at ts r))
frame_of ts ms (F.Second g v) = in_second g (value_of ts ms v)
frame_of ts ms (F.Ifz z m e) = in_ifz (close 0 (env_of ms e) (node_term_at ts z)) (close 1 (env_of ms e) (node_term_at ts m))
frame_of ts ms (F.Apply r e) = in_app (close 0 (env_of ms e) (node_term_at ts r))
frame_of ts ms (F.Catch r e) = in_catch (close 0 (env_of ms e) (node_term_at ts r))

-- The stack for which a stack stands, frame by frame.
abbrev pub stack_of : List Term → List Meant → List Frame' → List Frame
stack_of ts ms [] = []
stack_of ts ms (f ∷ k) = frame_of ts ms f ∷ stack_of ts ms k

-- The state of a mode under the stack k.
abbrev pub mode_of : List Term → List Meant → List Frame → Mode → State
mode_of ts ms k (M.Eval c) = k ▷ closed_of ts ms c
mode_of ts ms k (M.Return v) = k ◁ value_of ts ms v
mode_of ts ms k M.Fail = k ◂

-- The state for which a state stands.
abbrev pub stands : List Term → State' → State
stands ts s = mode_of ts (cells_of ts s.cells) (stack_of ts (cells_of ts s.cells) s.stack) s.mode

-- The step for which a step stands: with the same moves and cells.
abbrev pub stands_taken : List Term → Taken' → Taken
stands_taken ts t = (t.0, t.1, stands ts t.2)
