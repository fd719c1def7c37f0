-- What holds of a state between steps: the places that it names are there, and what its cells bind is closed.
use Rattle.std.specs.Prelude.{◌≡◌, ℕ, suc, Bool, true, false, not, ◌&&◌, List, [], ◌∷◌, length, nat_le, nat_lt}
use Rattle.rows.specs.Limits.{top}
use Rattle.theory.specs.Syntax.{succ, fst, snd, get, pair, calc}
use Rattle.theory.specs.Syntax.{Term, num, name, one, two, ifz, lam, app, fix, fail, catch}
use Rattle.environments.specs.Nodes.{Node, node_in}
use Rattle.environments.specs.Nodes as G
use Rattle.environments.specs.Closures.{Closed}
use Rattle.environments.specs.Closures as D
use Rattle.environments.specs.Values.{Value}
use Rattle.environments.specs.Values as V
use Rattle.environments.specs.Cells.{Cell}
use Rattle.environments.specs.Cells as C
use Rattle.environments.specs.Frames.{Frame}
use Rattle.environments.specs.Frames as F
use Rattle.environments.specs.Modes.{Mode}
use Rattle.environments.specs.Modes as M
use Rattle.environments.specs.Folds.{lawful}
use Rattle.environments.specs.States.{State}
use Rattle.environments.specs.Stands.{Meant, names, pair_of, cells_of}

-- ---- places: beside n nodes, with k cells

-- The node is a name.
abbrev pub is_name : Node → Bool
is_name (G.Number n) = false
is_name (G.Name d) = true
is_name (G.Unary g a) = false
is_name (G.Binary g a b) = false
is_name (G.Ifz a b c) = false
is_name (G.Lam T a) = false
is_name (G.Apply a b) = false
is_name (G.Fix T a) = false
is_name (G.Fail T) = false
is_name (G.Catch a b) = false

-- A node and an environment are there.
abbrev pub place_fits : ℕ → ℕ → ℕ → ℕ → Bool
place_fits n k r e = nat_lt r n && nat_le e k

-- A closure is a number, or a node that is no name and an environment, both there.
abbrev pub closed_fits : List Node → ℕ → Closed → Bool
closed_fits nodes k (D.Number n) = true
closed_fits nodes k (D.Row r e) = not (is_name (node_in nodes r)) && place_fits (length nodes) k r e

-- What a value names is there.
abbrev pub value_fits : ℕ → ℕ → Value → Bool
value_fits n k (V.Number x) = true
value_fits n k (V.Lam T a e) = place_fits n k a e
value_fits n k (V.Pair i) = nat_lt i k

-- What a cell names is there among the nodes and the k cells before it.
abbrev pub cell_fits : List Node → ℕ → Cell → Bool
cell_fits nodes k (C.Bound c x) = closed_fits nodes k c && nat_le x k
cell_fits nodes k (C.Pair T v w) = value_fits (length nodes) k v && value_fits (length nodes) k w

-- What a frame names is there.
abbrev pub frame_fits : ℕ → ℕ → Frame → Bool
frame_fits n k (F.Unary g) = true
frame_fits n k (F.First g r e) = place_fits n k r e
frame_fits n k (F.Second g v) = value_fits n k v
frame_fits n k (F.Ifz z m e) = place_fits n k z e && nat_lt m n
frame_fits n k (F.Apply r e) = place_fits n k r e
frame_fits n k (F.Catch r e) = place_fits n k r e

-- What the frames name is there.
abbrev pub stack_fits : ℕ → ℕ → List Frame → Bool
stack_fits n k [] = true
stack_fits n k (f ∷ fs) = frame_fits n k f && stack_fits n k fs

-- What the mode names is there.
abbrev pub mode_fits : List Node → ℕ → Mode → Bool
mode_fits nodes k (M.Eval c) = closed_fits nodes k c
mode_fits nodes k (M.Return v) = value_fits (length nodes) k v
mode_fits nodes k M.Fail = true

-- ---- values

-- The value is a number, a function, or a pair.
abbrev pub is_number : Value → Bool
is_number (V.Number n) = true
is_number (V.Lam T a e) = false
is_number (V.Pair i) = false

abbrev pub is_lam : Value → Bool
is_lam (V.Number n) = false
is_lam (V.Lam T a e) = true
is_lam (V.Pair i) = false

abbrev pub is_pair : Value → Bool
is_pair (V.Number n) = false
is_pair (V.Lam T a e) = false
is_pair (V.Pair i) = true

-- The frame takes the value: there is a step from the state that returns it.
abbrev pub suits : Frame → Value → Bool
suits (F.Unary succ) v = is_number v
suits (F.Unary fst) v = is_pair v
suits (F.Unary snd) v = is_pair v
suits (F.Unary get) v = is_number v
suits (F.First (pair T) r e) v = true
suits (F.First (calc o) r e) v = is_number v
suits (F.Second (pair T) u) v = true
suits (F.Second (calc o) u) v = is_number u && is_number v
suits (F.Ifz z m e) v = is_number v
suits (F.Apply r e) v = is_lam v
suits (F.Catch r e) v = true

-- The value is no number above top.
abbrev pub value_is_small : Value → Bool
value_is_small (V.Number n) = nat_le n top
value_is_small (V.Lam T a e) = true
value_is_small (V.Pair i) = true

-- The value that the frame holds, if it holds one, is no number above top.
abbrev pub frame_is_small : Frame → Bool
frame_is_small (F.Unary g) = true
frame_is_small (F.First g r e) = true
frame_is_small (F.Second g u) = value_is_small u
frame_is_small (F.Ifz z m e) = true
frame_is_small (F.Apply r e) = true
frame_is_small (F.Catch r e) = true

-- ---- closed terms

-- Every name of the term is below d.
abbrev pub below : ℕ → Term → Bool
below d (num n) = true
below d (name i) = nat_lt i d
below d (one g A) = below d A
below d (two g A B) = below d A && below d B
below d (ifz A B C) = below d A && (below d B && below (suc d) C)
below d (lam T A) = below (suc d) A
below d (app A B) = below d A && below d B
below d (fix T A) = below (suc d) A
below d (fail T) = true
below d (catch A B) = below d A && below d B

-- Every term of an environment is closed.
abbrev pub all_closed : List Term → Bool
all_closed [] = true
all_closed (e ∷ ρ) = below 0 e && all_closed ρ

-- What a cell binds is closed.
abbrev pub meant_is_closed : Meant → Bool
meant_is_closed (names ρ) = all_closed ρ
meant_is_closed (pair_of T v w) = true

-- What the cells bind is closed.
abbrev pub meants_closed : List Meant → Bool
meants_closed [] = true
meants_closed (m ∷ ms) = meant_is_closed m && meants_closed ms

-- ---- the state

-- All places that the state names are there.
abbrev pub places_fit : List Node → State → Bool
places_fit nodes s =
    lawful (cell_fits nodes) 0 s.cells && (stack_fits (length nodes) (length s.cells) s.stack && mode_fits nodes
    (length s.cells) s.mode)

-- They are, and what the cells bind is closed; ts are the terms of the nodes.
abbrev pub fits : List Term → List Node → State → Bool
fits ts nodes s = places_fit nodes s && meants_closed (cells_of ts s.cells)

-- What `fits` says of a state, part by part.
pub record Fitting (ts : List Term) (nodes : List Node) (s : State) : Type 0 where
  pub cells : lawful (cell_fits nodes) 0 s.cells ≡ true
  pub stack : stack_fits (length nodes) (length s.cells) s.stack ≡ true
  pub mode : mode_fits nodes (length s.cells) s.mode ≡ true
  pub shut : meants_closed (cells_of ts s.cells) ≡ true
