-- What values, closures, cells and rows stand for in the environment machine.
use Rattle.std.proofs.Common.{◌≡◌, ℕ, zero, suc, ◌<◌, ◌≤◌, cond, List, [], ◌∷◌, ◌++◌, map, get_or, eqb, Some, None, Option, Bool, true, false, sym, refl, ap, ◌∙◌, arith, ne_eqb, le-ltb, subst, ⊎_elim, leb}
use Rattle.std.proofs.str.Laws.{order}
use Rattle.std.proofs.lemmas.List.{map-append}
use Rattle.rows.specs.Limits.{top}
use Rattle.rows.specs.declared.tables.TermRow.{TermRow}
use Rattle.rows.specs.declared.forms.Form.{Form}
use Rattle.rows.specs.declared.forms.Form.TheVariants as R
use Rattle.rows.specs.declared.forms.Head.{Head}
use Rattle.rows.specs.declared.forms.Head.TheVariants as H
use Rattle.rows.specs.Forms.{form_at, head_at}
use Rattle.rows.specs.Rows.{leaf_row}
use Rattle.theory.specs.Syntax.{Ty}
use Rattle.theory.specs.Emit.{Tables}
use Rattle.theory.specs.Stands.{types_from}
use Rattle.environments.specs.Nodes.{Node, node_in, blank_node, form_node, node_of, nodes_of}
use Rattle.environments.specs.Nodes as G
use Rattle.environments.specs.Closures.{Closed}
use Rattle.environments.specs.Closures as D
use Rattle.environments.specs.Values as EV
use Rattle.environments.specs.Cells as EC
use Rattle.environments.specs.Modes as EM
use Rattle.environments.specs.States.{blank_cell, cell_at, bound_of_cell, next_of_cell, nearest, outward, find, resolved, enter, limited, answered, left_in, right_in}
use Rattle.engine.specs.declared.state.Closure.{Closure}
use Rattle.engine.specs.declared.state.Closure.TheVariants as K
use Rattle.engine.specs.declared.state.Value.TheVariants as V
use Rattle.engine.specs.declared.state.Cell.{Cell}
use Rattle.engine.specs.declared.state.Cell.TheVariants as C
use Rattle.engine.specs.declared.state.Mode.TheVariants as W
use Rattle.engine.specs.View.{view_cell, mode_of, value_of, row_at, type_in}
use Rattle.engine.specs.Values.{limited_to, answered_by, closure_mode, halves_of, bound_to}
use Rattle.engine.specs.Stores.{no_cell, nearest_in, find_in, binding_of, resolved_by, entered}

-- a closure
abbrev pub closed_of : Closure → Closed
closed_of (K.Number n) = D.Number n
closed_of (K.Row r e) = D.Row r e

pub closure_stands : (s : Tables) (c : Closure) → mode_of s (closure_mode c) ≡ EM.Eval (closed_of c)
closure_stands s (K.Number n) = refl
closure_stands s (K.Row r e) = refl

pub limited_stands : (s : Tables) (n : ℕ) → mode_of s (limited_to n) ≡ limited n
limited_stands s n = by (leb n top)
  where
    by : (b : Bool) → mode_of s (cond b (W.Return (V.Number n)) W.Fail) ≡ cond b (EM.Return (EV.Number n)) EM.Fail
    by true = refl
    by false = refl

pub answer_stands : (s : Tables) (a : Option ℕ) → mode_of s (answered_by a) ≡ answered a
answer_stands s (Some n) = refl
answer_stands s None = refl

-- ---- cells

-- an entry of a list of what is made of the entries of another
map_at : {X Y : Type 0} (g : X → Y) (xs : List X) (i : ℕ) (d : X) (e : Y) → g d ≡ e → get_or (map g xs) i e ≡ g (get_or xs i d)
map_at g [] i d e h = sym h
map_at g (x ∷ xs) zero d e h = refl
map_at g (x ∷ xs) (suc i) d e h = map_at g xs i d e h

cell_stands : (s : Tables) (cs : List Cell) (i : ℕ) → cell_at (map (view_cell s) cs) i ≡ view_cell s (get_or cs i no_cell)
cell_stands s cs i = map_at (view_cell s) cs i no_cell blank_cell refl

left_stands : (s : Tables) (x : Cell) → value_of s (halves_of x).0 ≡ left_in (view_cell s x)
left_stands s (C.Pair p v w) = refl
left_stands s _ = refl

right_stands : (s : Tables) (x : Cell) → value_of s (halves_of x).1 ≡ right_in (view_cell s x)
right_stands s (C.Pair p v w) = refl
right_stands s _ = refl

pub left_half : (s : Tables) (cs : List Cell) (i : ℕ) → mode_of s (W.Return (halves_of (get_or cs i no_cell)).0) ≡ EM.Return (left_in (cell_at (map (view_cell s) cs) i))
left_half s cs i = ap EM.Return (left_stands s (get_or cs i no_cell) ∙ ap left_in (sym (cell_stands s cs i)))

pub right_half : (s : Tables) (cs : List Cell) (i : ℕ) → mode_of s (W.Return (halves_of (get_or cs i no_cell)).1) ≡ EM.Return (right_in (cell_at (map (view_cell s) cs) i))
right_half s cs i = ap EM.Return (right_stands s (get_or cs i no_cell) ∙ ap right_in (sym (cell_stands s cs i)))

pub bound_stands : (s : Tables) (c : Closure) (x : ℕ) → view_cell s (bound_to c x) ≡ EC.Bound (closed_of c) x
bound_stands s (K.Number n) x = refl
bound_stands s (K.Row r e) x = refl

-- the cells with one more
pub one_more : (s : Tables) (cs : List Cell) (x : Cell) → map (view_cell s) cs ++ (view_cell s x ∷ []) ≡ map (view_cell s) (cs ++ (x ∷ []))
one_more s cs x = sym (map-append (view_cell s) cs (x ∷ []))

-- ---- names

binding_stands : (s : Tables) (x : Cell) → closed_of (binding_of x).0 ≡ bound_of_cell (view_cell s x)
binding_stands s (C.Bound r e x) = refl
binding_stands s _ = refl

next_stands : (s : Tables) (x : Cell) → (binding_of x).1 ≡ next_of_cell (view_cell s x)
next_stands s (C.Bound r e x) = refl
next_stands s _ = refl

nearest_stands : (s : Tables) (cs : List Cell) (e : ℕ) → closed_of (nearest_in cs e).0 ≡ nearest (map (view_cell s) cs) e
nearest_stands s cs zero = refl
nearest_stands s cs (suc i) = binding_stands s (get_or cs i no_cell) ∙ ap bound_of_cell (sym (cell_stands s cs i))

outward_stands : (s : Tables) (cs : List Cell) (e : ℕ) → (nearest_in cs e).1 ≡ outward (map (view_cell s) cs) e
outward_stands s cs zero = refl
outward_stands s cs (suc i) = next_stands s (get_or cs i no_cell) ∙ ap next_of_cell (sym (cell_stands s cs i))

find_stands : (s : Tables) (cs : List Cell) (e d : ℕ) → closed_of (find_in cs e d) ≡ find (map (view_cell s) cs) e d
unfolding find_in find
find_stands s cs e zero = nearest_stands s cs e
find_stands s cs e (suc d) = find_stands s cs (nearest_in cs e).1 d ∙ ap (λ (x : ℕ). find (map (view_cell s) cs) x d) (outward_stands s cs e)

-- ---- rows

-- the node of a row that begins so
abbrev pub node_by : Head → Ty → TermRow → Node
node_by H.Number T t = G.Number t.number
node_by H.Name T t = G.Name t.number
node_by (H.Form g) T t = form_node g T t.a t.b t.c

module _ (T : Ty) (t : TermRow) where
  -- as the nodes say it
  abbrev Kind : ℕ → Type 0
  Kind k = cond (eqb k 0) (G.Number t.number) (cond (eqb k 1) (G.Name t.number) (form_node (form_at k) T t.a t.b t.c)) ≡ node_by (head_at k) T t

  by_kind : (k : ℕ) → Kind k
  by_kind k =
      ⊎_elim
      (λ (few : k < 2). ⊎_elim (λ (lt : k < 1). subst Kind (let e : 0 ≡ k = omega arith in e) refl) (λ (ge : 1 ≤ k). subst Kind (let e : 1 ≡ k = omega arith in e) refl) (order k 1))
      (λ (ge : 2 ≤ k).
      let x = ne_eqb k 0 (λ (e : k ≡ 0). omega arith) in
      let y = ne_eqb k 1 (λ (e : k ≡ 1). omega arith) in
      let z = le-ltb k 2 ge in
      (λ i. cond (x i) (G.Number t.number) (cond (y i) (G.Name t.number) (form_node (form_at k) T t.a t.b t.c)))
      ∙ sym (λ i. node_by (cond (z i) (cond (eqb k 0) H.Number H.Name) (H.Form (form_at k))) T t))
      (order k 2)

pub node_at : (s : Tables) (r : ℕ) → node_in (nodes_of s) r ≡ node_by (head_at (row_at s r).kind) (type_in s r) (row_at s r)
unfolding node_of
node_at s r = map_at (node_of (types_from [] s.0)) s.1 r (leaf_row 0 0) blank_node refl ∙ by_kind (type_in s r) (row_at s r) (row_at s r).kind

form_rests : (k : List EC.Cell) (r e : ℕ) (g : Form) (T : Ty) (a b c : ℕ) → D.Row r e ≡ resolved k r e (form_node g T a b c)
form_rests k r e R.Succ T a b c = refl
form_rests k r e _ T a b c = refl

-- what a row stands for in an environment
pub entered_stands : (s : Tables) (cs : List Cell) (r e : ℕ) → closed_of (entered s.1 cs r e) ≡ enter (nodes_of s) (map (view_cell s) cs) r e
unfolding enter
entered_stands s cs r e = by (head_at (row_at s r).kind) ∙ ap (resolved (map (view_cell s) cs) r e) (sym (node_at s r))
  where
    by : (h : Head) → closed_of (resolved_by h cs (row_at s r).number r e) ≡ resolved (map (view_cell s) cs) r e (node_by h (type_in s r) (row_at s r))
    by H.Number = refl
    by H.Name = find_stands s cs e (row_at s r).number
    by (H.Form g) = form_rests (map (view_cell s) cs) r e g (type_in s r) (row_at s r).a (row_at s r).b (row_at s r).c

-- and where the machine stands there
pub enter_stands : (s : Tables) (cs : List Cell) (r e : ℕ) → mode_of s (closure_mode (entered s.1 cs r e)) ≡ EM.Eval (enter (nodes_of s) (map (view_cell s) cs) r e)
enter_stands s cs r e = closure_stands s (entered s.1 cs r e) ∙ ap EM.Eval (entered_stands s cs r e)
