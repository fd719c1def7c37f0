-- A row entered stands for its term with the environment's terms for its names.
use Rattle.std.proofs.Common.{◌≡◌, ℕ, zero, suc, ◌+◌, ◌-◌, ◌<◌, ◌≤◌, true, false, not, ltb, leb, List, length, Some, sym, refl, ap, ◌∙◌, subst, arith, le-leb, leb-true}
use native.Mathlib.Decide.{dec_lt}
use lib.ListN.{get_or-eq_default}
use Rattle.std.proofs.lemmas.Bool.{and_parts, and_from}
use Rattle.std.specs.List.{slice_get}
use Rattle.std.proofs.lemmas.Option.{slice_get_past}
use Rattle.theory.specs.Syntax.{Term, name}
use Rattle.machine.specs.Substitution.{or_else, close, Below}
use Rattle.machine.specs.Laws.{Laws}
use Rattle.environments.specs.Nodes.{Node, node_in}
use Rattle.environments.specs.Nodes as G
use Rattle.environments.specs.Closures.{Closed}
use Rattle.environments.specs.Closures as D
use Rattle.environments.specs.Cells.{Cell}
use Rattle.environments.specs.Cells as C
use Rattle.environments.specs.Folds.{lawful}
use Rattle.environments.specs.NodeTerms.{node_term_at, term_of}
use Rattle.environments.specs.States.{cell_at, blank_cell, bound_of_cell, next_of_cell, nearest, outward, find, resolved, enter}
use Rattle.environments.specs.Stands.{Meant, names_in, env_of, closed_of, cell_of, cells_of}
use Rattle.environments.specs.Fits.{is_name, place_fits, closed_fits, cell_fits}
use Rattle.environments.proofs.Folds.{lawful_at}
use Rattle.environments.proofs.Cells.{cell_entry}

-- ---- what is found stands for the name's term

module _ (ts : List Term) where
  near_cell : (ms : List Meant) (c : Cell) → 0 < length (names_in (cell_of ts ms c))
      → slice_get (names_in (cell_of ts ms c)) 0 ≡ Some (closed_of ts ms (bound_of_cell c))
  near_cell ms (C.Bound c x) h = refl
  near_cell ms (C.Pair T v w) h = absurd (omega arith)

  far_cell : (ms : List Meant) (c : Cell) (d : ℕ) → suc d < length (names_in (cell_of ts ms c))
      → (slice_get (names_in (cell_of ts ms c)) (suc d) ≡ slice_get (env_of ms (next_of_cell c)) d) × (d < length (env_of ms (next_of_cell c)))
  far_cell ms (C.Bound c x) d h = (refl, omega arith)
  far_cell ms (C.Pair T v w) d h = absurd (omega arith)

  module _ (nodes : List Node) (cs : List Cell) (law : lawful (cell_fits nodes) 0 cs ≡ true) where
    near : (e : ℕ) → 0 < length (env_of (cells_of ts cs) e)
        → slice_get (env_of (cells_of ts cs) e) 0 ≡ Some (closed_of ts (cells_of ts cs) (nearest cs e))
    near zero h = absurd (omega arith)
    near (suc i) h =
        let P : Meant → Type 0 =
        λ m. 0 < length (names_in m)
        → slice_get (names_in m) 0 ≡ Some (closed_of ts (cells_of ts cs) (bound_of_cell (cell_at cs i))) in
        subst P (sym (cell_entry ts nodes cs i law)) (near_cell (cells_of ts cs) (cell_at cs i)) h

    far : (e d : ℕ) → suc d < length (env_of (cells_of ts cs) e)
        → (slice_get (env_of (cells_of ts cs) e) (suc d) ≡ slice_get (env_of (cells_of ts cs) (outward cs e)) d) ×
        (d < length (env_of (cells_of ts cs) (outward cs e)))
    far zero d h = absurd (omega arith)
    far (suc i) d h =
        let x = next_of_cell (cell_at cs i) in
        let P : Meant → Type 0 =
        λ m. suc d < length (names_in m)
        → (slice_get (names_in m) (suc d) ≡ slice_get (env_of (cells_of ts cs) x) d) × (d < length (env_of (cells_of ts cs) x)) in
        subst P (sym (cell_entry ts nodes cs i law)) (far_cell (cells_of ts cs) (cell_at cs i) d) h

    pub find_stands : (e d : ℕ) → d < length (env_of (cells_of ts cs) e)
        → slice_get (env_of (cells_of ts cs) e) d ≡ Some (closed_of ts (cells_of ts cs) (find cs e d))
    unfolding find
    find_stands e zero h = near e h
    find_stands e (suc d) h = let (p, q) = far e d h in p ∙ find_stands (outward cs e) d q

-- A name that is closed by ρ is one of ρ's.
in_sight : Laws → (ρ : List Term) (d : ℕ) → Below 0 (close 0 ρ (name d)) → d < length ρ
in_sight laws ρ d b = go (dec_lt d (length ρ))
  where
    go : Dec (d < length ρ) → d < length ρ
    go (yes l) = l
    go (no l) =
        let p : close 0 ρ (name d) ≡ name (d - length ρ) =
        laws.name_put ρ d ∙ ap (λ o. or_else o (name (d - length ρ))) (slice_get_past ρ d (omega arith)) in
        let z = subst (Below 0) p b in
        absurd (omega (arith, z))

-- A name stands for its binding; to look it up is no step.
name_stands : Laws → (ρ : List Term) (i : ℕ) (e : Term) → slice_get ρ i ≡ Some e → close 0 ρ (name i) ≡ e
name_stands laws ρ i e h = laws.name_put ρ i ∙ ap (λ o. or_else o (name (i - length ρ))) h

module _ (laws : Laws) (ts : List Term) (nodes : List Node)
    (entry : (i : ℕ) → node_term_at ts i ≡ term_of ts (node_in nodes i)) (cs : List Cell)
    (law : lawful (cell_fits nodes) 0 cs ≡ true) where
  pub enter_stands : (r e : ℕ) → Below 0 (close 0 (env_of (cells_of ts cs) e) (node_term_at ts r)) →
      closed_of ts (cells_of ts cs) (enter nodes cs r e) ≡ close 0 (env_of (cells_of ts cs) e) (node_term_at ts r)
  unfolding enter
  enter_stands r e b = go (node_in nodes r) refl
    where
      go : (g : Node) → node_in nodes r ≡ g
          → closed_of ts (cells_of ts cs) (resolved cs r e g) ≡ close 0 (env_of (cells_of ts cs) e) (node_term_at ts r)
      go (G.Number n) q = refl
      go (G.Name d) q =
          let p : node_term_at ts r ≡ name d = entry r ∙ ap (term_of ts) q in
          let ρ = env_of (cells_of ts cs) e in
          let h : d < length ρ = in_sight laws ρ d (subst (λ t. Below 0 (close 0 ρ t)) p b) in
          sym (name_stands laws ρ d (closed_of ts (cells_of ts cs) (find cs e d)) (find_stands ts nodes cs law e d h))
          ∙ ap (close 0 ρ) (sym p)
      go (G.Unary g a) q = refl
      go (G.Binary g a b') q = refl
      go (G.Ifz a b' c) q = refl
      go (G.Lam T a) q = refl
      go (G.Apply a b') q = refl
      go (G.Fix T a) q = refl
      go (G.Fail T) q = refl
      go (G.Catch a b') q = refl

-- ---- what is found is there, and no name

pub place_more : (n k k' r e : ℕ) → k ≤ k' → place_fits n k r e ≡ true → place_fits n k' r e ≡ true
place_more n k k' r e le h =
    let hs = and_parts (ltb r n) (leb e k) h in
    and_from (ltb r n) (leb e k') hs.0 (le-leb e k' (omega (arith, leb-true e k hs.1)))

pub closed_more : (nodes : List Node) (k k' : ℕ) (c : Closed) → k ≤ k' → closed_fits nodes k c ≡ true
    → closed_fits nodes k' c ≡ true
closed_more nodes k k' (D.Number n) le h = refl
closed_more nodes k k' (D.Row r e) le h =
    let hs = and_parts (not (is_name (node_in nodes r))) (place_fits (length nodes) k r e) h in
    and_from (not (is_name (node_in nodes r))) (place_fits (length nodes) k' r e) hs.0
    (place_more (length nodes) k k' r e le hs.1)

bound_fits : (nodes : List Node) (k : ℕ) (c : Cell) → cell_fits nodes k c ≡ true → closed_fits nodes k (bound_of_cell c) ≡ true
bound_fits nodes k (C.Bound c x) h = (and_parts (closed_fits nodes k c) (leb x k) h).0
bound_fits nodes k (C.Pair T v w) h = refl

module _ (nodes : List Node) (cs : List Cell) (law : lawful (cell_fits nodes) 0 cs ≡ true) where
  near_fits : (e : ℕ) → closed_fits nodes (length cs) (nearest cs e) ≡ true
  near_fits zero = refl
  near_fits (suc i) = go (dec_lt i (length cs))
    where
      go : Dec (i < length cs) → closed_fits nodes (length cs) (bound_of_cell (cell_at cs i)) ≡ true
      go (yes l) =
          closed_more nodes (0 + i) (length cs) (bound_of_cell (cell_at cs i)) (omega arith)
          (bound_fits nodes (0 + i) (cell_at cs i) (lawful_at (cell_fits nodes) 0 cs i blank_cell law l))
      go (no l) =
          let p : cell_at cs i ≡ blank_cell = get_or-eq_default cs blank_cell {n = i} (omega arith) in
          ap (λ (c : Cell). closed_fits nodes (length cs) (bound_of_cell c)) p

  find_fits : (e d : ℕ) → closed_fits nodes (length cs) (find cs e d) ≡ true
  unfolding find
  find_fits e zero = near_fits e
  find_fits e (suc d) = find_fits (outward cs e) d

  pub enter_fits : (r e : ℕ) → place_fits (length nodes) (length cs) r e ≡ true
      → closed_fits nodes (length cs) (enter nodes cs r e) ≡ true
  unfolding enter
  enter_fits r e h = go (node_in nodes r) refl
    where
      here : (g : Node) → node_in nodes r ≡ g → is_name g ≡ false → closed_fits nodes (length cs) (D.Row r e) ≡ true
      here g q n =
          and_from (not (is_name (node_in nodes r))) (place_fits (length nodes) (length cs) r e)
          (ap (λ (x : Node). not (is_name x)) q ∙ ap not n) h

      go : (g : Node) → node_in nodes r ≡ g → closed_fits nodes (length cs) (resolved cs r e g) ≡ true
      go (G.Number n) q = here (G.Number n) q refl
      go (G.Name d) q = find_fits e d
      go (G.Unary g a) q = here (G.Unary g a) q refl
      go (G.Binary g a b) q = here (G.Binary g a b) q refl
      go (G.Ifz a b c) q = here (G.Ifz a b c) q refl
      go (G.Lam T a) q = here (G.Lam T a) q refl
      go (G.Apply a b) q = here (G.Apply a b) q refl
      go (G.Fix T a) q = here (G.Fix T a) q refl
      go (G.Fail T) q = here (G.Fail T) q refl
      go (G.Catch a b) q = here (G.Catch a b) q refl
