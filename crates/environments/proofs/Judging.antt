-- What the next step adds and makes, and the status, are those of what the state stands for.
use Rattle.std.proofs.Common.{◌≡◌, ℕ, zero, suc, ◌+◌, ◌<◌, ◌≤◌, true, cond, not, ltb, leb, List, [], ◌∷◌, length, sym, refl, ap, ◌∙◌, arith, le-ltb, lt-ltb, le-leb}
use mathlib.Core.Logic.{ite}
use native.Mathlib.Decide.{dec_le, dec_lt}
use borrow.Author.Tests.{lt-leb}
use Rattle.std.proofs.lemmas.Bool.{and_parts}
use Rattle.theory.specs.Syntax.{pair, calc, Term}
use Rattle.machine.specs.Substitution.{close}
use Rattle.machine.specs.States.{Frame, in_ifz, ◌◁◌}
use Rattle.runs.specs.Standings.{Limits, Status, spent, tall, full, going, height, opened, unrolled, bound}
use Rattle.runs.specs.Standings.{adds as adds', makes as makes', held as held', ended_or as ended_or'}
use Rattle.runs.specs.Standings.{status as status'}
use Rattle.environments.specs.Nodes.{Node, node_in}
use Rattle.environments.specs.Nodes as G
use Rattle.environments.specs.Closures as D
use Rattle.environments.specs.Values.{Value as Value'''}
use Rattle.environments.specs.Values as V
use Rattle.environments.specs.Frames.{Frame as Frame'''}
use Rattle.environments.specs.Frames as F
use Rattle.environments.specs.Modes.{Mode}
use Rattle.environments.specs.Modes as M
use Rattle.environments.specs.NodeTerms.{node_term_at, term_of, terms_of, nodes_lawful}
use Rattle.environments.specs.States.{State as State'''}
use Rattle.environments.specs.Stands.{Meant, names, pair_of, meant_at, pair_in, env_of, value_of, frame_of, cells_of}
use Rattle.environments.specs.Stands.{stack_of, mode_of, stands}
use Rattle.environments.specs.Fits.{is_name, place_fits, closed_fits, mode_fits, fits}
use Rattle.environments.specs.Runs.{Standing, standing, opens, unrolls, adds, binds, makes, held, ended_or, status}
use Rattle.environments.specs.Laws.{Costs}
use Rattle.environments.proofs.NodeTerms.{term_entry}
use Rattle.environments.proofs.Keeping.{keeps_out}

-- ---- frames

stack_length : (ts : List Term) (ms : List Meant) (k : List Frame''') → length (stack_of ts ms k) ≡ length k
stack_length ts ms [] = refl
stack_length ts ms (f ∷ k) = ap suc (stack_length ts ms k)

mode_height : (ts : List Term) (ms : List Meant) (k : List Frame) (x : Mode) → height (mode_of ts ms k x) ≡ length k
mode_height ts ms k (M.Eval c) = refl
mode_height ts ms k (M.Return v) = refl
mode_height ts ms k M.Fail = refl

pub frames_agree : (ts : List Term) (s : State''') → height (stands ts s) ≡ length s.stack
frames_agree ts s =
    mode_height ts (cells_of ts s.cells) (stack_of ts (cells_of ts s.cells) s.stack) s.mode
    ∙ stack_length ts (cells_of ts s.cells) s.stack

-- ---- costs

no_name : {P : Type 0} → not true ≡ true → P
no_name e = absurd (let z : ◌≡◌ {A = ℕ} 0 1 = cc in omega arith)

opens_agree : (ts : List Term) (ρ : List Term) (g : Node) → not (is_name g) ≡ true
    → opens g ≡ opened (close 0 ρ (term_of ts g))
opens_agree ts ρ (G.Number n) h = refl
opens_agree ts ρ (G.Name d) h = no_name h
opens_agree ts ρ (G.Unary g a) h = refl
opens_agree ts ρ (G.Binary g a b) h = refl
opens_agree ts ρ (G.Ifz a b c) h = refl
opens_agree ts ρ (G.Lam T a) h = refl
opens_agree ts ρ (G.Apply a b) h = refl
opens_agree ts ρ (G.Fix T a) h = refl
opens_agree ts ρ (G.Fail T) h = refl
opens_agree ts ρ (G.Catch a b) h = refl

unrolls_agree : (ts : List Term) (ρ : List Term) (g : Node) → not (is_name g) ≡ true
    → unrolls g ≡ unrolled (close 0 ρ (term_of ts g))
unrolls_agree ts ρ (G.Number n) h = refl
unrolls_agree ts ρ (G.Name d) h = no_name h
unrolls_agree ts ρ (G.Unary g a) h = refl
unrolls_agree ts ρ (G.Binary g a b) h = refl
unrolls_agree ts ρ (G.Ifz a b c) h = refl
unrolls_agree ts ρ (G.Lam T a) h = refl
unrolls_agree ts ρ (G.Apply a b) h = refl
unrolls_agree ts ρ (G.Fix T a) h = refl
unrolls_agree ts ρ (G.Fail T) h = refl
unrolls_agree ts ρ (G.Catch a b) h = refl

ifz_pair : (B C : Term) (m : Meant) → 0 ≡ bound (in_ifz B C) (pair_in m)
ifz_pair B C (names ρ) = refl
ifz_pair B C (pair_of T v w) = refl

module _ (ts : List Term) (ms : List Meant) where
  binds_agree : (f : Frame''') (v : Value''') → binds f v ≡ bound (frame_of ts ms f) (value_of ts ms v)
  binds_agree (F.Unary g) v = refl
  binds_agree (F.First g r e) v = refl
  binds_agree (F.Second (pair T) u) v = refl
  binds_agree (F.Second (calc o) u) v = refl
  binds_agree (F.Ifz z m e) (V.Number zero) = refl
  binds_agree (F.Ifz z m e) (V.Number (suc n)) = refl
  binds_agree (F.Ifz z m e) (V.Lam T a x) = refl
  binds_agree (F.Ifz z m e) (V.Pair i) =
      ifz_pair (close 0 (env_of ms e) (node_term_at ts z)) (close 1 (env_of ms e) (node_term_at ts m)) (meant_at ms i)
  binds_agree (F.Apply r e) v = refl
  binds_agree (F.Catch r e) v = refl

  module _ (nodes : List Node) (entry : (i : ℕ) → node_term_at ts i ≡ term_of ts (node_in nodes i)) (j : ℕ) where
    known : (r e : ℕ) → closed_fits nodes j (D.Row r e) ≡ true → not (is_name (node_in nodes r)) ≡ true
    known r e h = (and_parts (not (is_name (node_in nodes r))) (place_fits (length nodes) j r e) h).0

    adds_same : (k : List Frame) (x : Mode) → mode_fits nodes j x ≡ true → adds nodes x ≡ adds' (mode_of ts ms k x)
    adds_same k (M.Eval (D.Number n)) h = refl
    adds_same k (M.Eval (D.Row r e)) h =
        opens_agree ts (env_of ms e) (node_in nodes r) (known r e h)
        ∙ ap (λ t. opened (close 0 (env_of ms e) t)) (sym (entry r))
    adds_same k (M.Return v) h = refl
    adds_same k M.Fail h = refl

    makes_same : (k : List Frame''') (x : Mode) → mode_fits nodes j x ≡ true
        → makes nodes x k ≡ makes' (mode_of ts ms (stack_of ts ms k) x)
    makes_same k (M.Eval (D.Number n)) h = refl
    makes_same k (M.Eval (D.Row r e)) h =
        unrolls_agree ts (env_of ms e) (node_in nodes r) (known r e h)
        ∙ ap (λ t. unrolled (close 0 (env_of ms e) t)) (sym (entry r))
    makes_same [] (M.Return v) h = refl
    makes_same (f ∷ k) (M.Return v) h = binds_agree f v
    makes_same k M.Fail h = refl

  ended_pair : (m : Meant) (t : Status) → t ≡ ended_or' ([] ◁ pair_in m) t
  ended_pair (names ρ) t = refl
  ended_pair (pair_of T v w) t = refl

  ended_same : (x : Mode) (k : List Frame''') (t : Status)
      → ended_or x k t ≡ ended_or' (mode_of ts ms (stack_of ts ms k) x) t
  ended_same (M.Eval c) k t = refl
  ended_same (M.Return (V.Number n)) [] t = refl
  ended_same (M.Return (V.Number n)) (f ∷ k) t = refl
  ended_same (M.Return (V.Lam T a e)) [] t = refl
  ended_same (M.Return (V.Lam T a e)) (f ∷ k) t = refl
  ended_same (M.Return (V.Pair i)) [] t = ended_pair (meant_at ms i) t
  ended_same (M.Return (V.Pair i)) (f ∷ k) t = refl
  ended_same M.Fail [] t = refl
  ended_same M.Fail (f ∷ k) t = refl

-- A test and a decision choose alike.
le_chosen : (a b : ℕ) (x y : Status) → cond (leb a b) x y ≡ ite (dec_le a b) x y
le_chosen a b x y = go (dec_le a b)
  where
    go : (d : Dec (a ≤ b)) → cond (leb a b) x y ≡ ite d x y
    go (yes h) = ap (λ t. cond t x y) (le-leb a b h)
    go (no h) = ap (λ t. cond t x y) (lt-leb a b (omega arith))

lt_chosen : (a b : ℕ) (x y : Status) → cond (ltb a b) x y ≡ ite (dec_lt a b) x y
lt_chosen a b x y = go (dec_lt a b)
  where
    go : (d : Dec (a < b)) → cond (ltb a b) x y ≡ ite d x y
    go (yes h) = ap (λ t. cond t x y) (lt-ltb a b h)
    go (no h) = ap (λ t. cond t x y) (le-ltb a b (omega arith))

abbrev holding : Limits → ℕ → ℕ → ℕ → Status
holding L s f c = ite (dec_le L.fuel s) spent (ite (dec_lt L.frames f) tall (ite (dec_lt L.cells c) full going))

holds_alike : (L : Limits) (s f c : ℕ)
    → cond (leb L.fuel s) spent (cond (ltb L.frames f) tall (cond (ltb L.cells c) full going))
    ≡ holding L s f c
holds_alike L s f c =
    ap (λ x. cond (leb L.fuel s) spent (cond (ltb L.frames f) tall x)) (lt_chosen L.cells c full going)
    ∙ ap (λ x. cond (leb L.fuel s) spent x) (lt_chosen L.frames f tall (ite (dec_lt L.cells c) full going))
    ∙ le_chosen L.fuel s spent (ite (dec_lt L.frames f) tall (ite (dec_lt L.cells c) full going))

module _ (nodes : List Node) (table : nodes_lawful nodes ≡ true) where
  -- the terms of the nodes
  abbrev ts : List Term
  ts = terms_of nodes

  pub costs_agree : (s : State''') → fits ts nodes s ≡ true → Costs nodes s
  costs_agree s h =
      let ms = cells_of ts s.cells in
      let ks = keeps_out ts nodes s h in
      record {
        frames =
            adds_same ts ms nodes (λ i. term_entry nodes i table) (length s.cells) (stack_of ts ms s.stack)
            s.mode ks.mode;
        cells =
            makes_same ts ms nodes (λ i. term_entry nodes i table) (length s.cells) s.stack s.mode ks.mode;
      }

  pub judges : (L : Limits) (r : Standing) → fits ts nodes r.state ≡ true
      → status nodes L r ≡ status' L (standing ts r)
  judges L r h =
      let s = r.state in
      let ms = cells_of ts s.cells in
      let cost = costs_agree s h in
      let f : length s.stack + adds nodes s.mode ≡ height (stands ts s) + adds' (stands ts s) =
      omega (arith, cost.frames, frames_agree ts s) in
      let c : length s.cells + makes nodes s.mode s.stack ≡ length s.cells + makes' (stands ts s) =
      omega (arith, cost.cells) in
      let t : held nodes L r ≡ held' L (standing ts r) =
      holds_alike L r.steps (length s.stack + adds nodes s.mode)
      (length s.cells + makes nodes s.mode s.stack)
      ∙ (λ i. holding L r.steps (f i) (c i)) in
      ap (ended_or s.mode s.stack) t ∙ ended_same ts ms s.mode s.stack (held' L (standing ts r))
