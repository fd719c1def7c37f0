-- A step keeps what holds of a state: what it names is there, and what its cells bind is closed.
use Rattle.std.proofs.Common.{◌≡◌, ℕ, zero, suc, ◌+◌, ◌<◌, ◌≤◌, Bool, true, false, cond, not, ◌&&◌, ltb, leb, List, [], ◌∷◌, ◌++◌, length, Some, None, Option, sym, refl, subst, arith, ltb-true, lt-ltb, le-leb}
use Rattle.std.proofs.lemmas.Bool.{and_parts, and_from}
use Rattle.std.proofs.lemmas.List.{length_push}
use Rattle.rows.specs.Limits.{top}
use Rattle.rows.specs.Meanings.{Meaning}
use Rattle.theory.specs.Syntax.{Ty, succ, fst, snd, get, pair, calc, Term}
use Rattle.machine.specs.Substitution.{Below}
use Rattle.machine.specs.Steps.{result}
use Rattle.machine.specs.Laws.{Laws}
use Rattle.environments.specs.Nodes.{Node, node_in}
use Rattle.environments.specs.Nodes as G
use Rattle.environments.specs.Closures.{Closed}
use Rattle.environments.specs.Closures as D
use Rattle.environments.specs.Values.{Value}
use Rattle.environments.specs.Values as V
use Rattle.environments.specs.Cells.{Cell}
use Rattle.environments.specs.Cells as C
use Rattle.environments.specs.Frames.{Frame}
use Rattle.environments.specs.Frames as F
use Rattle.environments.specs.Modes.{Mode}
use Rattle.environments.specs.Modes as M
use Rattle.environments.specs.Folds.{lawful}
use Rattle.environments.specs.NodeTerms.{node_term_at, term_of, node_is_fit}
use Rattle.environments.specs.States.{State, cell_at, blank_cell, left_in, right_in, enter, limited, answered, binding}
use Rattle.environments.specs.States.{evaluated, begun, returned, failed, stepped}
use Rattle.environments.specs.Stands.{Meant, names, pair_of, env_of, closed_of, value_of, cells_of, frame_of, stack_of}
use Rattle.environments.specs.Stands.{mode_of}
use Rattle.environments.specs.Fits.{is_name, place_fits, closed_fits, value_fits, cell_fits, frame_fits, stack_fits}
use Rattle.environments.specs.Fits.{mode_fits, below, all_closed, meants_closed, fits, places_fit, Fitting}
use Rattle.environments.proofs.Folds.{lawful_at}
use Rattle.environments.proofs.Cells.{law_push, law_bind, cells_push, env_closed, test_from_below, place_env, place_row}
use Rattle.environments.proofs.Cells.{meants_push}
use Rattle.environments.proofs.Names.{enter_stands, enter_fits, place_more}
use Rattle.environments.proofs.Steps.{Shut, ShutFrame}

pub keeps_out : (ts : List Term) (nodes : List Node) (s : State) → fits ts nodes s ≡ true → Fitting ts nodes s
keeps_out ts nodes s h =
    let a = and_parts (places_fit nodes s) (meants_closed (cells_of ts s.cells)) h in
    let b =
    and_parts (lawful (cell_fits nodes) 0 s.cells)
    (stack_fits (length nodes) (length s.cells) s.stack && mode_fits nodes (length s.cells) s.mode)
    a.0 in
    let c =
    and_parts (stack_fits (length nodes) (length s.cells) s.stack)
    (mode_fits nodes (length s.cells) s.mode) b.1 in
    record { cells = b.0; stack = c.0; mode = c.1; shut = a.1 }

pub keeps_in : (ts : List Term) (nodes : List Node) (s : State) → Fitting ts nodes s → fits ts nodes s ≡ true
keeps_in ts nodes s h =
    let c =
    and_from (stack_fits (length nodes) (length s.cells) s.stack)
    (mode_fits nodes (length s.cells) s.mode) h.stack h.mode in
    let b =
    and_from (lawful (cell_fits nodes) 0 s.cells)
    (stack_fits (length nodes) (length s.cells) s.stack && mode_fits nodes (length s.cells) s.mode)
    h.cells c in
    and_from (places_fit nodes s) (meants_closed (cells_of ts s.cells)) b h.shut

-- ---- more cells

value_more : (n k k' : ℕ) (v : Value) → k ≤ k' → value_fits n k v ≡ true → value_fits n k' v ≡ true
value_more n k k' (V.Number x) le h = refl
value_more n k k' (V.Lam T a e) le h = place_more n k k' a e le h
value_more n k k' (V.Pair i) le h = lt-ltb i k' (omega (arith, ltb-true i k h))

frame_more : (n k k' : ℕ) (f : Frame) → k ≤ k' → frame_fits n k f ≡ true → frame_fits n k' f ≡ true
frame_more n k k' (F.Unary g) le h = refl
frame_more n k k' (F.First g r e) le h = place_more n k k' r e le h
frame_more n k k' (F.Second g v) le h = value_more n k k' v le h
frame_more n k k' (F.Ifz z m e) le h =
    let hs = and_parts (place_fits n k z e) (ltb m n) h in
    and_from (place_fits n k' z e) (ltb m n) (place_more n k k' z e le hs.0) hs.1
frame_more n k k' (F.Apply r e) le h = place_more n k k' r e le h
frame_more n k k' (F.Catch r e) le h = place_more n k k' r e le h

stack_more : (n k k' : ℕ) (fs : List Frame) → k ≤ k' → stack_fits n k fs ≡ true → stack_fits n k' fs ≡ true
stack_more n k k' [] le h = refl
stack_more n k k' (f ∷ fs) le h =
    let hs = and_parts (frame_fits n k f) (stack_fits n k fs) h in
    and_from (frame_fits n k' f) (stack_fits n k' fs) (frame_more n k k' f le hs.0) (stack_more n k k' fs le hs.1)

left_fits : (nodes : List Node) (k : ℕ) (c : Cell) → cell_fits nodes k c ≡ true
    → value_fits (length nodes) k (left_in c) ≡ true
left_fits nodes k (C.Bound c x) h = refl
left_fits nodes k (C.Pair T v w) h = (and_parts (value_fits (length nodes) k v) (value_fits (length nodes) k w) h).0

right_fits : (nodes : List Node) (k : ℕ) (c : Cell) → cell_fits nodes k c ≡ true
    → value_fits (length nodes) k (right_in c) ≡ true
right_fits nodes k (C.Bound c x) h = refl
right_fits nodes k (C.Pair T v w) h = (and_parts (value_fits (length nodes) k v) (value_fits (length nodes) k w) h).1

part : (n k r a e : ℕ) → ltb a r ≡ true → r < n → e ≤ k → place_fits n k a e ≡ true
part n k r a e h l le = and_from (ltb a n) (leb e k) (lt-ltb a n (omega (arith, ltb-true a r h))) (le-leb e k le)

limited_fits : (nodes : List Node) (k n : ℕ) → mode_fits nodes k (limited n) ≡ true
limited_fits nodes k n = go (leb n top)
  where
    go : (b : Bool) → mode_fits nodes k (cond b (M.Return (V.Number n)) M.Fail) ≡ true
    go true = refl
    go false = refl

answered_fits : (nodes : List Node) (k : ℕ) (o : Option ℕ) → mode_fits nodes k (answered o) ≡ true
answered_fits nodes k (Some a) = refl
answered_fits nodes k None = refl

module _ (laws : Laws) (ts : List Term) (nodes : List Node) (entry : (i : ℕ) → node_term_at ts i ≡ term_of ts (node_in nodes i))
    (parts : (i : ℕ) → i < length nodes → node_is_fit i (node_in nodes i) ≡ true)
    (cs : List Cell) (law : lawful (cell_fits nodes) 0 cs ≡ true) (shut : meants_closed (cells_of ts cs) ≡ true) where
  -- how many nodes and cells there are, and what the cells stand for
  abbrev N : ℕ
  N = length nodes

  abbrev J : ℕ
  J = length cs

  abbrev ms : List Meant
  ms = cells_of ts cs

  left_there : (i : ℕ) → i < J → value_fits N J (left_in (cell_at cs i)) ≡ true
  left_there i l =
      value_more N (0 + i) J (left_in (cell_at cs i)) (omega arith)
      (left_fits nodes (0 + i) (cell_at cs i) (lawful_at (cell_fits nodes) 0 cs i blank_cell law l))

  right_there : (i : ℕ) → i < J → value_fits N J (right_in (cell_at cs i)) ≡ true
  right_there i l =
      value_more N (0 + i) J (right_in (cell_at cs i)) (omega arith)
      (right_fits nodes (0 + i) (cell_at cs i) (lawful_at (cell_fits nodes) 0 cs i blank_cell law l))

  -- The state with another mode and stack.
  at : (x : Mode) (k : List Frame) → stack_fits N J k ≡ true → mode_fits nodes J x ≡ true
      → Fitting ts nodes (record { mode = x; stack = k; cells = cs })
  at x k hk hx = record { cells = law; stack = hk; mode = hx; shut = shut }

  go_in : (r e : ℕ) (k : List Frame) → stack_fits N J k ≡ true → place_fits N J r e ≡ true
      → Fitting ts nodes (record { mode = M.Eval (enter nodes cs r e); stack = k; cells = cs })
  go_in r e k hk h = at (M.Eval (enter nodes cs r e)) k hk (enter_fits nodes cs law r e h)

  bind_keeps : (c : Closed) (x a : ℕ) (k : List Frame) → stack_fits N J k ≡ true → closed_fits nodes J c ≡ true → x ≤ J →
      Below 0 (closed_of ts ms c) → a < N → Fitting ts nodes (binding nodes cs c x a k).2
  bind_keeps c x a k hk cf hx bc ha =
      let cs' = cs ++ (C.Bound c x ∷ []) in
      let len : length cs' ≡ length cs + 1 = length_push cs (C.Bound c x) in
      let law' : lawful (cell_fits nodes) 0 cs' ≡ true = law_bind nodes cs c x law cf hx in
      let place : place_fits N (length cs') a (suc J) ≡ true =
      and_from (ltb a N) (leb (suc J) (length cs')) (lt-ltb a N ha) (le-leb (suc J) (length cs') (omega arith)) in
      let new =
      and_from (below 0 (closed_of ts ms c)) (all_closed (env_of ms x)) (test_from_below 0 (closed_of ts ms c) bc)
      (env_closed ms x shut) in
      record {
        cells = law';
        stack = stack_more N J (length cs') k (omega arith) hk;
        mode = enter_fits nodes cs' law' a (suc J) place;
        shut =
            subst (λ w. meants_closed w ≡ true) (sym (cells_push ts cs (C.Bound c x)))
            (meants_push ms (names (closed_of ts ms c ∷ env_of ms x)) shut new);
      }

  pair_keeps : (T : Ty) (u v : Value) (k : List Frame) → stack_fits N J k ≡ true → value_fits N J u ≡ true
      → value_fits N J v ≡ true →
      Fitting ts nodes (record { mode = M.Return (V.Pair J); stack = k; cells = cs ++ (C.Pair T u v ∷ []) })
  pair_keeps T u v k hk hu hv =
      let cs' = cs ++ (C.Pair T u v ∷ []) in
      let len : length cs' ≡ length cs + 1 = length_push cs (C.Pair T u v) in
      record {
        cells = law_push nodes cs (C.Pair T u v) law (and_from (value_fits N J u) (value_fits N J v) hu hv);
        stack = stack_more N J (length cs') k (omega arith) hk;
        mode = lt-ltb J (length cs') (omega arith);
        shut =
            subst (λ w. meants_closed w ≡ true) (sym (cells_push ts cs (C.Pair T u v)))
            (meants_push ms (pair_of T (value_of ts ms u) (value_of ts ms v)) shut refl);
      }

  module _ (k : List Frame) (hk : stack_fits N J k ≡ true) where
    push : (f : Frame) → frame_fits N J f ≡ true → stack_fits N J (f ∷ k) ≡ true
    push f h = and_from (frame_fits N J f) (stack_fits N J k) h hk

    eval_keeps : (r e : ℕ) → closed_fits nodes J (D.Row r e) ≡ true → r < N → e ≤ J → (g : Node) → node_in nodes r ≡ g
        → node_is_fit r g ≡ true →
        Below 0 (closed_of ts ms (D.Row r e)) → Fitting ts nodes (evaluated nodes k cs r e g).2
    eval_keeps r e h l le (G.Number n) q f b = at (M.Return (V.Number n)) k hk refl
    eval_keeps r e h l le (G.Name d) q f b = at (M.Eval (D.Row r e)) k hk h
    eval_keeps r e h l le (G.Unary g a) q f b =
        go_in a e (F.Unary g ∷ k) (push (F.Unary g) refl) (part N J r a e f l le)
    eval_keeps r e h l le (G.Binary g a c) q f b =
        let f' = and_parts (ltb a r) (ltb c r) f in
        go_in a e (F.First g c e ∷ k) (push (F.First g c e) (part N J r c e f'.1 l le)) (part N J r a e f'.0 l le)
    eval_keeps r e h l le (G.Ifz a c d) q f b =
        let fs = and_parts (ltb a r) (ltb c r && ltb d r) f in
        let f' = and_parts (ltb c r) (ltb d r) fs.1 in
        let more =
        and_from (place_fits N J c e) (ltb d N) (part N J r c e f'.0 l le)
        (lt-ltb d N (omega (arith, ltb-true d r f'.1))) in
        go_in a e (F.Ifz c d e ∷ k) (push (F.Ifz c d e) more) (part N J r a e fs.0 l le)
    eval_keeps r e h l le (G.Lam T a) q f b = at (M.Return (V.Lam T a e)) k hk (part N J r a e f l le)
    eval_keeps r e h l le (G.Apply a c) q f b =
        let fs = and_parts (ltb a r) (ltb c r) f in
        go_in a e (F.Apply c e ∷ k) (push (F.Apply c e) (part N J r c e fs.1 l le)) (part N J r a e fs.0 l le)
    eval_keeps r e h l le (G.Fix T a) q f b = bind_keeps (D.Row r e) e a k hk h le b (omega (arith, ltb-true a r f))
    eval_keeps r e h l le (G.Fail T) q f b = at M.Fail k hk refl
    eval_keeps r e h l le (G.Catch a c) q f b =
        let fs = and_parts (ltb a r) (ltb c r) f in
        go_in a e (F.Catch c e ∷ k) (push (F.Catch c e) (part N J r c e fs.1 l le)) (part N J r a e fs.0 l le)

    begun_keeps : (c : Closed) → closed_fits nodes J c ≡ true → Below 0 (closed_of ts ms c)
        → Fitting ts nodes (begun nodes k cs c).2
    begun_keeps (D.Number n) h b = at (M.Return (V.Number n)) k hk refl
    begun_keeps (D.Row r e) h b =
        let p = (and_parts (not (is_name (node_in nodes r))) (place_fits N J r e) h).1 in
        let l = place_row N J r e p in
        eval_keeps r e h l (place_env N J r e p) (node_in nodes r) refl (parts r l) b

    stays : (f : Frame) (v : Value) → frame_fits N J f ≡ true → value_fits N J v ≡ true
        → Fitting ts nodes (record { mode = M.Return v; stack = f ∷ k; cells = cs })
    stays f v hf hv = at (M.Return v) (f ∷ k) (push f hf) hv

    returned_keeps : (ans : Meaning) (f : Frame) (v : Value) → frame_fits N J f ≡ true → value_fits N J v ≡ true →
        ShutFrame (frame_of ts ms f) → Fitting ts nodes (returned nodes ans f k cs v).2
    returned_keeps ans (F.Unary succ) (V.Number n) hf hv sf = at (limited (n + 1)) k hk (limited_fits nodes J (n + 1))
    returned_keeps ans (F.Unary succ) (V.Lam T a e) hf hv sf = stays (F.Unary succ) (V.Lam T a e) hf hv
    returned_keeps ans (F.Unary succ) (V.Pair i) hf hv sf = stays (F.Unary succ) (V.Pair i) hf hv
    returned_keeps ans (F.Unary fst) (V.Number n) hf hv sf = stays (F.Unary fst) (V.Number n) hf hv
    returned_keeps ans (F.Unary fst) (V.Lam T a e) hf hv sf = stays (F.Unary fst) (V.Lam T a e) hf hv
    returned_keeps ans (F.Unary fst) (V.Pair i) hf hv sf =
        at (M.Return (left_in (cell_at cs i))) k hk (left_there i (ltb-true i J hv))
    returned_keeps ans (F.Unary snd) (V.Number n) hf hv sf = stays (F.Unary snd) (V.Number n) hf hv
    returned_keeps ans (F.Unary snd) (V.Lam T a e) hf hv sf = stays (F.Unary snd) (V.Lam T a e) hf hv
    returned_keeps ans (F.Unary snd) (V.Pair i) hf hv sf =
        at (M.Return (right_in (cell_at cs i))) k hk (right_there i (ltb-true i J hv))
    returned_keeps ans (F.Unary get) (V.Number n) hf hv sf = at (answered (ans n)) k hk (answered_fits nodes J (ans n))
    returned_keeps ans (F.Unary get) (V.Lam T a e) hf hv sf = stays (F.Unary get) (V.Lam T a e) hf hv
    returned_keeps ans (F.Unary get) (V.Pair i) hf hv sf = stays (F.Unary get) (V.Pair i) hf hv
    returned_keeps ans (F.First g r e) v hf hv sf = go_in r e (F.Second g v ∷ k) (push (F.Second g v) hv) hf
    returned_keeps ans (F.Second (pair T) u) v hf hv sf = pair_keeps T u v k hk hf hv
    returned_keeps ans (F.Second (calc o) (V.Number n)) (V.Number m) hf hv sf =
        at (limited (result o n m)) k hk (limited_fits nodes J (result o n m))
    returned_keeps ans (F.Second (calc o) (V.Number n)) (V.Lam T a e) hf hv sf =
        stays (F.Second (calc o) (V.Number n)) (V.Lam T a e) hf hv
    returned_keeps ans (F.Second (calc o) (V.Number n)) (V.Pair i) hf hv sf =
        stays (F.Second (calc o) (V.Number n)) (V.Pair i) hf hv
    returned_keeps ans (F.Second (calc o) (V.Lam T a e)) v hf hv sf = stays (F.Second (calc o) (V.Lam T a e)) v hf hv
    returned_keeps ans (F.Second (calc o) (V.Pair i)) v hf hv sf = stays (F.Second (calc o) (V.Pair i)) v hf hv
    returned_keeps ans (F.Ifz z m e) (V.Number zero) hf hv sf =
        go_in z e k hk (and_parts (place_fits N J z e) (ltb m N) hf).0
    returned_keeps ans (F.Ifz z m e) (V.Number (suc n)) hf hv sf =
        let hs = and_parts (place_fits N J z e) (ltb m N) hf in
        bind_keeps (D.Number n) e m k hk refl (place_env N J z e hs.0) tt (ltb-true m N hs.1)
    returned_keeps ans (F.Ifz z m e) (V.Lam T a x) hf hv sf = stays (F.Ifz z m e) (V.Lam T a x) hf hv
    returned_keeps ans (F.Ifz z m e) (V.Pair i) hf hv sf = stays (F.Ifz z m e) (V.Pair i) hf hv
    returned_keeps ans (F.Apply r e) (V.Number n) hf hv sf = stays (F.Apply r e) (V.Number n) hf hv
    returned_keeps ans (F.Apply r e) (V.Lam T a x) hf hv sf =
        bind_keeps (enter nodes cs r e) x a k hk (enter_fits nodes cs law r e hf) (place_env N J a x hv)
        (subst (Below 0) (sym (enter_stands laws ts nodes entry cs law r e sf)) sf) (place_row N J a x hv)
    returned_keeps ans (F.Apply r e) (V.Pair i) hf hv sf = stays (F.Apply r e) (V.Pair i) hf hv
    returned_keeps ans (F.Catch r e) v hf hv sf = at (M.Return v) k hk hv

    failed_keeps : (f : Frame) → frame_fits N J f ≡ true → Fitting ts nodes (failed nodes f k cs).2
    failed_keeps (F.Unary g) hf = at M.Fail k hk refl
    failed_keeps (F.First g r e) hf = at M.Fail k hk refl
    failed_keeps (F.Second g v) hf = at M.Fail k hk refl
    failed_keeps (F.Ifz z m e) hf = at M.Fail k hk refl
    failed_keeps (F.Apply r e) hf = at M.Fail k hk refl
    failed_keeps (F.Catch r e) hf = go_in r e k hk hf

  pub stepped_keeps : (ans : Meaning) (x : Mode) (k : List Frame) → mode_fits nodes J x ≡ true → stack_fits N J k ≡ true →
      Shut (mode_of ts ms (stack_of ts ms k) x) → Fitting ts nodes (stepped nodes ans x k cs).2
  stepped_keeps ans (M.Eval c) k hm hk s = begun_keeps k hk c hm s
  stepped_keeps ans (M.Return v) [] hm hk s = at (M.Return v) [] hk hm
  stepped_keeps ans (M.Return v) (f ∷ k) hm hk s =
      let hs = and_parts (frame_fits N J f) (stack_fits N J k) hk in
      returned_keeps k hs.1 ans f v hs.0 hm s.0
  stepped_keeps ans M.Fail [] hm hk s = at M.Fail [] hk hm
  stepped_keeps ans M.Fail (f ∷ k) hm hk s =
      let hs = and_parts (frame_fits N J f) (stack_fits N J k) hk in
      failed_keeps k hs.1 f hs.0
