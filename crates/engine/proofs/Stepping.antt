-- The step that the machine makes is that of the environment machine.
use Rattle.std.proofs.Common.{◌≡◌, ℕ, zero, suc, ◌+◌, ◌-◌, ◌≤◌, Bool, true, false, cond, ltb, List, [], ◌∷◌, ◌++◌, map, length, Some, None, Option, sym, refl, ap, ◌∙◌, subst, arith, ne_eqb}
use Rattle.std.proofs.lemmas.Bool.{ltb-true, ltb-false}
use Rattle.std.proofs.lemmas.List.{length-map}
use Rattle.rows.specs.declared.tables.TermRow.{TermRow}
use Rattle.rows.specs.declared.forms.Form.TheVariants as R
use Rattle.rows.specs.declared.forms.Head.{Head}
use Rattle.rows.specs.declared.forms.Head.TheVariants as H
use Rattle.rows.specs.Forms.{head_at}
use Rattle.rows.specs.Meanings.{Meaning}
use Rattle.theory.specs.Emit.{Tables}
use Rattle.checker.specs.Sheets.{tables}
use Rattle.machine.specs.Steps.{result}
use Rattle.environments.specs.Nodes.{Node, node_in, nodes_of}
use Rattle.environments.specs.Closures.{Closed}
use Rattle.environments.specs.Closures as D
use Rattle.environments.specs.Values as EV
use Rattle.environments.specs.Cells as EC
use Rattle.environments.specs.Modes as EM
use Rattle.environments.specs.States.{State, Taken, enter, step, binding}
use Rattle.environments.specs.States as E
use Rattle.environments.specs.Runs.{opens, unrolls}
use Rattle.engine.specs.declared.state.Op.TheVariants as O
use Rattle.engine.specs.declared.state.Value.{Value}
use Rattle.engine.specs.declared.state.Value.TheVariants as V
use Rattle.engine.specs.declared.state.Frame.{Frame}
use Rattle.engine.specs.declared.state.Frame.TheVariants as F
use Rattle.engine.specs.declared.state.Cell.{Cell}
use Rattle.engine.specs.declared.state.Cell.TheVariants as C
use Rattle.engine.specs.declared.state.Mode.{Mode}
use Rattle.engine.specs.declared.state.Mode.TheVariants as W
use Rattle.engine.specs.declared.state.Next.{Next}
use Rattle.engine.specs.declared.state.Next.TheVariants as N
use Rattle.engine.specs.declared.control.Machine.{Machine}
use Rattle.engine.specs.declared.control.Program.{Program}
use Rattle.engine.specs.View.{op_of, view_frame, view_cell, mode_of, row_at, type_in}
use Rattle.engine.specs.Contents.{Contents}
use Rattle.engine.specs.Values.{bound_to}
use Rattle.engine.specs.Stores.{top_of, rest_of, top_second, entered, popped, allocated}
use Rattle.engine.specs.Acts.{Choice, stands_at, gave, resumed, opened, made, bound, paired, second, evaluated_by, evaluated, branched, returned, chosen}
use Rattle.engine.specs.Choices.{state_at, state_of, suits, Open, step_of, adds_of, makes_of, Went, Blocked, at_number, at_failure, too_tall, too_full, Ready}
use Rattle.engine.proofs.Standing.{limited_stands, answer_stands, left_half, right_half, bound_stands, one_more, node_by, node_at, entered_stands, enter_stands}

clash : {P : Type 0} → ◌≡◌ {A = ℕ} 0 1 → P
clash e = absurd (omega arith)

-- what a choice comes to: the step, or none
abbrev pub Comes : Program → Meaning → Machine → Contents → Option Next → Type 0
Comes p t m k (Some (N.At x)) = Went p t m (record { store = k; mode = x; moves = m.moves })
Comes p t m k (Some (N.Move x)) = Went p t m (record { store = k; mode = x; moves = m.moves + 1 })
Comes p t m k None = (k ≡ m.store) × Blocked p m

-- of the program p over the counter t, with these cells and so many moves
module _ (p : Program) (t : Meaning) (cs : List Cell) (mv : ℕ) (few : length cs ≤ p.limits.cells) where
  abbrev s : Tables
  s = tables p.sheet

  abbrev seen : List EC.Cell
  seen = map (view_cell s) cs

  abbrev with : List Frame → Contents
  with fs = record { frames = fs; cells = cs }

  abbrev at : Mode → List Frame → Machine
  at v fs = record { store = with fs; mode = v; moves = mv }

  -- where a row is entered
  abbrev to : List Cell → ℕ → ℕ → EM.Mode
  to ds r e = EM.Eval (enter (nodes_of s) (map (view_cell s) ds) r e)

  -- ---- the acts, of a machine that stands at v with the frames fs

  module _ (v : Mode) (fs : List Frame) (low : length fs ≤ p.limits.frames) where
    abbrev Done : Choice → Type 0
    Done c = Comes p t (at v fs) c.0 c.1

    -- the state is no end, and its step adds so many frames and makes so many cells
    abbrev Costs : ℕ → ℕ → Type 0
    Costs a c = Open (state_of s (at v fs)) × (adds_of p (at v fs) ≡ a) × (makes_of p (at v fs) ≡ c)

    went : (k z : ℕ) (y : EM.Mode) (gs : List Frame) (ds : List Cell) (x : Mode) (mv' : ℕ) → step_of p t (at v fs) ≡ (k, z, state_at s y gs ds) → mode_of s x ≡ y → mv' ≡ mv + k
        → Open (state_of s (at v fs)) → length fs + adds_of p (at v fs) ≤ p.limits.frames → length cs + makes_of p (at v fs) ≤ p.limits.cells
        → Went p t (at v fs) (record { store = record { frames = gs; cells = ds }; mode = x; moves = mv' })
    went k z y gs ds x mv' is stands moved noend a c =
        record {
          leads = ap (λ (w : EM.Mode). state_at s w gs ds) stands ∙ sym (ap (λ (w : Taken). w.2) is);
          moved = moved ∙ sym (ap (λ (w : Taken). mv + w.0) is);
          no_end = noend;
          for_frames = a;
          for_cells = c;
        }

    -- it stands somewhere, with nothing done to the store
    stays : (x : Mode) (y : EM.Mode) → step_of p t (at v fs) ≡ (0, 0, state_at s y fs cs) → mode_of s x ≡ y → Costs 0 0 → Done (with fs, Some (N.At x))
    stays x y is stands (noend, a, c) = went 0 0 y fs cs x mv is stands (omega arith) noend (omega (arith, a, low)) (omega (arith, c, few))

    -- the top frame is done with
    gives : (x : Mode) (y : EM.Mode) → step_of p t (at v fs) ≡ (1, 0, state_at s y (rest_of fs) cs) → mode_of s x ≡ y → Costs 0 0 → Done (gave x (with fs))
    gives x y is stands (noend, a, c) = went 1 0 y (rest_of fs) cs x (mv + 1) is stands refl noend (omega (arith, a, low)) (omega (arith, c, few))

    resumes : (r e : ℕ) → step_of p t (at v fs) ≡ (1, 0, state_at s (to cs r e) (rest_of fs) cs) → Costs 0 0 → Done (resumed p r e (with fs))
    resumes r e is = gives (stands_at p cs r e) (to cs r e) is (enter_stands s cs r e)

    -- the second part of the top frame's form is entered
    seconds : (u : Value) (r e : ℕ) → step_of p t (at v fs) ≡ (0, 0, state_at s (to cs r e) (top_second fs u) cs) → Costs 0 0 → Done (second p u r e (with fs))
    seconds u r e is (noend, a, c) = went 0 0 (to cs r e) (top_second fs u) cs (stands_at p cs r e) mv is (enter_stands s cs r e) (omega arith) noend (omega (arith, a, low)) (omega (arith, c, few))

    -- a form is opened, if there is room for a frame
    opening : (g : Frame) (r e : ℕ) → step_of p t (at v fs) ≡ (0, 0, state_at s (to cs r e) (g ∷ fs) cs) → Costs 1 0 → Done (opened p g r e (with fs))
    opening g r e is (noend, a, c) = by (ltb (length fs) p.limits.frames) refl
      where
        by : (b : Bool) → ltb (length fs) p.limits.frames ≡ b → Done (cond b (with (g ∷ fs), Some (N.At (stands_at p cs r e))) (with fs, None))
        by true h = went 0 0 (to cs r e) (g ∷ fs) cs (stands_at p cs r e) mv is (enter_stands s cs r e) (omega arith) noend (omega (arith, a, ltb-true (length fs) p.limits.frames h)) (omega (arith, c, few))
        by false h = (refl, too_tall (omega (arith, a, ltb-false (length fs) p.limits.frames h)))

    -- a cell is made, if there is room for it
    making : (x : Cell) (next : Next) (besides : Contents → Contents) → Costs 0 1 → (length cs + makes_of p (at v fs) ≤ p.limits.cells → Done (besides (allocated x (with fs)), Some next)) → Done (made p x next besides (with fs))
    making x next besides (noend, a, c) done = by (ltb (length cs) p.limits.cells) refl
      where
        by : (b : Bool) → ltb (length cs) p.limits.cells ≡ b → Done (cond b (besides (allocated x (with fs)), Some next) (with fs, None))
        by true h = done (omega (arith, c, ltb-true (length cs) p.limits.cells h))
        by false h = (refl, too_full (omega (arith, c, ltb-false (length cs) p.limits.cells h)))

    -- a name is bound to the closure d, outside of which is the environment e
    binds : (besides : Contents → Contents) (x : Cell) (d : Closed) (e r : ℕ) → view_cell s x ≡ EC.Bound d e → (besides (allocated x (with fs))).cells ≡ cs ++ (x ∷ [])
        → step_of p t (at v fs) ≡ binding (nodes_of s) seen d e r (map (view_frame s) (besides (allocated x (with fs))).frames) → Costs 0 1 → Done (bound besides p x r (with fs))
    binds besides x d e r h kept is (noend, a, c) =
        let ds = cs ++ (x ∷ []) in
        let k = besides (allocated x (with fs)) in
        let l : seen ++ (EC.Bound d e ∷ []) ≡ map (view_cell s) ds = ap (λ (z : EC.Cell). seen ++ (z ∷ [])) (sym h) ∙ one_more s cs x in
        let n : suc (length seen) ≡ length cs + 1 = omega (arith, length-map cs (view_cell s)) in
        making x (N.Move (stands_at p ds r (length cs + 1))) besides (noend, a, c)
        (λ room. went 1 1 (to ds r (length cs + 1)) k.frames k.cells (stands_at p ds r (length cs + 1)) (mv + 1)
        (is ∙ (λ i. (1, 1, record { mode = EM.Eval (enter (nodes_of s) (l i) r (n i)); stack = map (view_frame s) k.frames; cells = l i })) ∙ (λ i. (1, 1, state_at s (to ds r (length cs + 1)) k.frames (sym kept i))))
        (enter_stands s ds r (length cs + 1)) refl noend (omega (arith, a, low)) room)

    -- a pair is finished
    pairs : (q : ℕ) (u w : Value) → step_of p t (at v fs) ≡ (0, 1, record { mode = EM.Return (EV.Pair (length seen)); stack = map (view_frame s) (rest_of fs); cells = seen ++ (view_cell s (C.Pair q u w) ∷ []) })
        → Costs 0 1 → Done (paired p q u w (with fs))
    pairs q u w is (noend, a, c) =
        let x = C.Pair q u w in
        let l = one_more s cs x in
        let n = length-map cs (view_cell s) in
        making x (N.At (W.Return (V.Pair (length cs)))) popped (noend, a, c)
        (λ room. went 0 1 (EM.Return (EV.Pair (length cs))) (rest_of fs) (cs ++ (x ∷ [])) (W.Return (V.Pair (length cs))) mv
        (is ∙ (λ i. (0, 1, record { mode = EM.Return (EV.Pair (n i)); stack = map (view_frame s) (rest_of fs); cells = l i }))) refl (omega arith) noend (omega (arith, a, low)) room)

  -- ---- a row

  module _ (r e : ℕ) (fs : List Frame) (low : length fs ≤ p.limits.frames) where
    abbrev row : TermRow
    row = row_at s r

    abbrev m : Machine
    m = at (W.Eval r e) fs

    -- by the node at the row
    module _ (nd : Node) (is : node_in (nodes_of s) r ≡ nd) where
      steps : step_of p t m ≡ E.evaluated (nodes_of s) (map (view_frame s) fs) seen r e nd
      steps = ap (E.evaluated (nodes_of s) (map (view_frame s) fs) seen r e) is

      costs : Costs (W.Eval r e) fs low (opens nd) (unrolls nd)
      costs = (λ u. refl, ap opens is, ap unrolls is)

      waits : (g : Frame) → E.evaluated (nodes_of s) (map (view_frame s) fs) seen r e nd ≡ (0, 0, state_at s (to cs row.a e) (g ∷ fs) cs) → opens nd ≡ 1 → unrolls nd ≡ 0
          → Done (W.Eval r e) fs low (opened p g row.a e (with fs))
      waits g shape a c = opening (W.Eval r e) fs low g row.a e (steps ∙ shape) (λ u. refl, ap opens is ∙ a, ap unrolls is ∙ c)

      rests : (x : Mode) → E.evaluated (nodes_of s) (map (view_frame s) fs) seen r e nd ≡ (0, 0, state_at s (mode_of s x) fs cs) → opens nd ≡ 0 → unrolls nd ≡ 0
          → Done (W.Eval r e) fs low (with fs, Some (N.At x))
      rests x shape a c = stays (W.Eval r e) fs low x (mode_of s x) (steps ∙ shape) refl (λ u. refl, ap opens is ∙ a, ap unrolls is ∙ c)

    evaluates : Done (W.Eval r e) fs low (evaluated p r e (with fs))
    evaluates = by (head_at row.kind) (node_at s r)
      where
        by : (h : Head) → node_in (nodes_of s) r ≡ node_by h (type_in s r) row → Done (W.Eval r e) fs low (evaluated_by h p row r e (with fs))
        by H.Number is = rests _ is (W.Return (V.Number row.number)) refl refl refl
        by H.Name is = rests _ is (W.Eval r e) refl refl refl
        by (H.Form R.Succ) is = waits _ is F.Succ refl refl refl
        by (H.Form R.Fst) is = waits _ is F.Fst refl refl refl
        by (H.Form R.Snd) is = waits _ is F.Snd refl refl refl
        by (H.Form R.Get) is = waits _ is F.Get refl refl refl
        by (H.Form R.Ifz) is = waits _ is (F.Ifz r e) refl refl refl
        by (H.Form R.Ap) is = waits _ is (F.Apply row.b e) refl refl refl
        by (H.Form R.Catch) is = waits _ is (F.Catch row.b e) refl refl refl
        by (H.Form R.Pair) is = waits _ is (F.PairFirst r e) refl refl refl
        by (H.Form R.Add) is = waits _ is (F.CalcFirst O.Add row.b e) refl refl refl
        by (H.Form R.Sub) is = waits _ is (F.CalcFirst O.Sub row.b e) refl refl refl
        by (H.Form R.Mul) is = waits _ is (F.CalcFirst O.Mul row.b e) refl refl refl
        by (H.Form R.Lam) is = rests _ is (W.Return (V.Lam r e)) refl refl refl
        by (H.Form R.Fail) is = rests _ is W.Fail refl refl refl
        by (H.Form R.Fix) is = binds (W.Eval r e) fs low (λ k. k) (C.Bound r e e) (D.Row r e) e row.a refl refl (steps _ is) (costs _ is)

  -- ---- a value at a frame

  module _ (k : List Frame) where
    branches : (n r e : ℕ) (low : length (F.Ifz r e ∷ k) ≤ p.limits.frames) → Done (W.Return (V.Number n)) (F.Ifz r e ∷ k) low (branched p n r e (with (F.Ifz r e ∷ k)))
    branches zero r e low = resumes _ _ low (row_at s r).b e refl (λ u. refl, refl, refl)
    branches (suc n) r e low =
        let v = W.Return (V.Number (suc n)) in
        let fs = F.Ifz r e ∷ k in
        let below : n ≡ suc n - 1 = omega arith in
        subst (λ (b : Bool). Done v fs low (cond b (resumed p (row_at s r).b e (with fs)) (bound popped p (C.Number (suc n - 1) e) (row_at s r).c (with fs)))) (sym (ne_eqb (suc n) 0 (λ (h : suc n ≡ 0). omega arith)))
        (subst (λ (j : ℕ). Done v fs low (bound popped p (C.Number j e) (row_at s r).c (with fs))) below
        (binds v fs low popped (C.Number n e) (D.Number n) e (row_at s r).c refl refl refl (λ u. refl, refl, refl)))

    number_at : (n : ℕ) (g : Frame) (low : length (g ∷ k) ≤ p.limits.frames) → suits (W.Return (V.Number n)) (Some g) ≡ true → Done (W.Return (V.Number n)) (g ∷ k) low (returned p t (V.Number n) g (with (g ∷ k)))
    number_at n F.Succ low h = gives _ _ low _ _ refl (limited_stands s (n + 1)) (λ u. refl, refl, refl)
    number_at n F.Get low h = gives _ _ low _ _ refl (answer_stands s (t n)) (λ u. refl, refl, refl)
    number_at n (F.Ifz r e) low h = branches n r e low
    number_at n (F.Apply r e) low h = clash (cc)
    number_at n (F.Catch r e) low h = gives _ _ low _ _ refl refl (λ u. refl, refl, refl)
    number_at n (F.PairFirst q e) low h = seconds _ _ low (V.Number n) _ e refl (λ u. refl, refl, refl)
    number_at n (F.PairSecond q u) low h = pairs (W.Return (V.Number n)) (F.PairSecond q u ∷ k) low q u (V.Number n) refl (λ u. refl, refl, refl)
    number_at n (F.CalcFirst o r e) low h = seconds _ _ low (V.Number n) r e refl (λ u. refl, refl, refl)
    number_at n (F.CalcSecond o j) low h = gives _ _ low _ _ refl (limited_stands s (result (op_of o) j n)) (λ u. refl, refl, refl)
    number_at n _ low h = stays _ _ low _ _ refl refl (λ u. refl, refl, refl)

    lam_at : (lam x : ℕ) (g : Frame) (low : length (g ∷ k) ≤ p.limits.frames) → suits (W.Return (V.Lam lam x)) (Some g) ≡ true → Done (W.Return (V.Lam lam x)) (g ∷ k) low (returned p t (V.Lam lam x) g (with (g ∷ k)))
    lam_at lam x (F.Apply r e) low h =
        binds (W.Return (V.Lam lam x)) (F.Apply r e ∷ k) low popped (bound_to (entered s.1 cs r e) x) (enter (nodes_of s) seen r e) x (row_at s lam).a (bound_stands s (entered s.1 cs r e) x ∙ ap (λ (d : Closed). EC.Bound d x) (entered_stands s cs r e)) refl refl (λ u. refl, refl, refl)
    lam_at lam x (F.Catch r e) low h = gives _ _ low _ _ refl refl (λ u. refl, refl, refl)
    lam_at lam x (F.PairFirst q e) low h = seconds _ _ low (V.Lam lam x) _ e refl (λ u. refl, refl, refl)
    lam_at lam x (F.PairSecond q u) low h = pairs (W.Return (V.Lam lam x)) (F.PairSecond q u ∷ k) low q u (V.Lam lam x) refl (λ u. refl, refl, refl)
    lam_at lam x (F.CalcFirst o r e) low h = clash (cc)
    lam_at lam x _ low h = stays _ _ low _ _ refl refl (λ u. refl, refl, refl)

    pair_at : (i : ℕ) (g : Frame) (low : length (g ∷ k) ≤ p.limits.frames) → suits (W.Return (V.Pair i)) (Some g) ≡ true → Done (W.Return (V.Pair i)) (g ∷ k) low (returned p t (V.Pair i) g (with (g ∷ k)))
    pair_at i F.Fst low h = gives _ _ low _ _ refl (left_half s cs i) (λ u. refl, refl, refl)
    pair_at i F.Snd low h = gives _ _ low _ _ refl (right_half s cs i) (λ u. refl, refl, refl)
    pair_at i (F.Catch r e) low h = gives _ _ low _ _ refl refl (λ u. refl, refl, refl)
    pair_at i (F.PairFirst q e) low h = seconds _ _ low (V.Pair i) _ e refl (λ u. refl, refl, refl)
    pair_at i (F.PairSecond q u) low h = pairs (W.Return (V.Pair i)) (F.PairSecond q u ∷ k) low q u (V.Pair i) refl (λ u. refl, refl, refl)
    pair_at i (F.Apply r e) low h = clash (cc)
    pair_at i (F.CalcFirst o r e) low h = clash (cc)
    pair_at i _ low h = stays _ _ low _ _ refl refl (λ u. refl, refl, refl)

    -- a failure drops every frame but a catch
    fail_at : (g : Frame) (low : length (g ∷ k) ≤ p.limits.frames) → Done W.Fail (g ∷ k) low (chosen p t W.Fail (with (g ∷ k)))
    fail_at (F.Catch r e) low = resumes _ _ low r e refl (λ u. refl, refl, refl)
    fail_at _ low = gives _ _ low _ _ refl refl (λ u. refl, refl, refl)

  pub chooses : (v : Mode) (fs : List Frame) (low : length fs ≤ p.limits.frames) → suits v (top_of fs) ≡ true → Done v fs low (chosen p t v (with fs))
  chooses (W.Eval r e) fs low h = evaluates r e fs low
  chooses (W.Numeral n) fs low h = stays _ _ low _ _ refl refl (λ u. refl, refl, refl)
  chooses (W.Return (V.Number n)) [] low h = (refl, at_number n refl refl)
  chooses (W.Return (V.Number n)) (g ∷ k) low h = number_at k n g low h
  chooses (W.Return (V.Lam r e)) [] low h = stays _ _ low _ _ refl refl (λ u. refl, refl, refl)
  chooses (W.Return (V.Lam r e)) (g ∷ k) low h = lam_at k r e g low h
  chooses (W.Return (V.Pair i)) [] low h = stays _ _ low _ _ refl refl (λ u. refl, refl, refl)
  chooses (W.Return (V.Pair i)) (g ∷ k) low h = pair_at k i g low h
  chooses W.Fail [] low h = (refl, at_failure refl refl)
  chooses W.Fail (g ∷ k) low h = fail_at k g low

-- what is left to do of a step, where m has become m' and the step leads to o
abbrev pub Settles : Program → Meaning → Machine → Machine → Option Next → Type 0
Settles p t m m' (Some (N.At x)) = Went p t m (record { store = m'.store; mode = x; moves = m'.moves })
Settles p t m m' (Some (N.Move x)) = Went p t m (record { store = m'.store; mode = x; moves = m'.moves + 1 })
Settles p t m m' None = (m' ≡ m) × Blocked p m

-- of a machine within its limits, whose top frame takes what is returned
module _ (p : Program) (t : Meaning) (m m' : Machine) (ready : Ready p.limits m) (suited : suits m.mode (top_of m.store.frames) ≡ true)
    (stays : m' ≡ record { store = m'.store; mode = m.mode; moves = m.moves }) where
  came : (o : Option Next) → (m'.store, o) ≡ chosen p t m.mode m.store → Comes p t m m'.store o
  came o does = subst (λ (c : Choice). Comes p t m c.0 c.1) (sym does) (chooses p t m.store.cells m.moves ready.full m.mode m.store.frames ready.tall suited)

  pub settles : (o : Option Next) → (m'.store, o) ≡ chosen p t m.mode m.store → Settles p t m m' o
  settles (Some (N.At x)) does = subst (λ (n : ℕ). Went p t m (record { store = m'.store; mode = x; moves = n })) (sym (ap (λ (y : Machine). y.moves) stays)) (came (Some (N.At x)) does)
  settles (Some (N.Move x)) does = subst (λ (n : ℕ). Went p t m (record { store = m'.store; mode = x; moves = n + 1 })) (sym (ap (λ (y : Machine). y.moves) stays)) (came (Some (N.Move x)) does)
  settles None does = let (same, why) = came None does in (stays ∙ ap (λ (k : Contents). record { store = k; mode = m.mode; moves = m.moves }) same, why)
