-- What a step keeps of a run, and what it comes to in the run that it stands for.
use Rattle.std.proofs.Common.{◌≡◌, ℕ, ◌+◌, ◌-◌, ◌<◌, ◌≤◌, false, ◌≢◌, cond, List, [], map, length, Some, None, Option, sym, refl, ap, ◌∙◌, subst, arith, le-ltb}
use Rattle.std.proofs.lemmas.Bool.{lt-leb}
use Rattle.std.proofs.lemmas.List.{length-map}
use Rattle.rows.specs.declared.tables.TermRow.{TermRow}
use Rattle.rows.specs.Meanings.{Meaning}
use Rattle.rows.specs.Meanings as Meanings
use Rattle.theory.specs.Syntax.{nat, Term}
use Rattle.theory.specs.Typing.{◌⊢◌∶◌}
use Rattle.theory.specs.Emit.{Tables}
use Rattle.theory.specs.Stands.{rule_of}
use Rattle.theory.specs.Laws as Tables
use Rattle.checker.specs.Sheets.{tables}
use Rattle.machine.specs.Next as Next
use Rattle.machine.specs.Laws as Machine
use Rattle.runs.specs.Standings as R
use Rattle.runs.specs.Standings.{Status, number, failed, spent, tall, full, going}
use Rattle.runs.specs.Advances as A
use Rattle.runs.specs.Calls.{Running, now_at}
use Rattle.environments.specs.Nodes.{nodes_of}
use Rattle.environments.specs.NodeTerms.{terms_of}
use Rattle.environments.specs.Modes as EM
use Rattle.environments.specs.States.{State, step, enter}
use Rattle.environments.specs.Runs.{Standing, standing, status, held, ended_or, opening, onto, if-going, once}
use Rattle.environments.specs.Laws.{Laws, KeptFor}
use Rattle.engine.specs.declared.control.Machine.{Machine as Engine}
use Rattle.engine.specs.declared.control.Program.{Program}
use Rattle.engine.specs.declared.run.Run.{Run}
use Rattle.engine.specs.View.{view_frame, view_cell, mode_of}
use Rattle.engine.specs.Stores.{frames_in, cells_in}
use Rattle.engine.specs.Acts.{begun}
use Rattle.engine.specs.Choices.{state_of, adds_of, makes_of, Went, Blocked, Stepped, at_number, at_failure, too_tall, too_full}
use Rattle.engine.specs.Runs.{limits_of, standing_of, Moved, Rested}
use Rattle.engine.proofs.Standing.{enter_stands}

clash : {P : Type 0} → ◌≡◌ {A = ℕ} 0 1 → P
clash e = absurd (omega arith)

-- ---- a run just opened

module _ (laws : Laws) (s : Tables) (law : Tables.Lawful s) where
  -- the machine stands where the environment machine starts
  begun_stands : standing_of s (begun s.1 (length s.1 - 1)) 0 ≡ opening (nodes_of s)
  begun_stands =
      let n = ap (λ (x : ℕ). x - 1) (sym (laws.nodes_stand s law).count) in
      let x = enter_stands s [] (length s.1 - 1) 0 ∙ ap (λ (p : ℕ). EM.Eval (enter (nodes_of s) [] p 0)) n in
      λ i. record { steps = 0; moves = 0; state = record { mode = x i; stack = []; cells = [] } }

  pub open_kept : [] ⊢ rule_of s ∶ nat → (rows : List TermRow) → rows ≡ s.1 → (m : Engine) → m ≡ begun rows (length rows - 1) → KeptFor (nodes_of s) (standing_of s m 0) (R.opening (rule_of s))
  open_kept typed rows is m at =
      let n = laws.nodes_stand s law in
      let some : 0 < length (nodes_of s) = omega (arith, n.count, law.term_count.0) in
      let k = laws.opens_kept (nodes_of s) n.lawful some ∣ subst (λ (e : Term). [] ⊢ e ∶ nat) (sym n.rule) typed ∣₁ in
      let to = ap (λ (x : Engine). standing_of s x 0) (at ∙ ap (λ (l : List TermRow). begun l (length l - 1)) is) ∙ begun_stands in
      subst (λ (x : Standing). KeptFor (nodes_of s) x (R.opening (rule_of s))) (sym to)
      (subst (λ (e : Term). KeptFor (nodes_of s) (opening (nodes_of s)) (R.opening e)) n.rule k)

-- ---- a step

-- what is known at a step of the run r over the counter t
pub record Known (r : Run) (t : Meaning) : Type 0 where
  pub laws : Laws
  pub machine_laws : Machine.Laws
  pub law : Tables.Lawful (tables r.sheet)
  pub lawful : Meanings.Lawful t

abbrev pub program_of : Run → Program
program_of r = record { sheet = r.sheet; limits = r.limits }

module _ {r : Run} {t : Meaning} (k : Known r t) where
  abbrev p : Program
  p = program_of r

  abbrev m : Engine
  m = r.machine

  abbrev n : ℕ
  n = r.steps

  abbrev s : Tables
  s = tables r.sheet

  abbrev L : R.Limits
  L = limits_of r.limits

  -- the run that a machine after i steps stands for
  abbrev run : Engine → ℕ → Running
  run x i = record { limits = L; standing = standing (terms_of (nodes_of s)) (standing_of s x i) }

  -- where it is, once more
  abbrev further : Running
  further = now_at (run m n) (A.once t L (run m n).standing)

  abbrev Going : Type 0
  Going = status (nodes_of s) L (standing_of s m n) ≡ going

  judged : status (nodes_of s) L (standing_of s m n) ≡ R.status L (run m n).standing
  judged = k.laws.judges (nodes_of s) (k.laws.nodes_stand s k.law).lawful L (standing_of s m n) r.fitting

  once_kept : KeptFor (nodes_of s) (once (nodes_of s) t L (standing_of s m n)) (A.once t L (run m n).standing)
  once_kept = k.laws.once_kept (nodes_of s) (k.laws.nodes_stand s k.law).lawful t k.lawful L (standing_of s m n) r.fitting r.typing

  -- ---- a step was made

  module _ (m' : Engine) (w : Went p t m m') (lasts : n < p.limits.fuel) where
    goes : Going
    goes =
        let a = lt-leb p.limits.fuel n lasts in
        let b = le-ltb p.limits.frames (length (map (view_frame s) (frames_in m.store)) + adds_of p m) (omega (arith, w.for_frames, length-map (frames_in m.store) (view_frame s))) in
        let c = le-ltb p.limits.cells (length (map (view_cell s) (cells_in m.store)) + makes_of p m) (omega (arith, w.for_cells, length-map (cells_in m.store) (view_cell s))) in
        w.no_end (held (nodes_of s) L (standing_of s m n)) ∙ (λ i. cond (a i) spent (cond (b i) tall (cond (c i) full going)))

    pub made_kept : KeptFor (nodes_of s) (standing_of s m' (n + 1)) (A.once t L (run m n).standing)
    made_kept =
        let to : onto (standing_of s m n) (step (nodes_of s) t (state_of s m)) ≡ standing_of s m' (n + 1) = λ i. record { steps = n + 1; moves = sym w.moved i; state = sym w.leads i } in
        let on = ap (λ (u : Status). if-going u (standing_of s m n) (onto (standing_of s m n) (step (nodes_of s) t (state_of s m)))) goes in
        subst (λ (x : Standing). KeptFor (nodes_of s) x (A.once t L (run m n).standing)) (on ∙ to) once_kept

    pub made_once : run m' (n + 1) ≡ further
    made_once = λ i. record { limits = L; standing = made_kept.agrees i }

    -- a standing whose steps grew is that of a step
    taken : (o : Option Next.Taken) → Next.next t (run m n).standing.state ≡ o → (run m' (n + 1)).standing ≡ A.stepped (run m n).standing o → Moved t (run m n) (run m' (n + 1))
    taken (Some u) is e =
        record {
          was_going = sym judged ∙ goes;
          moves = u.0;
          cells = u.1;
          step = (k.machine_laws.step_computed t u.0 u.1 (run m n).standing.state (run m' (n + 1)).standing.state).1 (is ∙ sym (ap (λ (x : R.Standing). Some (u.0, u.1, x.state)) e));
          steps_count = refl;
          moves_count = ap (λ (x : R.Standing). x.moves) e;
          cells_count = ap (λ (x : R.Standing). x.cells) e;
          limits_stay = refl;
        }
    taken None is e = let z = ap (λ (x : R.Standing). x.steps) e in absurd (omega (arith, z))

    pub made_moves : Moved t (run m n) (run m' (n + 1))
    made_moves =
        let S = (run m n).standing in
        taken (Next.next t S.state) refl (made_kept.agrees ∙ ap (λ (u : Status). A.if-going u S (A.stepped S (Next.next t S.state))) (sym judged ∙ goes))

    -- the frames and the cells are within the limits, and one move at most was made
    pub made_fits : (length (frames_in m'.store) ≤ p.limits.frames) × (length (cells_in m'.store) ≤ p.limits.cells) × (m'.moves ≤ m.moves + 1)
    made_fits =
        let grows = k.laws.step_grows (nodes_of s) t (state_of s m) in
        let a = ap (λ (q : State). length q.stack) w.leads in
        let b = ap (λ (q : State). length q.cells) w.leads in
        let f = length-map (frames_in m.store) (view_frame s) in
        let c = length-map (cells_in m.store) (view_cell s) in (
          omega (arith, a, f, grows.frames, w.for_frames, length-map (frames_in m'.store) (view_frame s)),
          omega (arith, b, c, grows.cells, grows.made, w.for_cells, length-map (cells_in m'.store) (view_cell s)),
          omega (arith, w.moved, grows.moves),
        )

  -- ---- no step

  -- at an end, or where a limit does not allow one
  pub blocked : Blocked p m → Going → ⊥
  blocked (at_number j a b) h = let e = sym (λ i. ended_or (mode_of s (a i)) (map (view_frame s) (b i)) (held (nodes_of s) L (standing_of s m n))) ∙ h in clash (cc)
  blocked (at_failure a b) h = let e = sym (λ i. ended_or (mode_of s (a i)) (map (view_frame s) (b i)) (held (nodes_of s) L (standing_of s m n))) ∙ h in clash (cc)
  blocked (too_tall b) h = let a = (k.laws.going_allows (nodes_of s) L (standing_of s m n) h).frames in absurd (omega (arith, a, b, length-map (frames_in m.store) (view_frame s)))
  blocked (too_full b) h = let a = (k.laws.going_allows (nodes_of s) L (standing_of s m n) h).cells in absurd (omega (arith, a, b, length-map (cells_in m.store) (view_cell s)))

  -- where the fuel is spent
  pub unfueled : n ≡ p.limits.fuel → Going → ⊥
  unfueled e h = let a = (k.laws.going_allows (nodes_of s) L (standing_of s m n) h).fuel in absurd (omega (arith, a, e))

  module _ (halts : Going → ⊥) where
    halted : (u : Status) (x q : Standing) → u ≢ going → if-going u x q ≡ x
    halted going x q h = absurd (h refl)
    halted _ x q h = refl

    pub still : run m n ≡ further
    still =
        let x = standing_of s m n in
        let e = ap (standing (terms_of (nodes_of s))) (sym (halted (status (nodes_of s) L x) x (onto x (step (nodes_of s) t x.state)) halts)) ∙ once_kept.agrees in
        λ i. record { limits = L; standing = e i }

    pub rested : Rested (run m n) (run m n)
    rested = record { halted = λ e. halts (judged ∙ e); stays = refl }

  -- where none was made
  pub stopped : (m' : Engine) → Stepped p t m m' false → (run m' n ≡ further) × Rested (run m n) (run m' n)
  stopped m' (same, why) =
      let halts = blocked why in
      subst (λ (x : Engine). (run x n ≡ further) × Rested (run m n) (run x n)) (sym same) (still halts, rested halts)
