-- The machine with environments refines the machine of the theory.
use Rattle.std.proofs.Common.{◌≡◌, ℕ, ◌+◌, ◌-◌, ◌<◌, true, ltb, leb, ◌⊎◌, List, [], ◌∷◌, ◌++◌, length, sym, refl, ◌∙◌, subst, inl, inr, arith, lt-ltb}
use Rattle.std.proofs.lemmas.Bool.{and_from}
use Rattle.rows.specs.Meanings.{Meaning, Lawful}
use Rattle.theory.specs.Syntax.{Ty, nat, Term}
use Rattle.theory.specs.Typing.{◌⊢◌∶◌}
use Rattle.machine.specs.Substitution.{close, Below}
use Rattle.machine.specs.Values.{term}
use Rattle.machine.specs.States.{Frame, State, ◌▷◌}
use Rattle.machine.specs.Steps.{Step, Final}
use Rattle.machine.specs.StateTyping.{Takes, one_takes, first_takes, second_takes, ifz_takes, app_takes, catch_takes}
use Rattle.machine.specs.StateTyping.{none_expects, frame_expects, WellTyped, well_▷, well_◁, well_◂}
use Rattle.machine.specs.Next.{Taken, next}
use Rattle.machine.specs.Laws.{Laws}
use Rattle.environments.specs.Nodes.{Node, node_in}
use Rattle.environments.specs.Cells.{Cell}
use Rattle.environments.specs.Folds.{grown, lawful}
use Rattle.environments.specs.NodeTerms.{node_term_at, term_of, terms_of, nodes_lawful}
use Rattle.environments.specs.States.{State as State', enter, step, start}
use Rattle.environments.specs.Stands.{meant_at, blank_meant, cell_of, cells_of, stands, stands_taken, closed_of}
use Rattle.environments.specs.Fits.{fits, place_fits, cell_fits, Fitting}
use Rattle.environments.specs.Laws.{Follows, Opened}
use Rattle.environments.proofs.Folds.{built_stays}
use Rattle.environments.proofs.NodeTerms.{term_entry, node_fits}
use Rattle.environments.proofs.Names.{enter_stands, enter_fits}
use Rattle.environments.proofs.Steps.{Shut, ShutFrame, Agrees, stepped_agrees}
use Rattle.environments.proofs.Keeping.{keeps_out, keeps_in, stepped_keeps}
use Rattle.environments.proofs.Growing.{step_grows}

-- ---- a well typed state is closed

takes_shut : Laws → {f : Frame} {σ τ : Ty} → Takes f σ τ → ShutFrame f
takes_shut laws (one_takes g) = tt
takes_shut laws (first_takes {B = B} {τ = τ} g b) = laws.typed_below [] B τ b
takes_shut laws (second_takes g v) = tt
takes_shut laws (ifz_takes {B = B} {C = C} {τ = τ} b c) =
    (laws.typed_below [] B τ b, laws.typed_below (nat ∷ []) C τ c)
takes_shut laws (app_takes {B = B} {σ = σ} b) = laws.typed_below [] B σ b
takes_shut laws (catch_takes {B = B} {τ = τ} b) = laws.typed_below [] B τ b

pub typed_shut : Laws → {p : State} → WellTyped p → Shut p
typed_shut laws (well_▷ {e = e} {τ = τ} x a) = laws.typed_below [] e τ a
typed_shut laws (well_◁ none_expects a) = tt
typed_shut laws (well_◁ {v = v} {τ = τ} (frame_expects t x) a) = (takes_shut laws t, laws.typed_below [] (term v) τ a)
typed_shut laws (well_◂ none_expects) = tt
typed_shut laws (well_◂ (frame_expects t x)) = takes_shut laws t

-- ---- the theorem

-- Some step leads on from p.
abbrev Goes : Meaning → State → Type 0
Goes M p = (m : ℕ) × (c : ℕ) × (q : State) × Step M m c p q

module _ (laws : Laws) (nodes : List Node) (table : nodes_lawful nodes ≡ true) where
  -- the terms of the nodes
  abbrev ts : List Term
  ts = terms_of nodes

  entries : (i : ℕ) → node_term_at ts i ≡ term_of ts (node_in nodes i)
  entries i = term_entry nodes i table

  pub step_agrees : (ans : Meaning) (s : State') → Fitting ts nodes s → Shut (stands ts s) →
      Agrees (next ans (stands ts s)) (stands_taken ts (step nodes ans s))
  step_agrees ans s h c =
      stepped_agrees laws ts nodes entries s.cells h.cells h.shut ans s.mode s.stack h.mode
      h.stack c

  pub step_stays : (ans : Meaning) (s : State') → Fitting ts nodes s → Shut (stands ts s)
      → Fitting ts nodes (step nodes ans s).2
  step_stays ans s h c =
      stepped_keeps laws ts nodes entries (λ i l. node_fits nodes i table l) s.cells h.cells h.shut ans
      s.mode s.stack h.mode h.stack c

  pub step_counts : (ans : Meaning) (s : State')
      → length (step nodes ans s).2.cells ≡ length s.cells + (step nodes ans s).1
  step_counts ans s = (step_grows nodes ans s).cells

  pub follows : (ans : Meaning) → Lawful ans → (s : State') → fits ts nodes s ≡ true → WellTyped (stands ts s)
      → Goes ans (stands ts s) →
      Follows ans nodes s (step nodes ans s)
  follows ans ok s h w (n, c, q, one) =
      let ks = keeps_out ts nodes s h in
      let sh = typed_shut laws w in
      let e : ◌≡◌ {A = Taken} (n, c, q) (stands_taken ts (step nodes ans s)) =
      step_agrees ans s ks sh (n, c, q) ((laws.step_computed ans n c (stands ts s) q).0 one) in
      let goes = subst (λ (t : Taken). Step ans t.0 t.1 (stands ts s) t.2) e one in
      record {
        goes = goes;
        holds = keeps_in ts nodes (step nodes ans s).2 (step_stays ans s ks sh);
        typed =
            laws.stays_typed ans ok (step nodes ans s).0 (step nodes ans s).1 (stands ts s)
            (stands ts (step nodes ans s).2) goes w;
        cells_count = step_counts ans s;
      }

  pub refines : (ans : Meaning) → Lawful ans → (s : State') → fits ts nodes s ≡ true → WellTyped (stands ts s) →
      Final (stands ts s) ⊎ Follows ans nodes s (step nodes ans s)
  refines ans ok s h w = go (laws.ends_or_goes ans (stands ts s) w)
    where
      go : Final (stands ts s) ⊎ Goes ans (stands ts s) → Final (stands ts s) ⊎ Follows ans nodes s (step nodes ans s)
      go (inl f) = inl f
      go (inr g) = inr (follows ans ok s h w g)

  -- The beginning.
  pub opens : 0 < length nodes → [] ⊢ node_term_at ts (length nodes - 1) ∶ nat → Opened nodes
  unfolding lawful grown
  opens l a =
      let last = length nodes - 1 in
      let shut : Below 0 (node_term_at ts last) = laws.typed_below [] (node_term_at ts last) nat a in
      let stay : close 0 [] (node_term_at ts last) ≡ node_term_at ts last = laws.closed_stays [] (node_term_at ts last) shut in
      let sure : lawful (cell_fits nodes) 0 [] ≡ true = refl in
      let e : closed_of ts (cells_of ts []) (enter nodes [] last 0) ≡ node_term_at ts last =
      enter_stands laws ts nodes entries [] sure last 0 (subst (Below 0) (sym stay) shut) ∙ stay in
      let place : place_fits (length nodes) 0 last 0 ≡ true =
      and_from (ltb last (length nodes)) (leb 0 0) (lt-ltb last (length nodes) (omega arith)) refl in
      let fitting : Fitting ts nodes (start nodes) =
      record { cells = refl; stack = refl; mode = enter_fits nodes [] sure last 0 place; shut = refl } in
      record {
        at_rule = λ i. [] ▷ e i;
        typed = subst WellTyped (λ i. [] ▷ sym e i) (well_▷ none_expects a);
        holds = keeps_in ts nodes (start nodes) fitting;
      }

-- Cells that are added do not change what earlier ones stand for.
pub cells_stay : (ts : List Term) (cs more : List Cell) (i : ℕ) → i < length cs
    → meant_at (cells_of ts (cs ++ more)) i ≡ meant_at (cells_of ts cs) i
cells_stay ts cs more i h = built_stays (cell_of ts) blank_meant cs more i h
