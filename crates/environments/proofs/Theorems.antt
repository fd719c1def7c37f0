-- The laws of the environment machine.
use Rattle.std.proofs.Common.{◌≡◌, ℕ, zero, suc, ◌+◌, ◌≤◌, Bool, true, false, not, ltb, leb, List, [], ◌∷◌, length, Some, sym, refl, ap, ◌∙◌, subst, arith, lt-ltb, le-leb, leb-true}
use Rattle.std.proofs.lemmas.Bool.{and_parts, and_from}
use Rattle.machine.specs.Laws as Machine
use Rattle.environments.specs.Nodes.{Node, node_in}
use Rattle.environments.specs.Cells.{Cell}
use Rattle.environments.specs.Cells as C
use Rattle.environments.specs.Frames.{Frame}
use Rattle.environments.specs.NodeTerms.{terms_of}
use Rattle.environments.specs.States.{cell_at, blank_cell, next_of_cell, resolved, enter, top_of, rest_of}
use Rattle.environments.specs.Fits.{is_name, place_fits, closed_fits, cell_fits, frame_fits, stack_fits}
use Rattle.environments.specs.Laws.{Laws, CellAt, OutwardLow, PlaceThere, RowThere, NumberFound, TopFits}
use Rattle.environments.proofs.Folds.{lawful_at}
use Rattle.environments.proofs.NodeTerms.{term_entry, node_fits}
use Rattle.environments.proofs.Names.{enter_fits, enter_stands}
use Rattle.environments.proofs.Cells.{law_push, place_row, place_env}
use Rattle.environments.proofs.Keeping.{keeps_out, keeps_in}
use Rattle.environments.proofs.Steps.{clash}
use Rattle.environments.proofs.Growing.{step_grows}
use Rattle.environments.proofs.Advancing.{going_allows, halted_stays, advances_join}
use Rattle.environments.proofs.Suiting.{typed_suits}
use Rattle.environments.proofs.Rows.{nodes_stand}
use Rattle.environments.proofs.Refining.{cells_stay, refines, opens}
use Rattle.environments.proofs.Judging.{frames_agree, costs_agree, judges}
use Rattle.environments.proofs.Running.{runs_open, once_agrees, runs_agree, sheets_open, sheets_run}
use Rattle.environments.proofs.Kept.{opens_kept, once_kept, runs_kept}

cell_at_place : CellAt
cell_at_place nodes cs h i l =
    let e : 0 + i ≡ i = omega arith in
    subst (λ (k : ℕ). cell_fits nodes k (cell_at cs i) ≡ true) e (lawful_at (cell_fits nodes) 0 cs i blank_cell h l)

-- What lies outside a cell is before it.
next_low : (nodes : List Node) (k : ℕ) (c : Cell) → cell_fits nodes k c ≡ true → next_of_cell c ≤ k
next_low nodes k (C.Bound c x) h = leb-true x k (and_parts (closed_fits nodes k c) (leb x k) h).1
next_low nodes k (C.Pair T v w) h = omega arith

outward_low : OutwardLow
outward_low nodes cs h zero l = omega arith
outward_low nodes cs h (suc i) l =
    let low = next_low nodes i (cell_at cs i) (cell_at_place nodes cs h i (omega arith)) in
    omega arith

place_there : PlaceThere
place_there n k r e = (
  (λ h. (place_row n k r e h, place_env n k r e h)),
  (λ h. and_from (ltb r n) (leb e k) (lt-ltb r n h.0) (le-leb e k h.1)),
)

no_name : (b : Bool) → not b ≡ true → b ≡ false
no_name true h = clash (cc)
no_name false h = refl

row_there : RowThere
row_there nodes k r e h =
    let hs = and_parts (not (is_name (node_in nodes r))) (place_fits (length nodes) k r e) h in
    (no_name (is_name (node_in nodes r)) hs.0, hs.1)

number_found : NumberFound
unfolding enter
number_found nodes cs r e d n q f = ap (resolved cs r e) q ∙ f

top_fits : TopFits
top_fits = record { top = top; rest = rest }
  where
    top : (n k : ℕ) (fs : List Frame) (f : Frame) → stack_fits n k fs ≡ true → top_of fs ≡ Some f → frame_fits n k f ≡ true
    top n k [] f h q = clash (cc)
    top n k (g ∷ fs) f h q =
        let z : g ≡ f = cc in
        ap (frame_fits n k) (sym z) ∙ (and_parts (frame_fits n k g) (stack_fits n k fs) h).0

    rest : (n k : ℕ) (fs : List Frame) → stack_fits n k fs ≡ true → stack_fits n k (rest_of fs) ≡ true
    rest n k [] h = refl
    rest n k (g ∷ fs) h = (and_parts (frame_fits n k g) (stack_fits n k fs) h).1

pub laws : Machine.Laws → Laws
laws m = record {
  nodes_stand = nodes_stand;
  terms_unfold = λ nodes h p. term_entry nodes p h;
  node_fits = λ nodes h p l. node_fits nodes p h l;
  cells_stay = cells_stay;
  cells_push = law_push;
  cell_at_place = cell_at_place;
  outward_low = outward_low;
  enter_fits = enter_fits;
  enter_stands =
      λ nodes h cs law r e b. enter_stands m (terms_of nodes) nodes (λ i. term_entry nodes i h) cs law r e b;
  number_found = number_found;
  place_there = place_there;
  row_there = row_there;
  fits_apart = record { out = keeps_out; back = keeps_in };
  top_fits = top_fits;
  typed_suits = typed_suits;
  step_grows = step_grows;
  refines = refines m;
  opens = opens m;
  frames_agree = frames_agree;
  costs_agree = costs_agree;
  judges = judges;
  going_allows = going_allows;
  halted_stays = halted_stays;
  advances_join = advances_join;
  runs_open = runs_open m;
  once_agrees = once_agrees m;
  runs_agree = runs_agree m;
  sheets_open = sheets_open m;
  sheets_run = sheets_run m;
  opens_kept = opens_kept m;
  once_kept = once_kept m;
  runs_kept = runs_kept m;
}
