-- What is proved of the environment machine.
use Rattle.std.specs.Prelude.{◌≡◌, ℕ, ◌+◌, ◌-◌, ◌<◌, ◌≤◌, true, false, ◌≢◌, ◌⊎◌, ◌↔◌, List, [], ◌∷◌, ◌++◌, length, Some, slice_index_or}
use Rattle.rows.specs.Meanings.{Meaning}
use Rattle.rows.specs.Meanings as Meanings
use Rattle.rows.specs.declared.tables.TermRow.{TermRow}
use Rattle.theory.specs.Syntax.{nat, Term}
use Rattle.theory.specs.Typing.{◌⊢◌∶◌}
use Rattle.theory.specs.Emit.{Tables}
use Rattle.theory.specs.Stands.{types_from, term_at, rule_of}
use Rattle.theory.specs.Laws as Tables
use Rattle.machine.specs.Substitution.{close, Below}
use Rattle.machine.specs.States.{◌▷◌}
use Rattle.machine.specs.Steps.{Step, Final}
use Rattle.machine.specs.StateTyping.{WellTyped}
use Rattle.runs.specs.Standings.{Limits, going, height, Standing as Standing', adds as adds', makes as makes'}
use Rattle.runs.specs.Standings.{status as status', opening as opening'}
use Rattle.runs.specs.Advances.{once as once', advanced as advanced'}
use Rattle.environments.specs.Nodes.{Node, Name, node_in, node_of, nodes_of}
use Rattle.environments.specs.NodeTerms.{node_term_at, term_of, node_is_fit, terms_of, nodes_lawful}
use Rattle.environments.specs.Closures as D
use Rattle.environments.specs.Values.{Value}
use Rattle.environments.specs.Modes as M
use Rattle.environments.specs.Cells.{Cell}
use Rattle.environments.specs.Frames.{Frame}
use Rattle.environments.specs.Folds.{lawful}
use Rattle.environments.specs.States.{State, Taken, cell_at, outward, find, enter, top_of, rest_of, step, start}
use Rattle.environments.specs.Stands.{meant_at, env_of, closed_of, cells_of, stands}
use Rattle.environments.specs.Fits.{is_name, place_fits, closed_fits, cell_fits, frame_fits, stack_fits, fits, Fitting}
use Rattle.environments.specs.Fits.{suits, value_is_small, frame_is_small}
use Rattle.environments.specs.Runs.{Standing, standing, adds, makes, status, opening, once, advanced}

-- ---- rows

-- The nodes of tables: lawful, one for each row, and each stands for the term that its row stands for.
pub record NodesOf (s : Tables) : Type 0 where
  pub lawful : nodes_lawful (nodes_of s) ≡ true
  pub count : length (nodes_of s) ≡ length s.1
  pub node : (p : ℕ) (d : TermRow) → p < length s.1
      → node_in (nodes_of s) p ≡ node_of (types_from [] s.0) (slice_index_or s.1 p d)
  pub terms : (p : ℕ) → node_term_at (terms_of (nodes_of s)) p ≡ term_at s p
  pub rule : node_term_at (terms_of (nodes_of s)) (length (nodes_of s) - 1) ≡ rule_of s

-- Lawful tables have such nodes.
abbrev pub NodesStand : Type 0
NodesStand = (s : Tables) → Tables.Lawful s → NodesOf s

-- The term at a place is that of its node, over the terms of all nodes.
abbrev pub TermsUnfold : Type 0
TermsUnfold =
    (nodes : List Node) → nodes_lawful nodes ≡ true → (p : ℕ)
    → node_term_at (terms_of nodes) p ≡ term_of (terms_of nodes) (node_in nodes p)

-- The parts of a node are places before it.
abbrev pub NodeFits : Type 0
NodeFits =
    (nodes : List Node) → nodes_lawful nodes ≡ true → (p : ℕ) → p < length nodes → node_is_fit p (node_in nodes p) ≡ true

-- ---- cells

-- Cells that are added do not change what earlier ones stand for.
abbrev pub CellsStay : Type 0
CellsStay =
    (ts : List Term) (cs more : List Cell) (i : ℕ) → i < length cs
    → meant_at (cells_of ts (cs ++ more)) i ≡ meant_at (cells_of ts cs) i

-- A cell that fits after the others leaves all of them fitting.
abbrev pub CellsPush : Type 0
CellsPush =
    (nodes : List Node) (cs : List Cell) (x : Cell) → lawful (cell_fits nodes) 0 cs ≡ true
    → cell_fits nodes (length cs) x ≡ true
    → lawful (cell_fits nodes) 0 (cs ++ (x ∷ [])) ≡ true

-- A cell fits after those before it.
abbrev pub CellAt : Type 0
CellAt =
    (nodes : List Node) (cs : List Cell) → lawful (cell_fits nodes) 0 cs ≡ true → (i : ℕ) → i < length cs
    → cell_fits nodes i (cell_at cs i) ≡ true

-- The environment outside a binding is an environment of the same cells.
abbrev pub OutwardLow : Type 0
OutwardLow =
    (nodes : List Node) (cs : List Cell) → lawful (cell_fits nodes) 0 cs ≡ true → (e : ℕ) → e ≤ length cs
    → outward cs e ≤ length cs

-- What a row entered gives is no name, and is there.
abbrev pub EnterFits : Type 0
EnterFits =
    (nodes : List Node) (cs : List Cell) → lawful (cell_fits nodes) 0 cs ≡ true → (r e : ℕ)
    → place_fits (length nodes) (length cs) r e ≡ true → closed_fits nodes (length cs) (enter nodes cs r e) ≡ true

-- It stands for the row's term with the environment's terms for its names, if that is closed: to look a name up is
-- no step.
abbrev pub EnterStands : Type 0
EnterStands =
    (nodes : List Node) → nodes_lawful nodes ≡ true → (cs : List Cell) → lawful (cell_fits nodes) 0 cs ≡ true → (r e : ℕ)
    → Below 0 (close 0 (env_of (cells_of (terms_of nodes) cs) e) (node_term_at (terms_of nodes) r))
    → closed_of (terms_of nodes) (cells_of (terms_of nodes) cs) (enter nodes cs r e)
    ≡ close 0 (env_of (cells_of (terms_of nodes) cs) e) (node_term_at (terms_of nodes) r)

-- A name that is bound to a number gives that number.
abbrev pub NumberFound : Type 0
NumberFound =
    (nodes : List Node) (cs : List Cell) (r e d n : ℕ) → node_in nodes r ≡ Name d → find cs e d ≡ D.Number n
    → enter nodes cs r e ≡ D.Number n

-- ---- states

-- A place fits exactly when its node and its environment are there.
abbrev pub PlaceThere : Type 0
PlaceThere = (n k r e : ℕ) → (place_fits n k r e ≡ true) ↔ ((r < n) × (e ≤ k))

-- A closure that fits and is no number is no name, and its place fits.
abbrev pub RowThere : Type 0
RowThere =
    (nodes : List Node) (k r e : ℕ) → closed_fits nodes k (D.Row r e) ≡ true
    → (is_name (node_in nodes r) ≡ false) × (place_fits (length nodes) k r e ≡ true)

-- A state fits exactly when its parts do.
pub record FitsApart : Type 0 where
  pub out : (ts : List Term) (nodes : List Node) (s : State) → fits ts nodes s ≡ true → Fitting ts nodes s
  pub back : (ts : List Term) (nodes : List Node) (s : State) → Fitting ts nodes s → fits ts nodes s ≡ true

-- Of a stack that fits, the top frame fits, if there is one, and so do the frames below it.
pub record TopFits : Type 0 where
  pub top : (n k : ℕ) (fs : List Frame) (f : Frame) → stack_fits n k fs ≡ true → top_of fs ≡ Some f
      → frame_fits n k f ≡ true
  pub rest : (n k : ℕ) (fs : List Frame) → stack_fits n k fs ≡ true → stack_fits n k (rest_of fs) ≡ true

-- The top frame takes the value that the state returns, and neither holds a number above top.
pub record Suited (s : State) : Type 0 where
  pub taken : (v : Value) (f : Frame) → s.mode ≡ M.Return v → top_of s.stack ≡ Some f → suits f v ≡ true
  pub value : (v : Value) → s.mode ≡ M.Return v → value_is_small v ≡ true
  pub frame : (f : Frame) → top_of s.stack ≡ Some f → frame_is_small f ≡ true

-- It is so in every state that stands for a well typed one, so no step is lost where a frame does not take a value.
abbrev pub TypedSuits : Type 0
TypedSuits = (ts : List Term) (s : State) → ∥ WellTyped (stands ts s) ∥₁ → Suited s

-- A step t from s makes one move at most, adds no more frames and makes no more cells than is foreseen, and the
-- cells that it makes are those that it counts.
pub record Grows (nodes : List Node) (s : State) (t : Taken) : Type 0 where
  pub moves : t.0 ≤ 1
  pub frames : length t.2.stack ≤ length s.stack + adds nodes s.mode
  pub cells : length t.2.cells ≡ length s.cells + t.1
  pub made : t.1 ≤ makes nodes s.mode s.stack

-- Every step grows so, also of a state that does not fit.
abbrev pub StepGrows : Type 0
StepGrows = (nodes : List Node) (M : Meaning) (s : State) → Grows nodes s (step nodes M s)

-- The step t of the state s is a step of what s stands for, and leads to a state of the same kind.
pub record Follows (M : Meaning) (nodes : List Node) (s : State) (t : Taken) : Type 0 where
  pub goes : Step M t.0 t.1 (stands (terms_of nodes) s) (stands (terms_of nodes) t.2)
  pub holds : fits (terms_of nodes) nodes t.2 ≡ true
  pub typed : WellTyped (stands (terms_of nodes) t.2)
  pub cells_count : length t.2.cells ≡ length s.cells + t.1

-- A state that fits and stands for a well typed one is at an end, or its step is the step of that.
abbrev pub Refines : Type 0
Refines =
    (nodes : List Node) → nodes_lawful nodes ≡ true → (M : Meaning) → Meanings.Lawful M → (s : State)
    → fits (terms_of nodes) nodes s ≡ true → WellTyped (stands (terms_of nodes) s)
    → Final (stands (terms_of nodes) s) ⊎ Follows M nodes s (step nodes M s)

-- The state in which a run begins stands for the rule, under no frame.
pub record Opened (nodes : List Node) : Type 0 where
  pub at_rule : stands (terms_of nodes) (start nodes) ≡ ([] ▷ node_term_at (terms_of nodes) (length nodes - 1))
  pub holds : fits (terms_of nodes) nodes (start nodes) ≡ true
  pub typed : WellTyped (stands (terms_of nodes) (start nodes))

-- A run of a typed rule begins so.
abbrev pub Opens : Type 0
Opens =
    (nodes : List Node) → nodes_lawful nodes ≡ true → 0 < length nodes
    → [] ⊢ node_term_at (terms_of nodes) (length nodes - 1) ∶ nat → Opened nodes

-- ---- runs

-- The frames are as many as those of what the state stands for.
abbrev pub FramesAgree : Type 0
FramesAgree = (ts : List Term) (s : State) → height (stands ts s) ≡ length s.stack

-- The next step of a state adds as many frames, and makes as many cells, as that of what the state stands for.
pub record Costs (nodes : List Node) (s : State) : Type 0 where
  pub frames : adds nodes s.mode ≡ adds' (stands (terms_of nodes) s)
  pub cells : makes nodes s.mode s.stack ≡ makes' (stands (terms_of nodes) s)

-- Every state that fits costs so.
abbrev pub CostsAgree : Type 0
CostsAgree =
    (nodes : List Node) → nodes_lawful nodes ≡ true → (s : State) → fits (terms_of nodes) nodes s ≡ true → Costs nodes s

-- A run has the status of the run for which it stands.
abbrev pub Judges : Type 0
Judges =
    (nodes : List Node) → nodes_lawful nodes ≡ true → (L : Limits) (r : Standing)
    → fits (terms_of nodes) nodes r.state ≡ true
    → status nodes L r ≡ status' L (standing (terms_of nodes) r)

-- The limits allow the next step of the run at r.
pub record Allows (nodes : List Node) (L : Limits) (r : Standing) : Type 0 where
  pub fuel : r.steps < L.fuel
  pub frames : length r.state.stack + adds nodes r.state.mode ≤ L.frames
  pub cells : length r.state.cells + makes nodes r.state.mode r.state.stack ≤ L.cells

-- They do while the run is going.
abbrev pub GoingAllows : Type 0
GoingAllows = (nodes : List Node) (L : Limits) (r : Standing) → status nodes L r ≡ going → Allows nodes L r

-- A run that is not going stays where it is.
abbrev pub HaltedStays : Type 0
HaltedStays =
    (nodes : List Node) (M : Meaning) (L : Limits) (n : ℕ) (r : Standing) → status nodes L r ≢ going
    → advanced nodes M L n r ≡ r

-- Two advances with one counter are one.
abbrev pub AdvancesJoin : Type 0
AdvancesJoin =
    (nodes : List Node) (M : Meaning) (L : Limits) (a b : ℕ) (r : Standing)
    → advanced nodes M L (a + b) r ≡ advanced nodes M L b (advanced nodes M L a r)

-- The run at r stands for the run at p, its state fits and is well typed.
pub record StandsFor (nodes : List Node) (r : Standing) (p : Standing') : Type 0 where
  pub agrees : standing (terms_of nodes) r ≡ p
  pub holds : fits (terms_of nodes) nodes r.state ≡ true
  pub typed : WellTyped (stands (terms_of nodes) r.state)

-- A run just opened at a typed rule stands for the run just opened at it.
abbrev pub RunsOpen : Type 0
RunsOpen =
    (nodes : List Node) → nodes_lawful nodes ≡ true → 0 < length nodes
    → [] ⊢ node_term_at (terms_of nodes) (length nodes - 1) ∶ nat
    → StandsFor nodes (opening nodes) (opening' (node_term_at (terms_of nodes) (length nodes - 1)))

-- One step under limits stands for one step under the same limits.
abbrev pub OnceAgrees : Type 0
OnceAgrees =
    (nodes : List Node) → nodes_lawful nodes ≡ true → (M : Meaning) → Meanings.Lawful M → (L : Limits) (r : Standing)
    → fits (terms_of nodes) nodes r.state ≡ true → WellTyped (stands (terms_of nodes) r.state)
    → StandsFor nodes (once nodes M L r) (once' M L (standing (terms_of nodes) r))

-- A run advanced stands for the run advanced.
abbrev pub RunsAgree : Type 0
RunsAgree =
    (nodes : List Node) → nodes_lawful nodes ≡ true → (M : Meaning) → Meanings.Lawful M
    → (L : Limits) (n : ℕ) (r : Standing)
    → fits (terms_of nodes) nodes r.state ≡ true → WellTyped (stands (terms_of nodes) r.state)
    → StandsFor nodes (advanced nodes M L n r) (advanced' M L n (standing (terms_of nodes) r))

-- A run of lawful tables whose rule is typed, just opened, stands for the run just opened at the rule.
abbrev pub SheetsOpen : Type 0
SheetsOpen =
    (s : Tables) → Tables.Lawful s → [] ⊢ rule_of s ∶ nat
    → StandsFor (nodes_of s) (opening (nodes_of s)) (opening' (rule_of s))

-- However far it is advanced, it stands for the run at the rule advanced so far.
abbrev pub SheetsRun : Type 0
SheetsRun =
    (s : Tables) → Tables.Lawful s → [] ⊢ rule_of s ∶ nat → (M : Meaning) → Meanings.Lawful M → (L : Limits) (n : ℕ)
    → StandsFor (nodes_of s) (advanced (nodes_of s) M L n (opening (nodes_of s)))
    (advanced' M L n (opening' (rule_of s)))

-- ---- the same of what a struct can keep, where every part is a proposition: of the typing, that there is one

-- The run at r stands for the run at p, its state fits and has a typing.
pub record KeptFor (nodes : List Node) (r : Standing) (p : Standing') : Type 0 where
  pub agrees : standing (terms_of nodes) r ≡ p
  pub holds : fits (terms_of nodes) nodes r.state ≡ true
  pub typed : ∥ WellTyped (stands (terms_of nodes) r.state) ∥₁

-- A run just opened, of a rule that has a typing.
abbrev pub OpensKept : Type 0
OpensKept =
    (nodes : List Node) → nodes_lawful nodes ≡ true → 0 < length nodes
    → ∥ [] ⊢ node_term_at (terms_of nodes) (length nodes - 1) ∶ nat ∥₁
    → KeptFor nodes (opening nodes) (opening' (node_term_at (terms_of nodes) (length nodes - 1)))

-- One step under limits.
abbrev pub OnceKept : Type 0
OnceKept =
    (nodes : List Node) → nodes_lawful nodes ≡ true → (M : Meaning) → Meanings.Lawful M → (L : Limits) (r : Standing)
    → fits (terms_of nodes) nodes r.state ≡ true → ∥ WellTyped (stands (terms_of nodes) r.state) ∥₁
    → KeptFor nodes (once nodes M L r) (once' M L (standing (terms_of nodes) r))

-- A run advanced.
abbrev pub RunsKept : Type 0
RunsKept =
    (nodes : List Node) → nodes_lawful nodes ≡ true → (M : Meaning) → Meanings.Lawful M
    → (L : Limits) (n : ℕ) (r : Standing)
    → fits (terms_of nodes) nodes r.state ≡ true → ∥ WellTyped (stands (terms_of nodes) r.state) ∥₁
    → KeptFor nodes (advanced nodes M L n r) (advanced' M L n (standing (terms_of nodes) r))

-- All of them.
pub record Laws : Type 0 where
  pub nodes_stand : NodesStand
  pub terms_unfold : TermsUnfold
  pub node_fits : NodeFits
  pub cells_stay : CellsStay
  pub cells_push : CellsPush
  pub cell_at_place : CellAt
  pub outward_low : OutwardLow
  pub enter_fits : EnterFits
  pub enter_stands : EnterStands
  pub number_found : NumberFound
  pub place_there : PlaceThere
  pub row_there : RowThere
  pub fits_apart : FitsApart
  pub top_fits : TopFits
  pub typed_suits : TypedSuits
  pub step_grows : StepGrows
  pub refines : Refines
  pub opens : Opens
  pub frames_agree : FramesAgree
  pub costs_agree : CostsAgree
  pub judges : Judges
  pub going_allows : GoingAllows
  pub halted_stays : HaltedStays
  pub advances_join : AdvancesJoin
  pub runs_open : RunsOpen
  pub once_agrees : OnceAgrees
  pub runs_agree : RunsAgree
  pub sheets_open : SheetsOpen
  pub sheets_run : SheetsRun
  pub opens_kept : OpensKept
  pub once_kept : OnceKept
  pub runs_kept : RunsKept
