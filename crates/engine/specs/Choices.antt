-- What a step of the machine comes to: the step of the environment machine, or none where the limits do not allow it.
use Rattle.std.specs.Prelude.{◌≡◌, ℕ, ◌+◌, ◌<◌, ◌≤◌, Bool, true, false, List, [], map, length, Some, Option}
use Rattle.rows.specs.Meanings.{Meaning}
use Rattle.theory.specs.Emit.{Tables}
use Rattle.checker.specs.Sheets.{tables}
use Rattle.runs.specs.Standings.{Status}
use Rattle.environments.specs.Nodes.{nodes_of}
use Rattle.environments.specs.Modes as EM
use Rattle.environments.specs.States.{State, Taken, step}
use Rattle.environments.specs.Runs.{adds, makes, ended_or}
use Rattle.engine.specs.declared.state.Value.TheVariants as V
use Rattle.engine.specs.declared.state.Frame.{Frame}
use Rattle.engine.specs.declared.state.Frame.TheVariants as F
use Rattle.engine.specs.declared.state.Cell.{Cell}
use Rattle.engine.specs.declared.state.Mode.{Mode}
use Rattle.engine.specs.declared.state.Mode.TheVariants as M
use Rattle.engine.specs.declared.limits.Limits.{Limits}
use Rattle.engine.specs.declared.control.Machine.{Machine}
use Rattle.engine.specs.declared.control.Program.{Program}
use Rattle.engine.specs.View.{view_frame, view_cell, mode_of}
use Rattle.engine.specs.Stores.{frames_in, cells_in}

-- the state of the environment machine, of a mode with frames and cells
abbrev pub state_at : Tables → EM.Mode → List Frame → List Cell → State
state_at s x fs cs = record { mode = x; stack = map (view_frame s) fs; cells = map (view_cell s) cs }

-- the state that a machine is in
abbrev pub state_of : Tables → Machine → State
state_of s m = state_at s (mode_of s m.mode) (frames_in m.store) (cells_in m.store)

-- what may be returned to an operation's first part, and to an application; in well typed states nothing else is
abbrev pub for_calc : Mode → Bool
for_calc (M.Return (V.Lam r e)) = false
for_calc (M.Return (V.Pair i)) = false
for_calc _ = true

abbrev pub for_apply : Mode → Bool
for_apply (M.Return (V.Number n)) = false
for_apply (M.Return (V.Pair i)) = false
for_apply _ = true

abbrev pub suits : Mode → Option Frame → Bool
suits m (Some (F.Apply r e)) = for_apply m
suits m (Some (F.CalcFirst o r e)) = for_calc m
suits m _ = true

-- the row at which the machine stands has a place that a frame or a value can hold
abbrev pub Small : Mode → Type 0
Small (M.Eval r e) = r < 65536
Small _ = Unit {0}

-- the state is no end
abbrev pub Open : State → Type 0
Open p = (t : Status) → ended_or p.mode p.stack t ≡ t

-- the step of the environment machine over the counter t, from where the machine m stands
abbrev pub step_of : Program → Meaning → Machine → Taken
step_of p t m = step (nodes_of (tables p.sheet)) t (state_of (tables p.sheet) m)

-- the frames and the cells that it adds
abbrev pub adds_of : Program → Machine → ℕ
adds_of p m = adds (nodes_of (tables p.sheet)) (state_of (tables p.sheet) m).mode

abbrev pub makes_of : Program → Machine → ℕ
makes_of p m = makes (nodes_of (tables p.sheet)) (state_of (tables p.sheet) m).mode (state_of (tables p.sheet) m).stack

-- that step was made, where the limits allow it, and led to m'
pub record Went (p : Program) (t : Meaning) (m m' : Machine) : Type 0 where
  pub leads : state_of (tables p.sheet) m' ≡ (step_of p t m).2
  pub moved : m'.moves ≡ m.moves + (step_of p t m).0
  pub no_end : Open (state_of (tables p.sheet) m)
  pub for_frames : length (frames_in m.store) + adds_of p m ≤ p.limits.frames
  pub for_cells : length (cells_in m.store) + makes_of p m ≤ p.limits.cells

-- why no step is made
pub data Blocked (p : Program) (m : Machine) : Type 0 where
  at_number : (n : ℕ) → m.mode ≡ M.Return (V.Number n) → frames_in m.store ≡ [] → Blocked p m
  at_failure : m.mode ≡ M.Fail → frames_in m.store ≡ [] → Blocked p m
  too_tall : p.limits.frames < length (frames_in m.store) + adds_of p m → Blocked p m
  too_full : p.limits.cells < length (cells_in m.store) + makes_of p m → Blocked p m

-- a machine within the limits that it is to keep, with room for a move more
pub record Ready (limits : Limits) (m : Machine) : Type 0 where
  pub tall : length (frames_in m.store) ≤ limits.frames
  pub full : length (cells_in m.store) ≤ limits.cells
  pub more : m.moves < 4294967295

-- a step was made, as the answer says, or none
abbrev pub Stepped : Program → Meaning → Machine → Machine → Bool → Type 0
Stepped p t m m' true = Went p t m m'
Stepped p t m m' false = (m' ≡ m) × Blocked p m
