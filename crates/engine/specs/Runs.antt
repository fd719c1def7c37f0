-- What a run stands for, and what a step of it comes to.
use Rattle.std.specs.Prelude.{◌≡◌, ℕ, ◌+◌, Bool, true, false, ◌≢◌}
use Rattle.rows.specs.Meanings.{Meaning}
use Rattle.theory.specs.Syntax.{Term}
use Rattle.theory.specs.Emit.{Tables}
use Rattle.theory.specs.Stands.{rule_of}
use Rattle.checker.specs.Sheets.{tables}
use Rattle.machine.specs.Steps.{Step}
use Rattle.runs.specs.Standings as Standings
use Rattle.runs.specs.Standings.{status, going}
use Rattle.runs.specs.Calls.{Running}
use Rattle.environments.specs.Nodes.{nodes_of}
use Rattle.environments.specs.NodeTerms.{terms_of}
use Rattle.environments.specs.Runs.{Standing, standing}
use Rattle.engine.specs.declared.limits.Limits.{Limits}
use Rattle.engine.specs.declared.control.Machine.{Machine}
use Rattle.engine.specs.declared.run.Run.{Run}
use Rattle.engine.specs.Choices.{state_of}

-- the limits
abbrev pub limits_of : Limits → Standings.Limits
limits_of l = record { fuel = l.fuel; frames = l.frames; cells = l.cells }

-- where a machine stands after so many steps, as a standing of the environment machine
abbrev pub standing_of : Tables → Machine → ℕ → Standing
standing_of s m n = record { steps = n; moves = m.moves; state = state_of s m }

-- the rule that is run
abbrev pub rule_in : Run → Term
rule_in r = rule_of (tables r.sheet)

-- the run of the control-stack machine that a run stands for: every binding is put in for its name
unfoldable pub view : Run → Running
view r = record {
  limits = limits_of r.limits;
  standing = standing (terms_of (nodes_of (tables r.sheet))) (standing_of (tables r.sheet) r.machine r.steps);
}

-- one step of the control-stack machine leads from o to o', and its moves and cells are counted
pub record Moved (M : Meaning) (o o' : Running) : Type 0 where
  pub was_going : status o.limits o.standing ≡ going
  pub moves : ℕ
  pub cells : ℕ
  pub step : Step M moves cells o.standing.state o'.standing.state
  pub steps_count : o'.standing.steps ≡ o.standing.steps + 1
  pub moves_count : o'.standing.moves ≡ o.standing.moves + moves
  pub cells_count : o'.standing.cells ≡ o.standing.cells + cells
  pub limits_stay : o'.limits ≡ o.limits

-- no step is made where the run has halted
pub record Rested (o o' : Running) : Type 0 where
  pub halted : status o.limits o.standing ≢ going
  pub stays : o' ≡ o

-- what a step comes to, by whether one was made
abbrev pub Advanced : Meaning → Running → Running → Bool → Type 0
Advanced M o o' true = Moved M o o'
Advanced M o o' false = Rested o o'
