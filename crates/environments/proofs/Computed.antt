-- The cases, each by computing.
use Rattle.std.proofs.Common.{refl}
use Rattle.environments.specs.Folds.{grown, lawful}
use Rattle.environments.specs.Nodes.{node_of}
use Rattle.environments.specs.States.{find, enter}
use Rattle.environments.specs.Runs.{advanced}
use Rattle.environments.specs.Cases.{Cases}

pub computed : Cases
unfolding grown lawful node_of find enter advanced
computed = record {
  rolls_held = (refl, refl);
  dozen = refl;
  no_line = refl;
  line_of_0 = refl;
  doubled_held = (refl, refl);
  name_of_name = refl;
  counted_held = (refl, refl);
  number_bound = refl;
  half_held = (refl, refl);
  half_taken = refl;
  caught_held = (refl, refl);
  caught_twice = refl;
  endless_held = (refl, refl);
  few_cells = refl;
  no_frames = refl;
  no_fuel = refl;
}
