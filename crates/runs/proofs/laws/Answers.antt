use Rattle.runs.proofs.Theorems.{all_laws}
use Rattle.runs.proofs.laws.Goals as goal

pub returns : goal.returns
returns c = all_laws c.laws.ensures
