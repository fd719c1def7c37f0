use Rattle.environments.proofs.Theorems.{laws}
use Rattle.environments.proofs.laws.Goals as goal

pub returns : goal.returns
returns c = laws c.laws.ensures
