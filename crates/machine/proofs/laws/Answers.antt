use Rattle.machine.proofs.Theorems.{laws}
use Rattle.machine.proofs.laws.Goals as goal

pub returns : goal.returns
returns c = laws
