use Rattle.environments.proofs.Computed.{computed}
use Rattle.environments.proofs.cases.Goals as goal

pub returns : goal.returns
returns c = computed
