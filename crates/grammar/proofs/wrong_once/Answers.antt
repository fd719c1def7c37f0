use Rattle.grammar.proofs.Once.{wrong_once}
use Rattle.grammar.proofs.wrong_once.Goals as goal

pub returns : goal.returns
returns c = wrong_once
