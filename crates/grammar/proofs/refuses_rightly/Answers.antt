use Rattle.grammar.proofs.Refusals.{refuses_rightly}
use Rattle.grammar.proofs.refuses_rightly.Goals as goal

pub returns : goal.returns
returns c = refuses_rightly
