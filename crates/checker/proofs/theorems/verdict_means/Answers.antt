use Rattle.checker.proofs.Meaning.{verdict_means}
use Rattle.checker.proofs.theorems.verdict_means.Goals as goal

pub returns : goal.returns
returns c = verdict_means
