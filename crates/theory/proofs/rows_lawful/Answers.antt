use Rattle.theory.proofs.Theorems.{rows_lawful}
use Rattle.theory.proofs.rows_lawful.Goals as goal

pub returns : goal.returns
returns c = rows_lawful
