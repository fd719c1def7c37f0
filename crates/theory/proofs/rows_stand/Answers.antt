use Rattle.theory.proofs.Theorems.{rows_stand}
use Rattle.theory.proofs.rows_stand.Goals as goal

pub returns : goal.returns
returns c = rows_stand
