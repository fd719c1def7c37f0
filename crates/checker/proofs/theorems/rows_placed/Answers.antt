use Rattle.checker.proofs.Once.{rows_placed}
use Rattle.checker.proofs.theorems.rows_placed.Goals as goal

pub returns : goal.returns
returns c = rows_placed
