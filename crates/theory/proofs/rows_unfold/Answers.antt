use Rattle.theory.proofs.Unfolding.{rows_unfold}
use Rattle.theory.proofs.rows_unfold.Goals as goal

pub returns : goal.returns
returns c = rows_unfold
