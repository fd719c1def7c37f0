use Rattle.theory.proofs.Unfolding.{rows_unfold}
use Rattle.theory.proofs.Sizes.{as_many}
use Rattle.theory.proofs.TypeCount.{no_more}
use Rattle.theory.proofs.rows_counted.Goals as goal

pub returns : goal.returns
returns c = λ s l. record { terms = as_many s l (rows_unfold s l); types = no_more s l (rows_unfold s l) }
