use Rattle.formatter.proofs.Again.{tidy_stays}
use Rattle.formatter.proofs.tidy_stays.Goals as goal

pub returns : goal.returns
returns c = tidy_stays c.reads_exactly.ensures c.rows_unfold.ensures c.tight_reads.ensures
