use Rattle.text.proofs.Trips.{tight_reads}
use Rattle.text.proofs.theorems.tight_reads.Goals as goal

pub returns : goal.returns
returns c = tight_reads c.reads_exactly.ensures c.reads_once.ensures c.tight_renders.ensures
