use Rattle.grammar.proofs.Theorems.{reads_exactly}
use Rattle.grammar.proofs.reads_exactly.Goals as goal

pub returns : goal.returns
returns c = reads_exactly c.rows_stand.ensures c.rows_lawful.ensures
