use Rattle.grammar.proofs.Theorems.{reads_once}
use Rattle.grammar.proofs.reads_once.Goals as goal

pub returns : goal.returns
returns c = reads_once c.rows_stand.ensures
