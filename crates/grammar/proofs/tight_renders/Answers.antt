use Rattle.grammar.proofs.Tightly.{tight_renders}
use Rattle.grammar.proofs.tight_renders.Goals as goal

pub returns : goal.returns
returns c = tight_renders
