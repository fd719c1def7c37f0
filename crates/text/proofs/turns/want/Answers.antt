use Rattle.std.proofs.Common.{arith}
use Rattle.text.proofs.Tops.{wanted_none, wanted_some}
use Rattle.text.proofs.turns.want.Goals as goal

pub returns : goal.returns
returns c = grind (arith, wanted_none, wanted_some)
