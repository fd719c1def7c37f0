use Rattle.std.proofs.Common.{length}
use Rattle.text.proofs.Loops.{Sofar}
use Rattle.text.proofs.opens.Reader.run.Given as goal

abbrev pub invariant-loop-token : goal.invariant-loop-token
invariant-loop-token l = Sofar l.text l.rest l.row l.initial.self l.self

abbrev pub decreases-loop-token : goal.decreases-loop-token
decreases-loop-token l = length l.rest
