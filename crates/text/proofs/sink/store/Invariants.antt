use Rattle.std.proofs.Common.{take}
use Rattle.text.specs.Sinks.{Wrote}
use Rattle.text.proofs.sink.store.Given as goal

-- the bytes so far are there
abbrev pub invariant-loop-b : goal.invariant-loop-b
invariant-loop-b l = Wrote l.initial.buffer l.buffer l.from l.at (take l.b-index l.bytes)
