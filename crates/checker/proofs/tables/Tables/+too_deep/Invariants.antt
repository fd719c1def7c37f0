use Rattle.std.proofs.Common.{◌≡◌, ◌+◌}
use Rattle.checker.specs.Depths.{deep_at}
use Rattle.checker.proofs.Parts.{part, opened, lowered}
use Rattle.checker.proofs.tables.Tables.+too_deep.Given as goal

abbrev pub decreases-too_deep : goal.decreases-too_deep
decreases-too_deep l = l.p

abbrev pub invariant-loop-i : goal.invariant-loop-i
invariant-loop-i l = l.low ≡ lowered (λ k. deep_at l.limit l.self.terms.now (part l.r k) (l.binders + opened l.self.types.now l.r k)) l.i
