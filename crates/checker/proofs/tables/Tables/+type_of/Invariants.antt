use Rattle.rows.specs.Views.{view}
use Rattle.checker.proofs.Parts.{found, Done}
use Rattle.checker.proofs.Sights.{Same}
use Rattle.checker.proofs.tables.Tables.+type_of.Given as goal

abbrev pub decreases-type_of : goal.decreases-type_of
decreases-type_of l = l.p

abbrev pub invariant-loop-i : goal.invariant-loop-i
invariant-loop-i l = Same l.fn.names l.names × Done (found l.self.types.now l.self.terms.now l.p (view l.fn.names)) l.i l.low l.types
