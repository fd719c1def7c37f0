use Rattle.std.proofs.Common.{◌++◌, map, drop, codes}
use Rattle.checker.specs.Sheets.{tables}
use Rattle.grammar.specs.Tight.{spaced}
use Rattle.text.specs.Writes.{term_text}
use Rattle.text.proofs.Walks.{Ahead}
use Rattle.text.proofs.walk.+put_term.Given as goal

abbrev pub decreases-put_term : goal.decreases-put_term
decreases-put_term g l = l.p

-- the parts that are left, and the closing bracket, are still to be put
abbrev pub invariant-loop-part : goal.invariant-loop-part
invariant-loop-part g l =
    Ahead g.S.Sink.takes g.S.Sink.lacks l.fn.out (term_text (tables l.sheet) l.p) l.out
    (spaced (drop l.part-index (map (term_text (tables l.sheet)) l.part-items)) ++ codes ")")
