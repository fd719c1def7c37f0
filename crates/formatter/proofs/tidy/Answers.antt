use Rattle.std.proofs.Common.{rules, ◌∙◌}
use Rattle.grammar.specs.Theorems.{outcome_within}
use Rattle.checker.specs.Sheets.{tables}
use Rattle.formatter.proofs.Lines.{judged, wrote}
use Rattle.formatter.proofs.tidy.Goals as goal

pub returns-clause-ok : goal.returns-clause-ok
returns-clause-ok c =
    let s = tables c.in_ok-sheet.sheet in
    judged (outcome_within 16384 1024 2048 1024 2048 64 c.args.rule.now) s c.in_ok-sheet.ensures
    ∙ wrote s c.args.buffer.now c.write.new.buffer c.in_ok-long.long (search rules) c.in_ok-long.ensures.answers c.in_ok-long.ensures.bytes
