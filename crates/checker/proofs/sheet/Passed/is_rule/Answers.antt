use Rattle.checker.specs.Sheets.{tables}
use Rattle.checker.proofs.Meaning.{passes_rule}
use Rattle.checker.proofs.sheet.Passed.is_rule.Goals as goal

pub returns : goal.returns
returns c = passes_rule (tables c.args.self.now) c.args.self.now.passed
