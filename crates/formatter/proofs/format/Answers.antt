use Rattle.std.proofs.Common.{rules, ap, ◌∙◌, sym}
use Rattle.formatter.specs.Lines.{line, tidied}
use Rattle.formatter.proofs.Lines.{refusal_shown}
use Rattle.formatter.proofs.format.Goals as goal

pub returns-in_ok-line-in-Err-clause-value : goal.returns-in_ok-line-in-Err-clause-value
returns-in_ok-line-in-Err-clause-value c =
    let shown = refusal_shown c.in-Err.refusal in
    let same = ap (λ l. line (tidied l)) (sym c.rule_in.ensures) ∙ ap line c.in-Err.ensures.err in
    search rules
