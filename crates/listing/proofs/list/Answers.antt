use Rattle.std.proofs.Common.{rules, ◌∙◌}
use Rattle.grammar.specs.Theorems.{outcome_within}
use Rattle.listing.specs.Refusals.{judged}
use Rattle.listing.specs.Lines.{chomped}
use Rattle.listing.proofs.Judged.{refusal_shown}
use Rattle.listing.proofs.list.Goals as goal

pub returns-in-Err : goal.returns-in-Err
returns-in-Err c =
    let e = refusal_shown (outcome_within 16384 1024 2048 1024 2048 64 (chomped c.args.input.now)) c.in-Err.refusal (c.in-Err.ensures ∙ (λ i. judged 64 (c.rule_in.ensures i))) in
    search rules
