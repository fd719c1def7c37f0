use Rattle.std.proofs.Common.{length, arith, rules}
use Rattle.text.specs.Reads.{outcome, made, zero_type, zero_term}
use Rattle.text.proofs.Whole.{counts_of, cleared, ruled}
use Rattle.text.proofs.reader.read.Goals as goal

pub returns-clause-type_rows : goal.returns-clause-type_rows
returns-clause-type_rows c =
    let o = outcome c.args.types.now c.args.terms.now c.args.opens.now c.args.text.now in
    let n = counts_of o c.fill_front-answer.result _ c.unwrap_or_default-made.result c.fill_front-answer.ensures.answers c.unwrap_or_default-made.ensures (λ d. search rules) in
    cleared zero_type c.fill_front-answer.new.types (made o).0 c.fill.new.self c.unwrap_or_default-made.result.types (length c.args.types.now) (c.fill.ensures.after (λ y e. search rules)) n.0 c.fill_front-answer.ensures.types_within c.fill_front-answer.ensures.types_made (omega arith)

pub returns-clause-term_rows : goal.returns-clause-term_rows
returns-clause-term_rows c =
    let o = outcome c.args.types.now c.args.terms.now c.args.opens.now c.args.text.now in
    let n = counts_of o c.fill_front-answer.result _ c.unwrap_or_default-made.result c.fill_front-answer.ensures.answers c.unwrap_or_default-made.ensures (λ d. search rules) in
    cleared zero_term c.fill_front-answer.new.terms (made o).1 c.fill-2.new.self c.unwrap_or_default-made.result.terms (length c.args.terms.now) (c.fill-2.ensures.after (λ y e. search rules)) n.1 c.fill_front-answer.ensures.terms_within c.fill_front-answer.ensures.terms_made (omega arith)

pub returns-clause-rule : goal.returns-clause-rule
returns-clause-rule c =
    let o = outcome c.args.types.now c.args.terms.now c.args.opens.now c.args.text.now in
    ruled c.fill_front-answer.result (length c.args.types.now) (length c.args.terms.now) _ _ c.args.opens.now c.args.text.now o c.fill_front-answer.ensures.answers (returns-clause-type_rows c) (returns-clause-term_rows c) (omega (arith, c.fill_front-answer.ensures.types_within)) (omega (arith, c.fill_front-answer.ensures.terms_within))
    (c.reads_exactly.ensures (length c.args.types.now) (length c.args.terms.now) (length c.args.opens.now) c.args.text.now)
