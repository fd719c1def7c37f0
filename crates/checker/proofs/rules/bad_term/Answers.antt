use Rattle.std.proofs.Common.{◌≡◌, true, false, length, rules, tests}
use Rattle.std.proofs.lemmas.Iterator.{first_from_Range}
use Rattle.checker.specs.RowTests.{good_term}
use Rattle.checker.proofs.Lows.{lowest_found}
use Rattle.checker.proofs.rules.bad_term.Goals as goal

pub returns : goal.returns
returns c =
    let good = good_term c.args.n c.args.terms.now in
    lowest_found good (length c.args.terms.now) _
    (first_from_Range _ _ _ _ (λ k. good k ≡ false) (λ k. good k ≡ true) c.find.ensures.ran (λ x q k. search (rules, tests)) (λ x q k. search (rules, tests)))
