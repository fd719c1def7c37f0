use Rattle.std.proofs.Common.{◌≡◌, true, false, length, rules, tests}
use Rattle.std.proofs.lemmas.Iterator.{first_from_Range}
use Rattle.checker.specs.RowTests.{good_type}
use Rattle.checker.proofs.Lows.{lowest_found}
use Rattle.checker.proofs.rules.bad_type.Goals as goal

pub returns : goal.returns
returns c =
    let good = good_type c.args.types.now in
    lowest_found good (length c.args.types.now) _
    (first_from_Range _ _ _ _ (λ k. good k ≡ false) (λ k. good k ≡ true) c.find.ensures.ran (λ x q k. search (rules, tests)) (λ x q k. search (rules, tests)))
