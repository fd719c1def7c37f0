use Rattle.std.proofs.Common.{rules, tests, ◌≡◌, cond, length, sym, ap, ◌∙◌, ltb, Some, None, arith}
use Rattle.std.specs.Option.{unwrap_or}
use Rattle.std.proofs.lemmas.Iterator.{YieldsList-from_slice}
use Rattle.std.proofs.lemmas.Iterator.Search.{position_from_yields_List}
use Rattle.rows.specs.Rows.{row_place, row_alike}
use Rattle.rows.proofs.Places.{first_equal, place_within, found_or}
use Rattle.rows.proofs.search.find_type.Goals as goal
use Rattle.rows.proofs.search.find_type.Goals.{After-position}

-- the place that the search found, or the number of rows
found_place : (c : After-position) → unwrap_or c.position.result (length c.args.made.now) ≡ row_place c.args.row c.args.made.now
found_place c =
    let row = c.args.row in
    let made = c.args.made.now in
    let n = length made in
    let found = position_from_yields_List (row_alike row) _ _ _ c.position.ensures.ran (YieldsList-from_slice _ c.iter.ensures.rest) (λ x b q k. search (rules, tests)) in
    let place : c.position.result ≡ cond (ltb (row_place row made) n) (Some (row_place row made)) None = found ∙ sym (ap (λ i. cond (ltb i n) (Some i) None) (first_equal row made)) in
    ap (λ o. unwrap_or o n) place ∙ found_or (row_place row made) n (place_within row made)

pub returns-in-Some : goal.returns-in-Some
returns-in-Some c = omega (arith, ap (λ o. unwrap_or o (length c.args.made.now)) (sym c.in-Some.is) ∙ found_place (goal.at.returns-in-Some c).After-position)

pub returns-in-None : goal.returns-in-None
returns-in-None c = omega (arith, ap (λ o. unwrap_or o (length c.args.made.now)) (sym c.in-None.is) ∙ found_place (goal.at.returns-in-None c).After-position)
