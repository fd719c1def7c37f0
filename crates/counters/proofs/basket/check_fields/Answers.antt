use Rattle.std.proofs.Common.{◌≡◌, ℕ, not, Option, Some, None, Result, Ok, Err, MatchOption, option_map, refl, sym, ap, ◌∙◌, rules, tests}
use Rattle.std.proofs.lemmas.Iterator.{YieldsList-from_slice}
use Rattle.std.proofs.lemmas.Iterator.Search.{position_from_yields_List}
use Rattle.counters.specs.declared.refusal.Refusal.{Refusal}
use Rattle.counters.specs.declared.refusal.Refusal.TheVariants.{LargeLine}
use Rattle.counters.specs.Refusals.{outcome}
use Rattle.counters.specs.Baskets.{is_small}
use Rattle.counters.proofs.Lines.{fault_at}
use Rattle.counters.proofs.basket.check_fields.Goals as goal

-- What the place of a large line comes to.
refused : (found : Option ℕ) (r : Result (Unit {0}) Refusal) → MatchOption found (r ≡ Ok tt) (λ place. r ≡ Err (LargeLine place)) → outcome r ≡ option_map (λ place. (32, place)) found
refused None r e = rw e refl
refused (Some place) r e = rw e refl

pub returns : goal.returns
returns c =
    refused c.position.result _ (search rules)
    ∙ ap (option_map (λ place. (32, place))) (position_from_yields_List (λ line. not (is_small line)) _ _ _ c.position.ensures.ran (YieldsList-from_slice _ c.iter.ensures.rest) (λ x b q k. search (rules, tests)))
    ∙ sym (fault_at c.args.lines.now)
