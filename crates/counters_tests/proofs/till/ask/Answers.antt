use Rattle.std.proofs.Common.{sym, refl, ap, ◌∙◌, MutBor}
use Rattle.counters.specs.declared.basket.Basket.{Basket}
use Rattle.counters.specs.declared.prices.Prices.{Prices}
use Rattle.counters.specs.declared.split.Split.{Split}
use Rattle.counters.specs.Refusals.{earlier}
use Rattle.counters.specs.Baskets.{basket_table}
use Rattle.counters.specs.PriceLists.{prices_outcome}
use Rattle.counters.specs.Splits.{split_table}
use Rattle.counters.specs.Meanings.{of_basket, of_prices}
use Rattle.counters_tests.proofs.till.ask.Goals as goal

pub returns : goal.returns
returns c =
    let lines = c.in_ok-fill.ensures in
    let rows = c.in_ok-fill-2.ensures in
    let question = c.args.question in (
      ap (λ o. earlier o (prices_outcome c.args.rows.now)) (sym lines.result) ∙ sym rows.result,
      c.answer.ensures.entry
          ∙ ap (λ (s : Split (MutBor Basket) (MutBor Prices)). split_table s.point (of_basket s.first.now) (of_prices s.second.now) question) c.new-split.ensures
          ∙ ap (λ t. split_table 10000 t (of_prices c.fill-2.new.self) question) (lines.filled refl)
          ∙ ap (λ t. split_table 10000 (basket_table c.args.lines.now) t question) (rows.filled refl),
    )
