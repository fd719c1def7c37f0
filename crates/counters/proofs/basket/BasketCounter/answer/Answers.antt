use Rattle.std.proofs.Common.{◌+◌, ◌^◌, ◌∙◌, rules, tests}
use Rattle.std.proofs.lemmas.Iterator.{YieldsList-from_slice, YieldsList-from_map}
use Rattle.std.proofs.lemmas.Iterator.Consumers.{YieldsList-at, YieldsList-from_filter}
use Rattle.counters.specs.Baskets.{is_of}
use Rattle.counters.proofs.Lines.{quantities, table_is, sum_fits}
use Rattle.counters.proofs.Yields.{reduced, adds_below}
use Rattle.counters.proofs.basket.BasketCounter.answer.Goals as goal

pub reduce-requires-clause-callable : goal.reduce-requires-clause-callable
reduce-requires-clause-callable c =
    let lines = c.args.self.now.lines.items in
    let q = c.args.question in
    adds_below (2 ^ 32) (quantities q lines) (sum_fits q lines c.args.self.now.lawful)
    (YieldsList-from_map _ (λ line. line.quantity) (YieldsList-at c.map.ensures.source (YieldsList-from_filter _ (is_of q) (YieldsList-at c.filter.ensures.source (YieldsList-from_slice lines (c.iter.ensures.rest ∙ c.deref.ensures.0))) c.filter.ensures.closure (λ x b f k. search (rules, tests)))) c.map.ensures.closure (λ x r f k. search rules))
    (λ a x b f k. search rules)
    (λ a x lt. search rules)

pub returns-clause-entry : goal.returns-clause-entry
returns-clause-entry c =
    let lines = c.args.self.now.lines.items in
    let q = c.args.question in
    reduced (λ a b. a + b) (quantities q lines) _ c.reduce.ensures.ran
    (YieldsList-from_map _ (λ line. line.quantity) (YieldsList-at c.map.ensures.source (YieldsList-from_filter _ (is_of q) (YieldsList-at c.filter.ensures.source (YieldsList-from_slice lines (c.iter.ensures.rest ∙ c.deref.ensures.0))) c.filter.ensures.closure (λ x b f k. search (rules, tests)))) c.map.ensures.closure (λ x r f k. search rules))
    (λ a x b f k. search rules)
    ∙ table_is q lines
