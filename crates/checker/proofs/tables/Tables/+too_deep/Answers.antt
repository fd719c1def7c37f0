use Rattle.std.proofs.Common.{◌≡◌, ℕ, ◌+◌, ◌<◌, get_or, cond, ap, ◌∙◌, arith}
use Rattle.std.specs.Option.{is_some, option_or}
use Rattle.std.proofs.lemmas.Grind.{common_steps}
use Rattle.checker.specs.RowTests.{no_row}
use Rattle.checker.specs.Depths.{deep_at}
use Rattle.checker.specs.Shapes.{bound_at}
use Rattle.checker.proofs.Counts.{one_small, arity_small}
use Rattle.checker.proofs.Parts.{part, same_bound, opened, lowered, part_taken, parts_taken, part_below, lowered_more, or_own, deep_parts}
use Rattle.checker.proofs.tables.Tables.+too_deep.Goals as goal

pub too_deep-requires : goal.too_deep-requires
too_deep-requires t c =
    let r = get_or c.args.self.now.terms.now c.args.p no_row in
    let h = part_taken r _ _ c.arity_of.ensures.value c.loop-i-test.true in
    let b : part r c.loop-i.i < c.args.p = part_below c.args.p r (c.args.self.now.placed c.args.p c.requires.within) c.loop-i.i h.0 in
    let bound : c.bound_at.result ≡ bound_at c.args.self.now.types.now r c.loop-i.i = c.bound_at.ensures ∙ omega (arith, same_bound c.args.self.now.types.now r, h.0, arity_small r.kind) in
    let o : c.from.result ≡ opened c.args.self.now.types.now r c.loop-i.i = (let byte : c.from.result ≡ cond c.is_some.result 1 0 = grind (arith, common_steps) in byte ∙ (λ j. cond (c.is_some.ensures j) 1 0) ∙ (λ j. cond (is_some (bound j)) 1 0)) in
    (omega (arith, h.1, b, c.decreases), (omega (arith, h.1, b, c.requires.within), omega (arith, h.1, b, o, one_small (is_some (bound_at c.args.self.now.types.now r c.loop-i.i)), c.requires.few)))

pub loop-i-preserved : goal.loop-i-preserved
loop-i-preserved t c =
    let ts = c.args.self.now.types.now in
    let es = c.args.self.now.terms.now in
    let r = get_or es c.args.p no_row in
    let h = part_taken r _ _ c.arity_of.ensures.value c.loop-i-test.true in
    let bound : c.bound_at.result ≡ bound_at ts r c.loop-i.i = c.bound_at.ensures ∙ omega (arith, same_bound ts r, h.0, arity_small r.kind) in
    let o : c.from.result ≡ opened ts r c.loop-i.i = (let byte : c.from.result ≡ cond c.is_some.result 1 0 = grind (arith, common_steps) in byte ∙ (λ j. cond (c.is_some.ensures j) 1 0) ∙ (λ j. cond (is_some (bound j)) 1 0)) in
    c.lower_of-low.ensures
    ∙ lowered_more (λ k. deep_at c.args.limit es (part r k) (c.args.binders + opened ts r k)) c.loop-i.i _ _ c.loop-i.invariant (c.too_deep.ensures ∙ (λ j. deep_at c.args.limit es (h.1 j) (c.args.binders + o j)))

pub returns : goal.returns
returns t c =
    let ts = c.args.self.now.types.now in
    let es = c.args.self.now.terms.now in
    let r = get_or es c.args.p no_row in
    let n = parts_taken r _ _ c.arity_of.ensures.value c.loop-i-test.false c.loop-i.auto.i-end in
    let f = λ (k : ℕ). deep_at c.args.limit es (part r k) (c.args.binders + opened ts r k) in
    c.or.ensures ∙ ap (option_or c.loop-i.low) c.then_some.ensures ∙ or_own _ _ _ _ (c.loop-i.invariant ∙ ap (lowered f) n)
    ∙ deep_parts c.args.limit ts es c.args.self.now.placed c.args.p c.args.binders c.requires.within
