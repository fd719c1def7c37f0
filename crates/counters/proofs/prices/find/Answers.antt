use Rattle.std.proofs.Common.{◌<◌, ◌≤◌, ⊎_elim, arith}
use Rattle.std.proofs.lemmas.Bool.{cases_lt}
use Rattle.counters.proofs.PriceRows.{found_at, missing, look_less, below_middle, above_middle}
use Rattle.counters.proofs.prices.find.Invariants.{none}
use Rattle.counters.proofs.prices.find.Goals as goal

pub returns-then-row-article : goal.returns-then-row-article
returns-then-row-article c =
    let priced = found_at c.args.rows.now c.requires _ none (omega (arith, c.loop-low.invariant.0)) c.args.article c.if-row-article.true in
    cc

pub loop-low-preserved-then-row-article-2 : goal.loop-low-preserved-then-row-article-2
loop-low-preserved-then-row-article-2 c =
    (c.loop-low.invariant.0, below_middle c.args.rows.now c.requires _ none c.args.article (omega (arith, c.loop-low.invariant.0)) (omega (arith, c.if-row-article-2.true)), c.loop-low.invariant.2)

pub loop-low-preserved : goal.loop-low-preserved
loop-low-preserved c =
    (omega (arith, c.loop-low.invariant.0), c.loop-low.invariant.1, above_middle c.args.rows.now c.requires _ none c.args.article (omega (arith, c.if-row-article.false, c.if-row-article-2.false)))

pub loop-low-smaller-then-row-article-2 : goal.loop-low-smaller-then-row-article-2
loop-low-smaller-then-row-article-2 c = look_less c.args.rows.now c.requires c.loop-low.low c.loop-low.high _ c.loop-low.invariant.0 c.loop-low-test.true (omega arith)

pub loop-low-smaller : goal.loop-low-smaller
loop-low-smaller c = look_less c.args.rows.now c.requires c.loop-low.low c.loop-low.high _ c.loop-low.invariant.0 c.loop-low-test.true (omega arith)

pub returns : goal.returns
returns c =
    missing c.args.rows.now c.args.article none
    (λ k lt same. ⊎_elim
    (λ (s : k < c.loop-low.low). omega (arith, c.loop-low.invariant.1 k s, same))
    (λ (s : c.loop-low.low ≤ k). omega (arith, c.loop-low.invariant.2 k (omega (arith, c.loop-low-test.false)) lt, same))
    (cases_lt k c.loop-low.low))
