use Rattle.std.proofs.Common.{ℕ, ◌+◌, ◌-◌, ap, ◌∙◌, arith}
use Rattle.engine.specs.declared.state.Closure.{Closure}
use Rattle.engine.specs.Stores.{find_in}
use Rattle.engine.proofs.Names.{find_on, find_here}
use Rattle.engine.proofs.store.names.find.Goals as goal

pub loop-init : goal.loop-init
loop-init c = ap (find_in c.args.cells.now c.args.env) (omega arith)

pub loop-preserved : goal.loop-preserved
loop-preserved c =
    let cs = c.args.cells.now in
    ap (λ (b : Closure × ℕ). find_in cs b.1 (c.args.name - (c.loop.counter + 1))) c.nearest-at.ensures
    ∙ find_on cs c.loop.at c.args.name c.loop.counter c.loop-test.true
    ∙ c.loop.invariant

pub returns : goal.returns
returns c =
    let cs = c.args.cells.now in
    ap (λ (b : Closure × ℕ). b.0) c.nearest.ensures ∙ find_here cs c.loop.at (c.args.name - c.loop.counter) (omega (arith, c.loop-test.false)) ∙ c.loop.invariant
