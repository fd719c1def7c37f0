use Rattle.std.proofs.Common.{◌<◌, refl, arith}
use Rattle.checker.specs.Sheets.{tables}
use Rattle.environments.specs.Nodes.{nodes_of}
use Rattle.environments.specs.NodeTerms.{terms_of}
use Rattle.engine.specs.Choices.{state_of}
use Rattle.engine.specs.Runs.{view}
use Rattle.engine.proofs.Suiting.{top_suits}
use Rattle.engine.proofs.Keeping.{Known, made_kept, made_once, made_moves, made_fits, unfueled, still, rested, stopped}
use Rattle.engine.proofs.Meanings.{lawful_meaning}
use Rattle.engine.proofs.run.Run.step.Goals as goal

pub step-requires-clause-suited : goal.step-requires-clause-suited
step-requires-clause-suited g c =
    let r = c.args.self.now in
    let m = r.machine in
    top_suits (tables r.sheet) m.store.cells m.mode m.store.frames (c.laws.ensures.typed_suits (terms_of (nodes_of (tables r.sheet))) (state_of (tables r.sheet) m) r.typing)

-- the fuel is spent
pub returns-then-self : goal.returns-then-self
unfolding view
returns-then-self g c =
    let t = g.C.Counter.table c.args.counter.now in
    let k : Known c.args.self.now t = record { laws = c.laws.ensures; machine_laws = c.laws-2.ensures; law = c.is_rule.ensures.lawful; lawful = lawful_meaning t (g.C.Counter.laws c.args.counter.now) } in
    let spent = unfueled k c.if-self.true in
    record { once = still k spent; step = rested k spent; alike = refl }

-- no step was made
pub returns-then-not-step : goal.returns-then-not-step
unfolding view
returns-then-not-step g c =
    let r = c.args.self.now in
    let t = g.C.Counter.table c.args.counter.now in
    let k : Known r t = record { laws = c.laws.ensures; machine_laws = c.laws-2.ensures; law = c.is_rule.ensures.lawful; lawful = lawful_meaning t (g.C.Counter.laws c.args.counter.now) } in
    let (once, step) = stopped k c.step.new.self c.if-not-step.ensures.stepped in
    record { once = once; step = step; alike = c.if-not-step.ensures.alike }

-- a step was made
pub invariant_of-self-2 : goal.invariant_of-self-2
invariant_of-self-2 g c =
    let r = c.args.self.now in
    let t = g.C.Counter.table c.args.counter.now in
    let k : Known r t = record { laws = c.laws.ensures; machine_laws = c.laws-2.ensures; law = c.is_rule.ensures.lawful; lawful = lawful_meaning t (g.C.Counter.laws c.args.counter.now) } in
    let lasts : r.steps < r.limits.fuel = omega (arith, c.if-self.false, r.spending) in
    let w = c.if-not-step.ensures.stepped in
    let fits = made_fits k c.step.new.self w lasts in
    let kept = made_kept k c.step.new.self w lasts in
    record { spending = omega (arith, lasts); moving = omega (arith, fits.2, r.moving); standing = fits.0; holding = fits.1; fitting = kept.holds; typing = kept.typed }

pub returns : goal.returns
unfolding view
returns g c =
    let r = c.args.self.now in
    let t = g.C.Counter.table c.args.counter.now in
    let k : Known r t = record { laws = c.laws.ensures; machine_laws = c.laws-2.ensures; law = c.is_rule.ensures.lawful; lawful = lawful_meaning t (g.C.Counter.laws c.args.counter.now) } in
    let w = c.if-not-step.ensures.stepped in
    let lasts : r.steps < r.limits.fuel = omega (arith, c.if-self.false, r.spending) in
    record { once = made_once k c.step.new.self w lasts; step = made_moves k c.step.new.self w lasts; alike = c.if-not-step.ensures.alike }
