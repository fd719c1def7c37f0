use Rattle.std.proofs.Common.{◌≡◌, [], length, sym, ap, subst, arith}
use Rattle.theory.specs.Stands.{rule_of}
use Rattle.checker.specs.Sheets.{tables}
use Rattle.runs.specs.Calls.{Running, start, Came, opened}
use Rattle.engine.specs.declared.control.Machine.{Machine}
use Rattle.engine.specs.Runs.{limits_of, view}
use Rattle.engine.proofs.Keeping.{open_kept}
use Rattle.engine.proofs.run.Run.open.Goals as goal

pub invariant_of-result : goal.invariant_of-result
invariant_of-result c =
    let k = open_kept c.laws.ensures (tables c.args.sheet) c.is_rule.ensures.lawful c.is_rule.ensures.typed c.terms-rows.result.now c.terms-rows.ensures c.new.result c.new.ensures in
    let moves = ap (λ (m : Machine). m.moves) c.new.ensures in
    let frames = ap (λ (m : Machine). length m.store.frames) c.new.ensures in
    let cells = ap (λ (m : Machine). length m.store.cells) c.new.ensures in
    record { spending = omega arith; moving = omega (arith, moves); standing = omega (arith, frames); holding = omega (arith, cells); fitting = k.holds; typing = k.typed }

pub returns : goal.returns
unfolding view
returns c =
    let k = open_kept c.laws.ensures (tables c.args.sheet) c.is_rule.ensures.lawful c.is_rule.ensures.typed c.terms-rows.result.now c.terms-rows.ensures c.new.result c.new.ensures in
    let rule = rule_of (tables c.args.sheet) in
    let same : ◌≡◌ {A = Running} (record { limits = limits_of c.args.limits; standing = _ }) (start (limits_of c.args.limits) rule) = λ i. record { limits = limits_of c.args.limits; standing = k.agrees i } in
    record { opens = same; came = subst (λ (o : Running). Came rule (limits_of c.args.limits) [] [] o) (sym same) (opened c.is_rule.ensures.typed) }
