use Rattle.std.proofs.Common.{◌≡◌, length, Ok, rules}
use Rattle.theory.specs.Emit.{Tables}
use Rattle.checker.specs.Verdicts.{verdict, answer}
use Rattle.checker.proofs.Meaning.{told, answered, passes_so}
use Rattle.checker.proofs.sheet.check.check.Goals as goal

pub invariant_of-place : goal.invariant_of-place
invariant_of-place c = record { passed = passes_so (c.args.types.now, c.args.terms.now) (length c.args.sight.now) (answered _ _ c.in_ok-judge.ensures) }

pub returns-in_err-judge : goal.returns-in_err-judge
returns-in_err-judge c =
    let s : Tables = (c.args.types.now, c.args.terms.now) in
    let e : c.from_residual.result ≡ answer (verdict s (length c.args.sight.now)) = search rules in
    let t = told s (length c.args.sight.now) c.from_residual.result e in
    record { answers = e; filled = search rules; means = t.0; lasts = t.1 }

pub returns : goal.returns
returns c =
    let s : Tables = (c.args.types.now, c.args.terms.now) in
    let e : Ok tt ≡ answer (verdict s (length c.args.sight.now)) = c.in_ok-judge.ensures in
    let t = told s (length c.args.sight.now) (Ok tt) e in
    record { answers = e; filled = search rules; means = t.0; lasts = t.1 }
