use Rattle.std.proofs.Common.{rules, ◌≡◌, ◌∙◌, ap, Ok, take, length}
use Rattle.theory.specs.Emit.{Tables}
use Rattle.checker.specs.Verdicts.{verdict}
use Rattle.listing.specs.Refusals.{judged_tables, judged}
use Rattle.listing.proofs.Judged.{made_judged, passed, refused}
use Rattle.listing.proofs.tables.Tables.read.Goals as goal
use Rattle.listing.proofs.tables.Tables.read.Goals.{In_ok-made}

abbrev the_rows : (c : In_ok-made) → Tables
the_rows c = (take c.in_ok-made.made.types c.read.new.types, take c.in_ok-made.made.terms c.read.new.terms)

rows_judged : (c : In_ok-made) → judged_tables (the_rows c) (verdict (the_rows c) (length c.args.sight.now)) ≡ judged (length c.args.sight.now) c.args.rule.now
rows_judged c =
    made_judged (length c.args.sight.now) c.args.rule.now c.in_ok-made.made (length c.args.self.now.types) (length c.args.self.now.terms) _ _ (search rules) (search rules)
    c.in_ok-made.ensures.answers c.in_ok-made.ensures.type_rows c.in_ok-made.ensures.term_rows

pub returns-in_err-check : goal.returns-in_err-check
returns-in_err-check c =
    let made = (goal.at.returns-in_err-check c).In_ok-made in
    let s = the_rows made in
    let e = refused (verdict s (length c.args.sight.now)) s c.in_err-check.field-0.0 c.in_err-check.ensures.answers ∙ rows_judged made in
    let f = c.from_residual-in_err-check.ensures in
    search rules

pub returns : goal.returns
returns c =
    let made = (goal.at.returns c).In_ok-made in
    let s = the_rows made in
    ap Ok c.in_ok-check.ensures.filled ∙ passed (verdict s (length c.args.sight.now)) s c.in_ok-check.ensures.answers ∙ rows_judged made
