use Rattle.std.proofs.Common.{length, sym, ◌∙◌}
use Rattle.checker.specs.declared.refusal.Fault.TheVariants.{BadTerm}
use Rattle.checker.proofs.Sheets.{no_fault, placed_from_pass, sizes_fit}
use Rattle.checker.proofs.Meaning.{answered}
use Rattle.checker.proofs.tables.Tables.new.Goals as goal

pub invariant_of-result : goal.invariant_of-result
invariant_of-result c =
    let f = sizes_fit (c.args.types.now, c.args.terms.now) (sym c.bad_size.ensures ∙ answered _ _ c.in_ok-refuse.ensures) in
    record { some = f.2; few = f.3; placed = placed_from_pass (length c.args.types.now) c.args.terms.now (sym c.bad_term.ensures ∙ no_fault BadTerm _ (answered _ _ c.in_ok-refuse-3.ensures)) }
