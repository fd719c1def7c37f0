use Rattle.std.proofs.Common.{length, Some, sym, ap, ◌∙◌}
use Rattle.rows.specs.Views.{view, room}
use Rattle.text.specs.Brackets.{rows_of}
use Rattle.text.proofs.Closes.{closed_type, closed_term}
use Rattle.text.proofs.opens.Reader.close.Goals as goal

pub returns-in-Some-Term-clause-turned : goal.returns-in-Some-Term-clause-turned
returns-in-Some-Term-clause-turned c =
    let r = c.args.self.now in
    c.add_term.ensures.turned
    ∙ closed_term (view r.opens.now) (view c.pop.new.self) c.in-Some-Term.f c.in-Some-Term.p c.in-Some-Term.q c.form.result (rows_of r) (length r.types.now) (length r.terms.now) (room r.opens.now)
    (ap Some (sym c.in-Some-Term.field-0-is) ∙ c.in-Some-Term.ensures.value) c.pop.ensures.after c.form.ensures

pub returns-in-Some-Type-clause-turned : goal.returns-in-Some-Type-clause-turned
returns-in-Some-Type-clause-turned c =
    let r = c.args.self.now in
    c.add_type.ensures.turned
    ∙ closed_type (view r.opens.now) (view c.pop.new.self) c.in-Some-Type.k c.in-Some-Type.p c.new.result (rows_of r) (length r.types.now) (length r.terms.now) (room r.opens.now)
    (ap Some (sym c.in-Some-Type.field-0-is) ∙ c.in-Some-Type.ensures.value) c.pop.ensures.after c.new.ensures
