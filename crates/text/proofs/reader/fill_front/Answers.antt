use Rattle.std.proofs.Common.{length, sym, ◌∙◌, subst, arith, length-take-le}
use Rattle.theory.specs.Emit.{empty}
use Rattle.grammar.specs.Reader.{read}
use Rattle.grammar.specs.TableMaker.{into_tables}
use Rattle.text.specs.Reads.{outcome, Filled}
use Rattle.text.proofs.Whole.{whole_is, filled_more}
use Rattle.text.proofs.reader.fill_front.Goals as goal

pub returns : goal.returns
returns c =
    let types = c.args.types.now in
    let terms = c.args.terms.now in
    let bs = c.args.text.now in
    let t = length-take-le c.min-type_room.result types (omega (arith, c.min-type_room.ensures)) ∙ c.min-type_room.ensures in
    let u = length-take-le c.min-term_room.result terms (omega (arith, c.min-term_room.ensures)) ∙ c.min-term_room.ensures in
    filled_more c.fill.result c.fill.new.types _ c.fill.new.terms _ (outcome types terms c.args.opens.now bs)
    (subst (Filled c.fill.result c.fill.new.types c.fill.new.terms)
    ((λ i. read (into_tables (t i) (u i)) (length c.args.opens.now) (length bs) bs empty) ∙ sym (whole_is (length types) (length terms) (length c.args.opens.now) bs (omega arith) (λ e. grind arith)))
    c.fill.ensures)
