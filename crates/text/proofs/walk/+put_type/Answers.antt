use Rattle.std.proofs.Common.{ℕ, List, ◌++◌, codes, sym, subst}
use Rattle.rows.specs.declared.tables.TypeRow.{TypeRow}
use Rattle.theory.specs.Emit.{Tables}
use Rattle.checker.specs.Sheets.{tables}
use Rattle.text.specs.Sinks.{Puts}
use Rattle.text.proofs.Walks.{Ahead, begun, onward, cut}
use Rattle.text.proofs.RowTexts.{type_row, side, natural, compound}
use Rattle.text.proofs.walk.+put_type.Given.{Over}
use Rattle.text.proofs.walk.+put_type.Goals as goal
use Rattle.text.proofs.walk.+put_type.Goals.{After-shape_opening, In_ok-put, In_ok-put_type}

pub returns-in_default : goal.returns-in_default
returns-in_default g t c =
    let text = natural (tables c.args.sheet.now) c.types.result.now c.args.p c.shape.result c.rows_unfold.ensures c.is_rule.ensures.lawful c.types.ensures c.requires c.shape.ensures c.in_default.is in
    subst (λ l. Puts g.S.Sink.takes g.S.Sink.lacks c.args.out.now l c.put.result c.put.new.self) (sym text) c.put.ensures

-- the two types of a row, and what is left of its text from each on
abbrev left : Tables → List TypeRow → ℕ → List ℕ
left s ts p = side s.0 (type_row ts p).left

abbrev right : Tables → List TypeRow → ℕ → List ℕ
right s ts p = side s.0 (type_row ts p).right

abbrev from_right : Tables → List TypeRow → ℕ → List ℕ
from_right s ts p = right s ts p ++ codes ")"

abbrev from_left : Tables → List TypeRow → ℕ → List ℕ
from_left s ts p = left s ts p ++ from_right s ts p

at_opening : (g : Over) (t : ℕ) (c : After-shape_opening g t) → Ahead g.S.Sink.takes g.S.Sink.lacks c.args.out.now (side (tables c.args.sheet.now).0 c.args.p) c.args.out.now (c.shape_opening.result.now ++ from_left (tables c.args.sheet.now) c.types.result.now c.args.p)
at_opening g t c = begun c.args.out.now _ _ (compound (tables c.args.sheet.now) c.types.result.now c.args.p c.shape.result c.rows_unfold.ensures c.is_rule.ensures.lawful c.types.ensures c.requires c.shape.ensures c.in-Some.shape c.shape_opening.result.now c.in-Some.is c.shape_opening.ensures)

at_left : (g : Over) (t : ℕ) (c : In_ok-put g t) → Ahead g.S.Sink.takes g.S.Sink.lacks c.args.out.now (side (tables c.args.sheet.now).0 c.args.p) c.put-2.new.self (from_left (tables c.args.sheet.now) c.types.result.now c.args.p)
at_left g t c = onward g.met.S.Sink.laws c.shape_opening.result.now (from_left (tables c.args.sheet.now) c.types.result.now c.args.p) (at_opening g t (goal.at.In_ok-put g t c).After-shape_opening) c.in_ok-put.ensures

at_right : (g : Over) (t : ℕ) (c : In_ok-put_type g t) → Ahead g.S.Sink.takes g.S.Sink.lacks c.args.out.now (side (tables c.args.sheet.now).0 c.args.p) c.put_type.new.out (from_right (tables c.args.sheet.now) c.types.result.now c.args.p)
at_right g t c = onward g.met.S.Sink.laws (left (tables c.args.sheet.now) c.types.result.now c.args.p) (from_right (tables c.args.sheet.now) c.types.result.now c.args.p) (at_left g t (goal.at.In_ok-put_type g t c).In_ok-put) c.in_ok-put_type.ensures

pub returns-in_err-put : goal.returns-in_err-put
returns-in_err-put g t c =
    cut g.met.S.Sink.laws c.shape_opening.result.now (from_left (tables c.args.sheet.now) c.types.result.now c.args.p) (at_opening g t (goal.at.returns-in_err-put g t c).After-shape_opening) c.in_err-put.ensures c.from_residual.result c.put-2.new.self c.from_residual.ensures.0

pub returns-in_err-put_type : goal.returns-in_err-put_type
returns-in_err-put_type g t c =
    cut g.met.S.Sink.laws (left (tables c.args.sheet.now) c.types.result.now c.args.p) (from_right (tables c.args.sheet.now) c.types.result.now c.args.p) (at_left g t (goal.at.returns-in_err-put_type g t c).In_ok-put) c.in_err-put_type.ensures c.from_residual-in_err-put_type.result c.put_type.new.out c.from_residual-in_err-put_type.ensures.0

pub returns-in_err-put_type-2 : goal.returns-in_err-put_type-2
returns-in_err-put_type-2 g t c =
    cut g.met.S.Sink.laws (right (tables c.args.sheet.now) c.types.result.now c.args.p) (codes ")") (at_right g t (goal.at.returns-in_err-put_type-2 g t c).In_ok-put_type) c.in_err-put_type-2.ensures c.from_residual-in_err-put_type-2.result c.put_type-2.new.out c.from_residual-in_err-put_type-2.ensures.0

pub returns : goal.returns
returns g t c =
    (onward g.met.S.Sink.laws (right (tables c.args.sheet.now) c.types.result.now c.args.p) (codes ")") (at_right g t (goal.at.returns g t c).In_ok-put_type) c.in_ok-put_type-2.ensures).puts c.put-3.result c.put-3.new.self c.put-3.ensures
