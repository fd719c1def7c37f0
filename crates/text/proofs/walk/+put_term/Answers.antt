use Rattle.std.proofs.Common.{◌≡◌, ℕ, ◌+◌, List, ◌++◌, get_or, codes, decimal, sym, refl, ap, ◌∙◌, subst, arith}
use Rattle.rows.specs.Forms.{types, parts}
use Rattle.checker.specs.Sheets.{tables}
use Rattle.text.specs.Sinks.{Puts}
use Rattle.text.specs.Writes.{term_text}
use Rattle.text.proofs.Walks.{Ahead, begun, onward, cut}
use Rattle.text.proofs.RowTexts.{term_row, parts_in, parts_from, types_in, side, numeral, called, bracketed_text, type_below, part_below, one_type, next_part}
use Rattle.text.proofs.walk.+put_term.Given.{Over}
use Rattle.text.proofs.walk.+put_term.Goals as goal
use Rattle.text.proofs.walk.+put_term.Goals.{After-form_opening, In_ok-put-in-Form, In_ok-put-in-Form-2, In-Name, then-types-eq1+in_ok-put_type-in-Form, else-types-eq1}

-- ---- numbers and names

pub returns-in-Number : goal.returns-in-Number
returns-in-Number g t c =
    let text = numeral (tables c.args.sheet.now) c.terms.result.now c.args.p c.head.result c.rows_unfold.ensures c.is_rule.ensures.lawful c.terms.ensures c.requires c.head.ensures c.in-Number.is in
    subst (λ l. Puts g.S.Sink.takes g.S.Sink.lacks c.args.out.now l c.put_number.result c.put_number.new.out) (sym text) c.put_number.ensures

at_sign : (g : Over) (t : ℕ) (c : In-Name g t) → Ahead g.S.Sink.takes g.S.Sink.lacks c.args.out.now (term_text (tables c.args.sheet.now) c.args.p) c.args.out.now (codes "#" ++ decimal (term_row c.terms.result.now c.args.p).number)
at_sign g t c = begun c.args.out.now _ _ (called (tables c.args.sheet.now) c.terms.result.now c.args.p c.head.result c.rows_unfold.ensures c.is_rule.ensures.lawful c.terms.ensures c.requires c.head.ensures c.in-Name.is)

pub returns-in_err-put-in-Name : goal.returns-in_err-put-in-Name
returns-in_err-put-in-Name g t c =
    cut g.met.S.Sink.laws (codes "#") (decimal (term_row c.terms.result.now c.args.p).number) (at_sign g t (goal.at.returns-in_err-put-in-Name g t c).In-Name) c.in_err-put-in-Name.ensures c.from_residual.result c.put.new.self c.from_residual.ensures.0

pub returns-in_ok-put-in-Name : goal.returns-in_ok-put-in-Name
returns-in_ok-put-in-Name g t c =
    (onward g.met.S.Sink.laws (codes "#") (decimal (term_row c.terms.result.now c.args.p).number) (at_sign g t (goal.at.returns-in_ok-put-in-Name g t c).In-Name) c.in_ok-put-in-Name.ensures).puts c.put_number-in-Name.result c.put_number-in-Name.new.out c.put_number-in-Name.ensures

-- ---- forms

-- before the opening, and after it, with m types and n parts
at_opening : (g : Over) (t : ℕ) (c : After-form_opening g t) (m n : ℕ) → m ≡ types c.in-Form.form → n ≡ parts c.in-Form.form
    → Ahead g.S.Sink.takes g.S.Sink.lacks c.args.out.now (term_text (tables c.args.sheet.now) c.args.p) c.args.out.now (c.form_opening.result.now ++ (types_in (tables c.args.sheet.now) (term_row c.terms.result.now c.args.p) m ++ parts_from (tables c.args.sheet.now) (parts_in (term_row c.terms.result.now c.args.p) n) 0))
at_opening g t c m n a b = begun c.args.out.now _ _ (bracketed_text (tables c.args.sheet.now) c.terms.result.now c.args.p c.head.result c.rows_unfold.ensures c.is_rule.ensures.lawful c.terms.ensures c.requires c.head.ensures c.in-Form.form c.in-Form.is c.form_opening.result.now m n c.form_opening.ensures a b)

at_types : (g : Over) (t : ℕ) (c : In_ok-put-in-Form g t) (m n : ℕ) → m ≡ types c.in-Form.form → n ≡ parts c.in-Form.form
    → Ahead g.S.Sink.takes g.S.Sink.lacks c.args.out.now (term_text (tables c.args.sheet.now) c.args.p) c.put-in-Form.new.self (types_in (tables c.args.sheet.now) (term_row c.terms.result.now c.args.p) m ++ parts_from (tables c.args.sheet.now) (parts_in (term_row c.terms.result.now c.args.p) n) 0)
at_types g t c m n a b =
    onward g.met.S.Sink.laws c.form_opening.result.now (types_in (tables c.args.sheet.now) (term_row c.terms.result.now c.args.p) m ++ parts_from (tables c.args.sheet.now) (parts_in (term_row c.terms.result.now c.args.p) n) 0) (at_opening g t (goal.at.In_ok-put-in-Form g t c).After-form_opening m n a b) c.in_ok-put-in-Form.ensures

-- before its one type
at_type : (g : Over) (t : ℕ) (c : In_ok-put-in-Form g t) (m n : ℕ) → m ≡ types c.in-Form.form → n ≡ parts c.in-Form.form → m ≡ 1
    → Ahead g.S.Sink.takes g.S.Sink.lacks c.args.out.now (term_text (tables c.args.sheet.now) c.args.p) c.put-in-Form.new.self (side (tables c.args.sheet.now).0 (term_row c.terms.result.now c.args.p).ty ++ parts_from (tables c.args.sheet.now) (parts_in (term_row c.terms.result.now c.args.p) n) 0)
at_type g t c m n a b one =
    let ps = parts_from (tables c.args.sheet.now) (parts_in (term_row c.terms.result.now c.args.p) n) 0 in
    subst (Ahead g.S.Sink.takes g.S.Sink.lacks c.args.out.now (term_text (tables c.args.sheet.now) c.args.p) c.put-in-Form.new.self) (ap (λ k. types_in (tables c.args.sheet.now) (term_row c.terms.result.now c.args.p) k ++ ps) one ∙ one_type (tables c.args.sheet.now) (term_row c.terms.result.now c.args.p) ps) (at_types g t c m n a b)

pub returns-in_err-put-in-Form : goal.returns-in_err-put-in-Form
returns-in_err-put-in-Form g t c =
    cut g.met.S.Sink.laws c.form_opening.result.now _ (at_opening g t (goal.at.returns-in_err-put-in-Form g t c).After-form_opening _ _ refl refl) c.in_err-put-in-Form.ensures c.from_residual-in_err-put-in-Form.result c.put-in-Form.new.self c.from_residual-in_err-put-in-Form.ensures.0

pub put_type-requires : goal.put_type-requires
put_type-requires g t c = type_below (tables c.args.sheet.now) c.terms.result.now c.args.p c.head.result c.rows_unfold.ensures c.is_rule.ensures.lawful c.terms.ensures c.requires c.head.ensures c.in-Form.form c.in-Form.is (sym c.types.ensures.value ∙ c.if-types-eq1.true)

pub returns-in_err-put_type-in-Form : goal.returns-in_err-put_type-in-Form
returns-in_err-put_type-in-Form g t c =
    let ps = parts_from (tables c.args.sheet.now) (parts_in (term_row c.terms.result.now c.args.p) (parts c.in-Form.form)) 0 in
    cut g.met.S.Sink.laws (side (tables c.args.sheet.now).0 (term_row c.terms.result.now c.args.p).ty) ps (at_type g t (goal.at.returns-in_err-put_type-in-Form g t c).In_ok-put-in-Form c.types.result (parts c.in-Form.form) c.types.ensures.value refl c.if-types-eq1.true) c.in_err-put_type-in-Form.ensures c.from_residual-in_err-put_type-in-Form.result c.put_type.new.out c.from_residual-in_err-put_type-in-Form.ensures.0

pub loop-part-init : goal.loop-part-init
loop-part-init g t c =
    let m = c.types.result in
    let ps = parts_from (tables c.args.sheet.now) (parts_in (term_row c.terms.result.now c.args.p) c.parts.result) 0 in
    let b = (goal.at.loop-part-init g t c).In_ok-put-in-Form in
    elim c.if-types-eq1.branch [
      | then-types-eq1+in_ok-put_type-in-Form w ↦
          subst (λ o. Ahead g.S.Sink.takes g.S.Sink.lacks c.args.out.now (term_text (tables c.args.sheet.now) c.args.p) o ps) (sym w.out-is) (onward g.met.S.Sink.laws (side (tables c.args.sheet.now).0 (term_row c.terms.result.now c.args.p).ty) ps (at_type g t b m c.parts.result c.types.ensures.value c.parts.ensures.value w.if-types-eq1.true) w.in_ok-put_type-in-Form.ensures)
      | else-types-eq1 w ↦
          let none : m ≡ 0 = omega (arith, c.types.ensures.bound, w.if-types-eq1.false) in
          subst (λ o. Ahead g.S.Sink.takes g.S.Sink.lacks c.args.out.now (term_text (tables c.args.sheet.now) c.args.p) o ps) (sym w.out-is) (subst (Ahead g.S.Sink.takes g.S.Sink.lacks c.args.out.now (term_text (tables c.args.sheet.now) c.args.p) c.put-in-Form.new.self) (ap (λ k. types_in (tables c.args.sheet.now) (term_row c.terms.result.now c.args.p) k ++ ps) none) (at_types g t b m c.parts.result c.types.ensures.value c.parts.ensures.value))
    ]

-- ---- parts

-- the row of the next part, and what is left of the text after it
abbrev now : List ℕ → ℕ → ℕ
now qs i = get_or qs i 0

pub returns-in_err-put-in-Form-2 : goal.returns-in_err-put-in-Form-2
returns-in_err-put-in-Form-2 g t c =
    let i = c.loop-part.part-index in
    let before = subst (Ahead g.S.Sink.takes g.S.Sink.lacks c.args.out.now (term_text (tables c.args.sheet.now) c.args.p) c.loop-part.out) (next_part (tables c.args.sheet.now) (parts_in (term_row c.terms.result.now c.args.p) c.parts.result) i c.loop-part-test.true) c.loop-part.invariant in
    cut g.met.S.Sink.laws (codes " ") (term_text (tables c.args.sheet.now) (now (parts_in (term_row c.terms.result.now c.args.p) c.parts.result) i) ++ parts_from (tables c.args.sheet.now) (parts_in (term_row c.terms.result.now c.args.p) c.parts.result) (i + 1)) before c.in_err-put-in-Form-2.ensures c.from_residual-in_err-put-in-Form-2.result c.put-in-loop-part.new.self c.from_residual-in_err-put-in-Form-2.ensures.0

at_part : (g : Over) (t : ℕ) (c : In_ok-put-in-Form-2 g t)
    → Ahead g.S.Sink.takes g.S.Sink.lacks c.args.out.now (term_text (tables c.args.sheet.now) c.args.p) c.put-in-loop-part.new.self (term_text (tables c.args.sheet.now) (now (parts_in (term_row c.terms.result.now c.args.p) c.parts.result) c.loop-part.part-index) ++ parts_from (tables c.args.sheet.now) (parts_in (term_row c.terms.result.now c.args.p) c.parts.result) (c.loop-part.part-index + 1))
at_part g t c =
    let i = c.loop-part.part-index in
    let before = subst (Ahead g.S.Sink.takes g.S.Sink.lacks c.args.out.now (term_text (tables c.args.sheet.now) c.args.p) c.loop-part.out) (next_part (tables c.args.sheet.now) (parts_in (term_row c.terms.result.now c.args.p) c.parts.result) i c.loop-part-test.true) c.loop-part.invariant in
    onward g.met.S.Sink.laws (codes " ") (term_text (tables c.args.sheet.now) (now (parts_in (term_row c.terms.result.now c.args.p) c.parts.result) i) ++ parts_from (tables c.args.sheet.now) (parts_in (term_row c.terms.result.now c.args.p) c.parts.result) (i + 1)) before c.in_ok-put-in-Form-2.ensures

pub put_term-requires : goal.put_term-requires
put_term-requires g t c κs within =
    let below = part_below (tables c.args.sheet.now) c.terms.result.now c.args.p c.head.result c.rows_unfold.ensures c.is_rule.ensures.lawful c.terms.ensures c.requires c.head.ensures c.in-Form.form c.in-Form.is c.parts.result c.loop-part.part-index c.parts.ensures.value c.loop-part-test.true in
    (omega (arith, c.decreases, below), (within, omega (arith, c.requires, below)))

pub returns-in_err-put_term-in-Form : goal.returns-in_err-put_term-in-Form
returns-in_err-put_term-in-Form g t c =
    let i = c.loop-part.part-index in
    cut g.met.S.Sink.laws (term_text (tables c.args.sheet.now) (now (parts_in (term_row c.terms.result.now c.args.p) c.parts.result) i)) (parts_from (tables c.args.sheet.now) (parts_in (term_row c.terms.result.now c.args.p) c.parts.result) (i + 1)) (at_part g t (goal.at.returns-in_err-put_term-in-Form g t c).In_ok-put-in-Form-2) c.in_err-put_term-in-Form.ensures c.from_residual-in_err-put_term-in-Form.result c.put_term.new.out c.from_residual-in_err-put_term-in-Form.ensures.0

pub loop-part-preserved : goal.loop-part-preserved
loop-part-preserved g t c =
    let i = c.loop-part.part-index in
    onward g.met.S.Sink.laws (term_text (tables c.args.sheet.now) (now (parts_in (term_row c.terms.result.now c.args.p) c.parts.result) i)) (parts_from (tables c.args.sheet.now) (parts_in (term_row c.terms.result.now c.args.p) c.parts.result) (i + 1)) (at_part g t (goal.at.loop-part-preserved g t c).In_ok-put-in-Form-2) c.in_ok-put_term-in-Form.ensures
