use Rattle.std.proofs.Common.{◌≡◌, List, length, Err, sym, ap, ◌∙◌, rules}
use Rattle.rows.specs.declared.tables.TypeRow.{TypeRow}
use Rattle.rows.specs.declared.tables.TermRow.{TermRow}
use Rattle.rows.specs.Views.{view, room}
use Rattle.theory.specs.Emit.{empty}
use Rattle.grammar.specs.Reader.{read}
use Rattle.grammar.specs.TableMaker.{into_tables}
use Rattle.text.specs.Brackets.{rows_of, answered}
use Rattle.text.proofs.Whole.{begins, filled_ok, filled_err}
use Rattle.text.proofs.reader.fill.Goals as goal
use Rattle.text.proofs.reader.fill.Goals.{After-run}

-- what `run` answered is the reading, by its definition
is_read : (c : After-run) → answered c.run.result (rows_of c.run.new.self) ≡ read (into_tables (length c.args.types.now) (length c.args.terms.now)) (length c.args.opens.now) (length c.args.text.now) c.args.text.now empty
is_read c =
    c.run.ensures.answers
    ∙ begins c.args.types.now (length c.args.opens.now) c.args.text.now c.new-reader.result c.requires.some_types
    c.new-reader.ensures.types c.new-reader.ensures.made (ap view c.new-reader.ensures.opens ∙ c.new-opens.ensures.empty) (ap room c.new-reader.ensures.opens ∙ c.new-opens.ensures.capacity)
    ∙ ap (λ l. read (into_tables (length c.args.types.now) (length l)) (length c.args.opens.now) (length c.args.text.now) c.args.text.now empty) c.new-reader.ensures.terms

pub returns : goal.returns
returns c =
    let ok = ap (λ a. answered a (rows_of c.run.new.self)) (sym c.in_ok-run.was) ∙ is_read (goal.at.returns c).After-run in
    let filled = λ (ts : List TypeRow) (es : List TermRow). filled_ok c.in_ok-run.field-0 c.run.new.self _ ts es ok in
    search (rules, filled)

pub returns-in_err-run : goal.returns-in_err-run
returns-in_err-run c =
    let same : Err c.in_err-run.field-0.0 ≡ c.from_residual.result = search rules in
    filled_err c.from_residual.result c.in_err-run.field-0.0 (rows_of c.run.new.self) _ _ _ same (ap (λ a. answered a (rows_of c.run.new.self)) (sym c.in_err-run.was) ∙ is_read (goal.at.returns-in_err-run c).After-run)
