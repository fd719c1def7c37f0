use Rattle.std.proofs.Common.{ℕ, ◌-◌, List, length, Result, sym, subst, arith}
use Rattle.checker.specs.Sheets.{tables}
use Rattle.text.specs.declared.refusal.WriteRefusal.{WriteRefusal}
use Rattle.text.specs.Trips.{ReadsBack, WritesBack}
use Rattle.text.proofs.Trips.{reads_back, writes_back}
use Rattle.text.proofs.Depths.{shallow}
use Rattle.text.proofs.writer.write.Goals as goal

pub returns : goal.returns
returns c =
    let s = tables c.args.sheet.now in
    let old = c.args.buffer.now in
    let answers = c.write_counted.ensures.answers in
    let bytes = c.write_counted.ensures.bytes in
    let rule = c.is_rule.ensures in
    let unfolds = c.rows_unfold.ensures s rule.lawful in
    let small = unfolds.small (length s.1 - 1) (let some = rule.lawful.term_count.0 in omega arith) in
    let count = c.rows_counted.ensures s rule.lawful in
    let few_types = rule.lawful.type_count.1 in
    let few_terms = rule.lawful.term_count.1 in
    record {
      answers = answers;
      bytes = bytes;
      opens = shallow s rule.lawful unfolds;
      reads_back = subst (λ (p : Result ℕ WriteRefusal × List ℕ). ReadsBack p.0 s p.1) (λ i. (sym answers i, sym bytes i)) (reads_back c.reads_exactly.ensures c.reads_once.ensures c.tight_renders.ensures s small count few_types few_terms old);
      writes_back = subst (λ (p : Result ℕ WriteRefusal × List ℕ). WritesBack p.0 s p.1) (λ i. (sym answers i, sym bytes i)) (writes_back c.reads_exactly.ensures c.reads_once.ensures c.tight_renders.ensures s small count few_types few_terms old);
    }
