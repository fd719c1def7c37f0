-- The first law that is broken is none exactly where the tables keep their laws.
use Rattle.std.proofs.Common.{◌≡◌, ℕ, ◌-◌, ◌<◌, ◌≤◌, false, cond, eqb, ltb, length, get_or, Some, None, ap, ◌∙◌, subst, arith}
use Rattle.std.proofs.lemmas.Bool.{or_from, le-ltb, ne_eqb, eqb-true, eq-eqb}
use Rattle.rows.specs.Limits.{most_types, most_terms}
use Rattle.rows.specs.Rows.{nat_row}
use Rattle.theory.specs.Emit.{Tables}
use Rattle.theory.specs.Laws.{Compound, Row, Lawful, uses}
use Rattle.checker.specs.declared.refusal.Fault.TheVariants.{TableSize, BadType, BadTerm, PartUse}
use Rattle.checker.specs.Lowest.{first_of, lowest}
use Rattle.checker.specs.RowTests.{no_row, good_type, good_term, used_once}
use Rattle.checker.specs.Verdicts.{refusal, at_row, misfit, rows_verdict}
use Rattle.checker.proofs.Lows.{lowest_good, lowest_none}
use Rattle.checker.proofs.Sheets.{good, Kept}
use Rattle.checker.proofs.TypeLaws.{at_any, first_nat, compound_row, rows_apart, good_types}
use Rattle.checker.proofs.TermLaws.{row_law, row_so}

pub lawful : (s : Tables) → Kept s → Lawful s
lawful s k =
    let few = k.few_types in
    record {
      type_count = (omega (arith, k.some_types), few);
      term_count = (omega (arith, k.some_terms), k.few_terms);
      first = λ d. at_any s.0 0 d nat_row k.some_types ∙ first_nat s.0 k.types k.some_types;
      later = λ p d some h. subst (Compound p) (at_any s.0 p nat_row d h) (compound_row s.0 k.types p some h);
      apart = λ p q d lt h e. rows_apart s.0 k.types p q lt h (at_any s.0 p nat_row d (omega (arith, lt, h)) ∙ e ∙ at_any s.0 q d nat_row h);
      rows = λ p d h. subst (Row (length s.0) p) (at_any s.1 p no_row d h) (row_law (length s.0) p (get_or s.1 p no_row) (good (length s.0) s.1 p (lowest_good (good_term (length s.0) s.1) (length s.1) k.terms p h)));
      once = λ p h. eqb-true (uses p s.1) 1 (lowest_good (used_once s.1) (length s.1 - 1) k.parts p (omega (arith, h)));
    }

pub keeps : (s : Tables) → Lawful s → Kept s
keeps s l = record {
  some_types = omega (arith, l.type_count.0);
  few_types = l.type_count.1;
  some_terms = omega (arith, l.term_count.0);
  few_terms = l.term_count.1;
  types = good_types s.0 (l.first nat_row) (λ p some h. l.later p nat_row some h) (λ p q lt h e. l.apart p q nat_row lt h e);
  terms = lowest_none (good_term (length s.0) s.1) (length s.1) (λ p h. row_so (length s.0) p (get_or s.1 p no_row) (l.rows p no_row h));
  parts = lowest_none (used_once s.1) (length s.1 - 1) (λ p h. eq-eqb (uses p s.1) 1 (l.once p (omega (arith, h))));
}

fit : (most n : ℕ) → 0 < n → n ≤ most → misfit most n ≡ false
fit most n some few = or_from (eqb n 0) (ltb most n) (ne_eqb n 0 (λ z. omega arith)) (le-ltb most n few)

pub kept_so : (s : Tables) → Kept s → rows_verdict s ≡ None
kept_so s k =
    let types_low = at_row BadType (lowest (good_type s.0) (length s.0)) in
    let terms_low = at_row BadTerm (lowest (good_term (length s.0) s.1) (length s.1)) in
    let parts_low = at_row PartUse (lowest (used_once s.1) (length s.1 - 1)) in
    ap (λ b. first_of (cond b (Some (refusal TableSize 0)) None) (first_of types_low (first_of terms_low parts_low)))
    (or_from (misfit most_types (length s.0)) (misfit most_terms (length s.1)) (fit most_types (length s.0) k.some_types k.few_types) (fit most_terms (length s.1) k.some_terms k.few_terms))
    ∙ ap (λ o. first_of (at_row BadType o) (first_of terms_low parts_low)) k.types
    ∙ ap (λ o. first_of (at_row BadTerm o) parts_low) k.terms
    ∙ ap (at_row PartUse) k.parts
