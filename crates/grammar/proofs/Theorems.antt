-- The theorems on texts.
use Rattle.std.proofs.Common.{◌≡◌, ℕ, ◌<◌, ◌≤◌, min, max, Bool, true, false, cond, eqb, ltb, List, [], length, Some, sym, refl, ap, ◌∙◌, subst, arith, ltb-false, ltb-true, eqb-true}
use borrow.Author.Tests.{eqb-false}
use Rattle.theory.specs.Syntax.{Term}
use Rattle.theory.specs.Emit.{Tables, emit, empty, rows_of}
use Rattle.theory.specs.Stands.{rule_of}
use Rattle.theory.specs.Laws.{Lawful}
use Rattle.theory.specs.Theorems.{RowsStand, RowsLawful}
use Rattle.grammar.specs.declared.fault.Fault.{Fault}
use Rattle.grammar.specs.declared.fault.Fault.TheVariants.{TooLong, NoTypeRow}
use Rattle.grammar.specs.Reader.{Outcome, accepted, refused_at, read}
use Rattle.grammar.specs.TableMaker.{into_tables}
use Rattle.grammar.specs.TermTokens.{toks, depth}
use Rattle.grammar.specs.Theorems.{outcome_within, Readable, Read, Exactly, ReadsExactly, ReadsOnce}
use Rattle.grammar.proofs.Grow.{drive}
use Rattle.grammar.proofs.Driven.{driven}
use Rattle.grammar.proofs.Spelt.{spells, spells_once}
use Rattle.grammar.proofs.Any.{read_found, read_made}
use Rattle.grammar.proofs.Laid.{emitted}
use Rattle.grammar.proofs.Numbers.{renders_small}

no_fault : (k : Fault) (p : ℕ) (s : Tables) (y : ℕ) → refused_at k p ≡ accepted s y → ⊥
no_fault k p s y e = let z : ◌≡◌ {A = ℕ} 0 1 = cc in omega arith

module _ (stand : RowsStand) (lawful : RowsLawful 1024 2048 999999999) (types terms opens : ℕ) (bs : List ℕ) where
  abbrev t : ℕ
  t = min types 1024

  abbrev u : ℕ
  u = min terms 2048

  -- a reading that is accepted found a term
  right : (s : Tables) (y : ℕ) → length bs ≤ 16384 → 0 < types → read (into_tables t u) opens (length bs) bs empty ≡ accepted s y → Read 16384 1024 2048 types terms opens bs s
  right s y short some h =
      let a = read_found (into_tables t u) opens (length bs) bs empty (s, y) h in
      let b = (emitted t u a.term).only empty (s, y) (omega arith, omega arith) a.grown in
      let is : rows_of a.term ≡ s = ap (λ p. p.0) b.0 in
      let x = b.1.0 in
      let z = b.1.1 in
      record {
        term = a.term;
        readable = record { renders = a.renders; for_bytes = short; for_types = b.1.0; for_terms = b.1.1; for_opens = a.fits };
        rows = sym is;
        stands = ap rule_of (sym is) ∙ (stand a.term).stands;
        lawful = subst Lawful is (lawful a.term (renders_small a.term a.renders) (omega arith) (omega arith));
      }

  -- and every term for which the rows suffice is found
  all : (e : Term) → Readable 16384 1024 2048 types terms opens bs e → read (into_tables t u) opens (length bs) bs empty ≡ accepted (rows_of e) (emit e empty).1
  all e q =
      read_made (into_tables t u) opens (length bs) bs empty (emit e empty) e q.renders q.for_opens
      ((emitted t u e).gives empty (q.for_types, q.for_terms))

  reads_one : (o : Outcome Tables ℕ) → read (into_tables t u) opens (length bs) bs empty ≡ o → length bs ≤ 16384 → 0 < types → Exactly 16384 1024 2048 types terms opens bs o
  reads_one (accepted s y) h short some = right s y short some h
  reads_one (refused_at f p) h short some = λ e q. no_fault f p (rows_of e) (emit e empty).1 (sym h ∙ all e q)

  some_types : (e : Term) → Readable 16384 1024 2048 types terms opens bs e → 0 < types
  some_types e q =
      let g = (emitted t u e).grows empty in
      let x = q.for_types in
      omega arith

  reads : Exactly 16384 1024 2048 types terms opens bs (outcome_within 16384 1024 2048 types terms opens bs)
  reads = by (ltb 16384 (length bs)) (eqb types 0) refl refl
    where
      by : (l n : Bool) → ltb 16384 (length bs) ≡ l → eqb types 0 ≡ n
          → Exactly 16384 1024 2048 types terms opens bs (cond l (refused_at TooLong 16384) (cond n (refused_at NoTypeRow 0) (read (into_tables t u) opens (length bs) bs empty)))
      by true n e f = λ a q. let long = ltb-true 16384 (length bs) e in let short = q.for_bytes in omega arith
      by false true e f = λ a q. let none = eqb-true types 0 f in let some = some_types a q in omega arith
      by false false e f =
          let ne = eqb-false types 0 f in
          let some : 0 < types = grind arith in
          reads_one (read (into_tables t u) opens (length bs) bs empty) refl (ltb-false 16384 (length bs) e) some

pub reads_exactly : RowsStand → RowsLawful 1024 2048 999999999 → ReadsExactly 16384 1024 2048
reads_exactly stand lawful types terms opens bs = reads stand lawful types terms opens bs

pub reads_once : RowsStand → ReadsOnce
reads_once stand bs e a r q =
    let t = max (length (rows_of e).0) (length (rows_of a).0) in
    let u = max (length (rows_of e).1) (length (rows_of a).1) in
    let o = max (depth e) (depth a) in
    let m = into_tables t u in
    let same : toks e ≡ toks a = spells_once (spells r) (spells q) in
    let one : drive m o (toks e) empty [] ≡ Some (emit e empty) = driven m o e empty (omega arith) ∙ (emitted t u e).gives empty (omega arith, omega arith) in
    let two : drive m o (toks a) empty [] ≡ Some (emit a empty) = driven m o a empty (omega arith) ∙ (emitted t u a).gives empty (omega arith, omega arith) in
    let both : Some (emit e empty) ≡ Some (emit a empty) = sym one ∙ ap (λ l. drive m o l empty []) same ∙ two in
    let alike : emit e empty ≡ emit a empty = cc in
    sym (stand e).stands ∙ ap (λ p. rule_of p.0) alike ∙ (stand a).stands
