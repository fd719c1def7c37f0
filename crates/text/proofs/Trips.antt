-- What is written is read again as it was.
use Rattle.std.proofs.Common.{◌≡◌, ℕ, ◌+◌, ◌≤◌, min, Bool, true, false, cond, List, length, take, drop, Ok, Err, sym, refl, ap, ◌∙◌, subst, arith, leb-false, leb-true}
use lib.Seq.{sets, sets-eq}
use Rattle.std.proofs.lemmas.List.{take_at}
use Rattle.rows.specs.Limits.{top}
use Rattle.theory.specs.Syntax.{Term}
use Rattle.theory.specs.Folds.{largest}
use Rattle.theory.specs.Emit.{Tables, rows_of}
use Rattle.theory.specs.Stands.{rule_of}
use Rattle.theory.specs.Theorems.{Counted}
use Rattle.grammar.specs.Renders.{Renders}
use Rattle.grammar.specs.Tight.{tight}
use Rattle.grammar.specs.Reader.{Outcome, accepted, refused_at}
use Rattle.grammar.specs.Theorems.{outcome_within, Readable, Read, Exactly, ReadsExactly, ReadsOnce, TightRenders}
use Rattle.text.specs.declared.refusal.WriteRefusal.TheVariants.{NoRoom}
use Rattle.text.specs.Trips.{text_of, fits, written, stored, ReadsAs, TightReads, ReadsBack, TightText, WritesBack}

-- ---- a text of a term is read as that term

module _ (types terms opens : ℕ) (bs : List ℕ) (e : Term) where
  found : (o : Outcome Tables ℕ) → outcome_within 16384 1024 2048 types terms opens bs ≡ o → Exactly 16384 1024 2048 types terms opens bs o → Readable 16384 1024 2048 types terms opens bs e → ReadsOnce → ReadsAs types terms opens bs e
  found (accepted s y) is h r once =
      let same = once bs h.term e h.readable.renders r.renders in
      let rows = h.rows ∙ ap rows_of same in
      record { row = y; reads = is ∙ ap (λ q. accepted q y) rows; stands = ap rule_of (sym rows) ∙ h.stands ∙ same }
  found (refused_at f p) is h r once = absurd (h e r)

  reads_as : ReadsExactly 16384 1024 2048 → ReadsOnce → Readable 16384 1024 2048 types terms opens bs e → ReadsAs types terms opens bs e
  reads_as exactly once r = found (outcome_within 16384 1024 2048 types terms opens bs) refl (exactly types terms opens bs) r once

pub tight_reads : ReadsExactly 16384 1024 2048 → ReadsOnce → TightRenders 999999999 → TightReads
tight_reads exactly once renders types terms opens e small short enough =
    reads_as types terms opens (tight e) e exactly once
    (record { renders = renders e small; for_bytes = short; for_types = enough.for_types; for_terms = enough.for_terms; for_opens = enough.for_opens })

-- and a tight text that was read as two tables is theirs
pub text_back : ReadsExactly 16384 1024 2048 → ReadsOnce → TightRenders 999999999 → (types terms opens y : ℕ) (bs : List ℕ) (s : Tables) → TightText bs → outcome_within 16384 1024 2048 types terms opens bs ≡ accepted s y → (text_of s ≡ bs) × (length bs ≤ 16384)
text_back exactly once renders types terms opens y bs s t is =
    let read : Read 16384 1024 2048 types terms opens bs s = subst (Exactly 16384 1024 2048 types terms opens bs) is (exactly types terms opens bs) in
    let own : Renders bs t.term = subst (λ l. Renders l t.term) (sym t.text) (renders t.term t.small) in
    let same = once bs read.term t.term read.readable.renders own in
    (ap tight (read.stands ∙ same) ∙ sym t.text, read.readable.for_bytes)

-- ---- the two round trips

-- what is written at the front of a buffer
front : (old bytes : List ℕ) → length bytes ≤ length old → take (length bytes) (sets old 0 bytes) ≡ bytes
front old bytes h = ap (take (length bytes)) (sets-eq bytes old 0 (omega arith)) ∙ take_at bytes (drop (0 + length bytes) old) (length bytes) (omega arith)

module _ (exactly : ReadsExactly 16384 1024 2048) (once : ReadsOnce) (renders : TightRenders 999999999) (s : Tables) (small : largest (rule_of s) ≤ top)
    (count : Counted s) (few_types : length s.0 ≤ 1024) (few_terms : length s.1 ≤ 2048) (old : List ℕ) where
  front_is : length (text_of s) ≤ length old → take (length (text_of s)) (sets old 0 (text_of s)) ≡ text_of s
  front_is h = front old (text_of s) h

  back : (t : Bool) → fits (text_of s) old ≡ t → ReadsBack (cond t (Ok (length (text_of s))) (Err NoRoom)) s (cond t (sets old 0 (text_of s)) old)
  back true e = λ types terms opens for_types for_terms for_opens.
      let le = leb-true (length (text_of s)) (min (length old) 16384) e in
      subst (λ l. ReadsAs types terms opens l (rule_of s)) (sym (front_is (omega arith)))
      (tight_reads exactly once renders types terms opens (rule_of s) small (omega arith) (record { for_types = omega (arith, count.types); for_terms = omega (arith, count.terms); for_opens = for_opens }))
  back false e = tt

  pub reads_back : ReadsBack (written (text_of s) old) s (stored (text_of s) old)
  reads_back = back (fits (text_of s) old) refl

  again : (t : Bool) → fits (text_of s) old ≡ t → WritesBack (cond t (Ok (length (text_of s))) (Err NoRoom)) s (cond t (sets old 0 (text_of s)) old)
  again true e = λ types terms opens y bs tight_text is.
      let le = leb-true (length (text_of s)) (min (length old) 16384) e in
      front_is (omega arith) ∙ (text_back exactly once renders types terms opens y bs s tight_text is).0
  again false e = λ types terms opens y bs tight_text is.
      let gt = leb-false (length (text_of s)) (min (length old) 16384) e in
      let b = text_back exactly once renders types terms opens y bs s tight_text is in
      let same = ap length b.0 in
      let short = b.1 in
      omega arith

  pub writes_back : WritesBack (written (text_of s) old) s (stored (text_of s) old)
  writes_back = again (fits (text_of s) old) refl
