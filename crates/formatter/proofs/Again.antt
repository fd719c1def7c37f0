-- Tidying what was tidied changes nothing.
use Rattle.std.proofs.Common.{◌≡◌, ℕ, ◌-◌, ◌≤◌, Bool, true, false, cond, eqb, leb, List, [], ◌++◌, length, get_or, take, Some, None, Ok, Err, Option, sym, refl, ap, ◌∙◌, subst, arith}
use Rattle.std.proofs.lemmas.List.{length_push, get_or_at, take_at}
use Rattle.std.proofs.lemmas.Bool.{leb-true}
use Rattle.theory.specs.Emit.{Tables, rows_of}
use Rattle.theory.specs.Stands.{rule_of}
use Rattle.theory.specs.Theorems.{RowsUnfold}
use Rattle.grammar.specs.Reader.{Outcome, accepted, refused_at}
use Rattle.grammar.specs.Theorems.{ReadsExactly, Exactly, outcome_within}
use Rattle.checker.specs.declared.refusal.Refusal.{Refusal}
use Rattle.checker.specs.Verdicts.{verdict}
use Rattle.text.specs.declared.refusal.WriteRefusal.TheVariants.{NoRoom}
use Rattle.text.specs.Trips.{text_of, Enough, ReadsAs, TightReads}
use Rattle.formatter.specs.Lines.{in_writing, tidied_tables, tidied_outcome, tidied, newline, line, chomped}
use Rattle.formatter.specs.Theorems.{Stays, TidyStays}

-- what tidying two tables gives is their text, which is not too long
tables_text : (s : Tables) (v : Option Refusal) (t : List ℕ) → tidied_tables s v ≡ Ok t → (t ≡ text_of s) × (length (text_of s) ≤ 16384)
tables_text s None t e = go (leb (length (text_of s)) 16384) refl
  where
    go : (b : Bool) → leb (length (text_of s)) 16384 ≡ b → (t ≡ text_of s) × (length (text_of s) ≤ 16384)
    go true h =
        let is : Ok t ≡ Ok (text_of s) = sym e ∙ ap (λ b. cond b (Ok (text_of s)) (Err (in_writing NoRoom))) h in
        let same : t ≡ text_of s = cc in
        (same, leb-true (length (text_of s)) 16384 h)
    go false h =
        let is : Ok t ≡ Err (in_writing NoRoom) = sym e ∙ ap (λ b. cond b (Ok (text_of s)) (Err (in_writing NoRoom))) h in
        let z : ◌≡◌ {A = ℕ} 0 1 = cc in
        absurd (omega arith)
tables_text s (Some f) t e = let z : ◌≡◌ {A = ℕ} 0 1 = cc in absurd (omega arith)

-- a line feed at the end is taken off
chomped_line : (t : List ℕ) → chomped (t ++ newline) ≡ t
chomped_line t =
    let n = length_push t 10 in
    let last : length (t ++ newline) - 1 ≡ length t = omega arith in
    ap (λ k. cond (eqb (get_or (t ++ newline) k 0) 10) (take k (t ++ newline)) (t ++ newline)) last
    ∙ ap (λ b. cond (eqb b 10) (take (length t) (t ++ newline)) (t ++ newline)) (get_or_at t 10 [] 0 (length t) refl)
    ∙ take_at t newline (length t) refl

module _ (exactly : ReadsExactly 16384 1024 2048) (unfolds : RowsUnfold) (back : TightReads) (bs t : List ℕ) where
  again : (o : Outcome Tables ℕ) → Exactly 16384 1024 2048 1024 2048 64 bs o → tidied_outcome o ≡ Ok t → tidied t ≡ Ok t
  again (accepted s y) h e =
      let is = tables_text s (verdict s 64) t e in
      let small = (unfolds s h.lawful).small (length s.1 - 1) (let some = h.lawful.term_count.0 in omega arith) in
      let same : rule_of s ≡ h.term = h.stands in
      let read : ReadsAs 1024 2048 64 (text_of s) (rule_of s) =
      back 1024 2048 64 (rule_of s) small is.1
      (subst (Enough 1024 2048 64) (sym same) (record { for_types = h.readable.for_types; for_terms = h.readable.for_terms; for_opens = h.readable.for_opens })) in
      let rows = h.rows ∙ ap rows_of (sym same) in
      ap tidied is.0 ∙ ap tidied_outcome (read.reads ∙ ap (λ q. accepted q read.row) (sym rows)) ∙ e
  again (refused_at f p) h e = let z : ◌≡◌ {A = ℕ} 0 1 = cc in absurd (omega arith)

  stays : tidied bs ≡ Ok t → Stays t
  stays e =
      let text = again (outcome_within 16384 1024 2048 1024 2048 64 bs) (exactly 1024 2048 64 bs) e in
      record { text = text; whole = ap (λ l. line (tidied l)) (chomped_line t) ∙ ap line text }

pub tidy_stays : ReadsExactly 16384 1024 2048 → RowsUnfold → TightReads → TidyStays
tidy_stays exactly unfolds back bs t e = stays exactly unfolds back bs t e
