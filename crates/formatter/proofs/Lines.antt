-- What is read, checked and written, and the line of what is refused.
use Rattle.std.proofs.Common.{◌≡◌, ℕ, ◌+◌, min, Bool, true, false, cond, leb, List, ◌++◌, length, take, drop, Some, None, Ok, Err, Option, codes, decimal, sym, refl, ap, ◌∙◌, append_assoc, arith}
use lib.Seq.{sets, sets-eq}
use Rattle.std.proofs.lemmas.List.{take_at}
use Rattle.std.proofs.lemmas.Bool.{leb-true}
use Rattle.theory.specs.Emit.{Tables}
use Rattle.grammar.specs.Reader.{Outcome, accepted, refused_at}
use Rattle.checker.specs.declared.refusal.Refusal.{Refusal as TableRefusal}
use Rattle.checker.specs.Verdicts.{verdict}
use Rattle.text.specs.declared.refusal.WriteRefusal.TheVariants.{NoRoom}
use Rattle.text.specs.Trips.{text_of, fits, written, stored}
use Rattle.listing.specs.declared.refusal.Refusal.{Refusal}
use Rattle.listing.specs.declared.refusal.Refusal.TheVariants.{Reading, Checking, Writing}
use Rattle.listing.specs.Refusals.{number_of, place_of, refusal_text, judged_tables, judged_outcome}
use Rattle.formatter.specs.Lines.{in_writing, tidied_tables, tidied_outcome, newline, refusal_line, refused_line}
use Rattle.formatter.specs.Refusals.{refused, words_of}

-- ---- the rule judged

tables_judged : (s : Tables) (v : Option TableRefusal) (t : Tables) → Ok t ≡ judged_tables s v → tidied_tables s v ≡ tidied_tables t None
tables_judged s None t e = let same : s ≡ t = cc in ap (λ r. tidied_tables r None) same
tables_judged s (Some g) t e = let z : ◌≡◌ {A = ℕ} 0 1 = cc in absurd (omega arith)

pub judged : (o : Outcome Tables ℕ) (t : Tables) → Ok t ≡ judged_outcome 64 o → tidied_outcome o ≡ tidied_tables t None
judged (accepted s y) t e = tables_judged s (verdict s 64) t e
judged (refused_at k p) t e = let z : ◌≡◌ {A = ℕ} 0 1 = cc in absurd (omega arith)

-- ---- what is written of them

fits_most : (text old : List ℕ) → length old ≡ 16384 → fits text old ≡ leb (length text) 16384
fits_most text old e = ap (leb (length text)) (omega arith)

pub wrote : (s : Tables) (old new : List ℕ) (n : ℕ) → length old ≡ 16384 → Ok n ≡ written (text_of s) old → new ≡ stored (text_of s) old → tidied_tables s None ≡ Ok (take n new)
wrote s old new n long a b = go (fits (text_of s) old) refl
  where
    go : (t : Bool) → fits (text_of s) old ≡ t → tidied_tables s None ≡ Ok (take n new)
    go true h =
        let le = leb-true (length (text_of s)) (min (length old) 16384) h in
        let is : Ok n ≡ Ok (length (text_of s)) = a ∙ ap (λ t. cond t (Ok (length (text_of s))) (Err NoRoom)) h in
        let same : n ≡ length (text_of s) = cc in
        let bytes : new ≡ sets old 0 (text_of s) = b ∙ ap (λ t. cond t (sets old 0 (text_of s)) old) h in
        let front : take n new ≡ text_of s = (λ i. take n (bytes i)) ∙ ap (take n) (sets-eq (text_of s) old 0 (omega arith)) ∙ take_at (text_of s) (drop (0 + length (text_of s)) old) n (omega arith) in
        ap (λ t. cond t (Ok (text_of s)) (Err (in_writing NoRoom))) (sym (fits_most (text_of s) old long) ∙ h) ∙ ap Ok (sym front)
    go false h =
        let is : Ok n ≡ Err NoRoom = a ∙ ap (λ t. cond t (Ok (length (text_of s))) (Err NoRoom)) h in
        let z : ◌≡◌ {A = ℕ} 0 1 = cc in
        absurd (omega arith)

-- ---- the line of a refusal

words_line : (n p : ℕ) (w : List ℕ) → refusal_text n p ++ (codes ": " ++ (w ++ newline)) ≡ refusal_line n p w
words_line n p w =
    let rest = codes ": " ++ (w ++ newline) in
    append_assoc (codes "refused ") _ rest ∙ ap (λ l. codes "refused " ++ l) (append_assoc (decimal n) _ rest ∙ ap (λ l. decimal n ++ l) (append_assoc (codes " place ") (decimal p) rest))

pub refusal_shown : (f : Refusal) → refusal_text (number_of f) (place_of f) ++ (codes ": " ++ (words_of f ++ newline)) ≡ refused_line (refused f)
refusal_shown (Reading f) = words_line (number_of (Reading f)) f.place (words_of (Reading f))
refusal_shown (Checking f) = words_line (number_of (Checking f)) f.row (words_of (Checking f))
refusal_shown (Writing f) = words_line (number_of (Writing f)) 0 (words_of (Writing f))
