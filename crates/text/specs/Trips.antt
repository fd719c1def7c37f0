-- What writing a passed sheet answers and leaves in the buffer, and how that is read again.
use Rattle.std.specs.Prelude.{◌≡◌, ℕ, ◌+◌, ◌<◌, ◌≤◌, min, Bool, cond, List, length, take, Ok, Err, Result, nat_le}
use Rattle.std.proofs.lemmas.List.Edits.{sets}
use Rattle.rows.specs.Limits.{top}
use Rattle.theory.specs.Syntax.{Term}
use Rattle.theory.specs.Folds.{largest}
use Rattle.theory.specs.Emit.{Tables, rows_of}
use Rattle.theory.specs.Stands.{rule_of}
use Rattle.grammar.specs.TermTokens.{depth}
use Rattle.grammar.specs.Tight.{tight}
use Rattle.grammar.specs.Reader.{accepted}
use Rattle.grammar.specs.Theorems.{outcome_within}
use Rattle.text.specs.declared.refusal.WriteRefusal.{WriteRefusal}
use Rattle.text.specs.declared.refusal.WriteRefusal.TheVariants.{NoRoom}

-- the text of two tables: the tight text of their rule
abbrev pub text_of : Tables → List ℕ
text_of s = tight (rule_of s)

-- whether a text is no longer than a buffer and than the longest text
abbrev pub fits : List ℕ → List ℕ → Bool
fits text buffer = nat_le (length text) (min (length buffer) 16384)

-- its length, or a refusal
abbrev pub written : List ℕ → List ℕ → Result ℕ WriteRefusal
written text buffer = cond (fits text buffer) (Ok (length text)) (Err NoRoom)

-- the buffer then: the text at its front, and all else as it was
abbrev pub stored : List ℕ → List ℕ → List ℕ
stored text buffer = cond (fits text buffer) (sets buffer 0 text) buffer

-- so many rows suffice to read a term
pub record Enough (types terms opens : ℕ) (e : Term) : Type 0 where
  pub for_types : length (rows_of e).0 ≤ min types 1024
  pub for_terms : length (rows_of e).1 ≤ min terms 2048
  pub for_opens : depth e ≤ opens

-- bs is read, with so many rows handed over, as the rows of a term, and they stand for it
pub record ReadsAs (types terms opens : ℕ) (bs : List ℕ) (e : Term) : Type 0 where
  pub row : ℕ
  pub reads : outcome_within 16384 1024 2048 types terms opens bs ≡ accepted (rows_of e) row
  pub stands : rule_of (rows_of e) ≡ e

-- the tight text of a term is read as that term, where it is not too long and the rows suffice
abbrev pub TightReads : Type 0
TightReads = (types terms opens : ℕ) (e : Term) → largest e ≤ top → length (tight e) ≤ 16384 → Enough types terms opens e → ReadsAs types terms opens (tight e) e

-- what is written of two tables, the first n bytes of the buffer, is read as the term that they stand for, with as many
-- rows of both kinds as theirs or more, and open rows enough
abbrev pub ReadsBack : Result ℕ WriteRefusal → Tables → List ℕ → Type 0
ReadsBack (Ok n) s buffer =
    (types terms opens : ℕ) → length s.0 ≤ types → length s.1 ≤ terms → depth (rule_of s) ≤ opens
    → ReadsAs types terms opens (take n buffer) (rule_of s)
ReadsBack (Err f) s buffer = Unit {0}

-- as many open rows as there are rows in both tables are enough
abbrev pub OpensEnough : Tables → Type 0
OpensEnough s = depth (rule_of s) ≤ length s.0 + length s.1

-- a tight text: that of a term whose numbers are at most the largest
pub record TightText (bs : List ℕ) : Type 0 where
  pub term : Term
  pub small : largest term ≤ top
  pub text : bs ≡ tight term

-- a tight text that was read as two tables is what is written of them, byte for byte, unless the buffer is shorter
abbrev pub WritesBack : Result ℕ WriteRefusal → Tables → List ℕ → Type 0
WritesBack (Ok n) s buffer = (types terms opens y : ℕ) (bs : List ℕ) → TightText bs → outcome_within 16384 1024 2048 types terms opens bs ≡ accepted s y → take n buffer ≡ bs
WritesBack (Err f) s buffer = (types terms opens y : ℕ) (bs : List ℕ) → TightText bs → outcome_within 16384 1024 2048 types terms opens bs ≡ accepted s y → length buffer < length bs
