-- A rule's text made tight, and the line that shows it.
use Rattle.std.specs.Prelude.{ℕ, ◌-◌, cond, List, [], ◌∷◌, ◌++◌, length, take, Some, None, Ok, Err, codes, decimal, Option, Result, ◌==◌, nat_le, slice_index}
use Rattle.theory.specs.Emit.{Tables}
use Rattle.grammar.specs.declared.fault.Fault.{Fault as TextFault}
use Rattle.grammar.specs.Faults.{number as text_number}
use Rattle.grammar.specs.Reader.{Outcome, accepted, refused_at}
use Rattle.grammar.specs.Theorems.{outcome_within}
use Rattle.checker.specs.declared.refusal.Fault.{Fault as TableFault}
use Rattle.checker.specs.declared.refusal.Refusal.{Refusal}
use Rattle.checker.specs.Faults.{number as table_number}
use Rattle.checker.specs.Verdicts.{verdict}
use Rattle.text.specs.declared.refusal.WriteRefusal.{WriteRefusal}
use Rattle.text.specs.declared.refusal.WriteRefusal.TheVariants.{NoRoom}
use Rattle.text.specs.WriteFaults.{number as write_number}
use Rattle.text.specs.Trips.{text_of}
use Rattle.formatter.specs.Words.{reading_words, checking_words, writing_words}

-- what was refused: the text at a byte, the tables at a row, or the writing
pub data Refused : Type 0 where
  in_reading : TextFault → ℕ → Refused
  in_checking : TableFault → ℕ → Refused
  in_writing : WriteRefusal → Refused

-- the text of two tables by what the check says of them
abbrev pub tidied_tables : Tables → Option Refusal → Result (List ℕ) Refused
tidied_tables s None = cond (nat_le (length (text_of s)) 16384) (Ok (text_of s)) (Err (in_writing NoRoom))
tidied_tables s (Some f) = Err (in_checking f.fault f.row)

-- and by what was read, checked with 64 sight rows
abbrev pub tidied_outcome : Outcome Tables ℕ → Result (List ℕ) Refused
tidied_outcome (accepted s y) = tidied_tables s (verdict s 64)
tidied_outcome (refused_at f p) = Err (in_reading f p)

-- the tight text of a rule's text, read with the most rows and with 64 open rows; or why there is none
abbrev pub tidied : List ℕ → Result (List ℕ) Refused
tidied bs = tidied_outcome (outcome_within 16384 1024 2048 1024 2048 64 bs)

abbrev pub newline : List ℕ
newline = 10 ∷ []

-- a refusal by its number, its place and what it means
abbrev pub refusal_line : ℕ → ℕ → List ℕ → List ℕ
refusal_line n p w = codes "refused " ++ (decimal n ++ (codes " place " ++ (decimal p ++ (codes ": " ++ (w ++ newline)))))

abbrev pub refused_line : Refused → List ℕ
refused_line (in_reading f p) = refusal_line (text_number f) p (reading_words f)
refused_line (in_checking f p) = refusal_line (table_number f) p (checking_words f)
refused_line (in_writing f) = refusal_line (write_number f) 0 (writing_words f)

-- the text, or the refusal, as a line
abbrev pub line : Result (List ℕ) Refused → List ℕ
line (Ok t) = t ++ newline
line (Err f) = refused_line f

-- an input without a line feed at its end
abbrev pub chomped : List ℕ → List ℕ
chomped bs = cond (slice_index bs (length bs - 1) == 10) (take (length bs - 1) bs) bs

-- the line that an input is made into
abbrev pub formatted : List ℕ → List ℕ
formatted input = line (tidied (chomped input))
