-- What reading and checking a rule gives, and how a refusal is shown.
use Rattle.std.specs.Prelude.{ℕ, List, ◌++◌, Some, None, Ok, Err, codes, decimal, Option, Result}
use Rattle.theory.specs.Emit.{Tables}
use Rattle.grammar.specs.Faults.{number as text_number}
use Rattle.grammar.specs.Reader.{Outcome, accepted, refused_at}
use Rattle.grammar.specs.Theorems.{outcome_within}
use Rattle.checker.specs.declared.refusal.Refusal.{Refusal as TableRefusal}
use Rattle.checker.specs.declared.sheet.Passed.{Passed}
use Rattle.checker.specs.Sheets.{tables}
use Rattle.checker.specs.Faults.{number as table_number}
use Rattle.checker.specs.Verdicts.{verdict}
use Rattle.text.specs.WriteFaults.{number as write_number}
use Rattle.listing.specs.declared.refusal.Refusal.{Refusal}
use Rattle.listing.specs.declared.refusal.Refusal.TheVariants.{Reading, Checking, Writing}

-- the number and the place of a refusal
abbrev pub number_of : Refusal → ℕ
number_of (Reading f) = text_number f.fault
number_of (Checking f) = table_number f.fault
number_of (Writing f) = write_number f

abbrev pub place_of : Refusal → ℕ
place_of (Reading f) = f.place
place_of (Checking f) = f.row
place_of (Writing f) = 0

-- a refusal in words
abbrev pub refusal_text : ℕ → ℕ → List ℕ
refusal_text n p = codes "refused " ++ (decimal n ++ (codes " place " ++ decimal p))

-- two tables that the check passes, or its refusal
abbrev pub judged_tables : Tables → Option TableRefusal → Result Tables Refusal
judged_tables s None = Ok s
judged_tables s (Some f) = Err (Checking f)

-- those of a reading, checked with so many sight rows, or its refusal
abbrev pub judged_outcome : ℕ → Outcome Tables ℕ → Result Tables Refusal
judged_outcome sight (accepted s y) = judged_tables s (verdict s sight)
judged_outcome sight (refused_at f p) = Err (Reading (record { fault = f; place = p }))

-- those of a text, read with the most rows and with 64 open rows
abbrev pub judged : ℕ → List ℕ → Result Tables Refusal
judged sight bs = judged_outcome sight (outcome_within 16384 1024 2048 1024 2048 64 bs)

-- the tables of a sheet, or its refusal
abbrev pub sheet_tables : Result Passed Refusal → Result Tables Refusal
sheet_tables (Ok sheet) = Ok (tables sheet)
sheet_tables (Err f) = Err f
