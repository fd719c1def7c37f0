-- What a refusal refuses, and what it means.
use Rattle.std.specs.Prelude.{ℕ, List}
use Rattle.listing.specs.declared.refusal.Refusal.{Refusal}
use Rattle.listing.specs.declared.refusal.Refusal.TheVariants.{Reading, Checking, Writing}
use Rattle.formatter.specs.Words.{reading_words, checking_words, writing_words}
use Rattle.formatter.specs.Lines.{Refused, in_reading, in_checking, in_writing}

-- what was refused
abbrev pub refused : Refusal → Refused
refused (Reading f) = in_reading f.fault f.place
refused (Checking f) = in_checking f.fault f.row
refused (Writing f) = in_writing f

abbrev pub words_of : Refusal → List ℕ
words_of (Reading f) = reading_words f.fault
words_of (Checking f) = checking_words f.fault
words_of (Writing f) = writing_words f
