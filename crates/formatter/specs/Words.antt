-- What refusals mean, in words.
use Rattle.std.specs.Prelude.{ℕ, List, codes}
use Rattle.grammar.specs.declared.fault.Fault.{Fault as TextFault}
use Rattle.grammar.specs.declared.fault.Fault.TheVariants as text
use Rattle.checker.specs.declared.refusal.Fault.{Fault as TableFault}
use Rattle.checker.specs.declared.refusal.Fault.TheVariants as table
use Rattle.text.specs.declared.refusal.WriteRefusal.{WriteRefusal}
use Rattle.text.specs.declared.refusal.WriteRefusal.TheVariants.{NoRoom}

-- of reading, with a byte for its place
abbrev pub reading_words : TextFault → List ℕ
reading_words text.TooLong = codes "the text is longer than 16384 bytes"
reading_words text.BadByte = codes "a byte that begins no token"
reading_words text.BadNumber = codes "digits that are missing, begin with a needless 0 or write more than 999999999"
reading_words text.Misplaced = codes "a token that the forms do not allow here, or an early end"
reading_words text.TooDeep = codes "a bracket for which no open row is left"
reading_words text.NoTypeRow = codes "a type for which no type row is left"
reading_words text.NoTermRow = codes "a term for which no term row is left"

-- of checking, with a row for its place
abbrev pub checking_words : TableFault → List ℕ
checking_words table.TableSize = codes "a table with no row, or with too many"
checking_words table.BadType = codes "a type row that breaks the laws of tables"
checking_words table.BadTerm = codes "a term row that breaks the laws of tables"
checking_words table.PartUse = codes "a row that is not a part exactly once"
checking_words table.TooDeep = codes "a row under more binders than there are sight rows"
checking_words table.Untyped = codes "a row that has no type"
checking_words table.NotNat = codes "a rule whose type is not nat"

-- of writing, at no place
abbrev pub writing_words : WriteRefusal → List ℕ
writing_words NoRoom = codes "a text longer than 16384 bytes"
