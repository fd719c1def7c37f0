-- The numbers by which the faults of a text are refused.
use Rattle.std.specs.Prelude.{ℕ}
use Rattle.grammar.specs.declared.fault.Fault.{Fault}
use Rattle.grammar.specs.declared.fault.Fault.TheVariants.{TooLong, BadByte, BadNumber, Misplaced, TooDeep, NoTypeRow, NoTermRow}

abbrev pub number : Fault → ℕ
number TooLong = 10
number BadByte = 11
number BadNumber = 12
number Misplaced = 13
number TooDeep = 14
number NoTypeRow = 15
number NoTermRow = 16
