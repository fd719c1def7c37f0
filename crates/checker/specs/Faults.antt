-- The numbers by which the faults of tables are refused.
use Rattle.std.specs.Prelude.{ℕ}
use Rattle.checker.specs.declared.refusal.Fault.{Fault}
use Rattle.checker.specs.declared.refusal.Fault.TheVariants.{TableSize, BadType, BadTerm, PartUse, TooDeep, Untyped, NotNat}

abbrev pub number : Fault → ℕ
number TableSize = 21
number BadType = 22
number BadTerm = 23
number PartUse = 24
number TooDeep = 25
number Untyped = 26
number NotNat = 27
