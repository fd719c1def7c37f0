-- A passed sheet by its tables.
use Rattle.theory.specs.Emit.{Tables}
use Rattle.checker.specs.declared.sheet.Passed.{Passed}

-- the two tables that a passed sheet holds
abbrev pub tables : Passed → Tables
tables s = (s.types.now, s.terms.now)
