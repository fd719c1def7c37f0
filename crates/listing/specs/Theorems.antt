-- What the check can say of a text that is read.
use Rattle.std.specs.Prelude.{◌≡◌, ℕ, List, Some}
use Rattle.theory.specs.Emit.{Tables}
use Rattle.grammar.specs.Reader.{accepted}
use Rattle.grammar.specs.Theorems.{outcome_within}
use Rattle.checker.specs.declared.refusal.Fault.{Fault}
use Rattle.checker.specs.declared.refusal.Fault.TheVariants.{TableSize, BadType, BadTerm, PartUse, TooDeep, Untyped, NotNat}
use Rattle.checker.specs.declared.refusal.Refusal.{Refusal}
use Rattle.checker.specs.Verdicts.{verdict}

-- the faults of binders and types; the others are of the rows
abbrev pub OfTyping : Fault → Type 0
OfTyping TableSize = ⊥
OfTyping BadType = ⊥
OfTyping BadTerm = ⊥
OfTyping PartUse = ⊥
OfTyping TooDeep = Unit {0}
OfTyping Untyped = Unit {0}
OfTyping NotNat = Unit {0}

abbrev pub ReadRowsPass : ℕ → ℕ → ℕ → Type 0
ReadRowsPass most_bytes most_types most_terms =
    (types terms opens sight : ℕ) (bs : List ℕ) (s : Tables) (y : ℕ) (f : Refusal)
    → outcome_within most_bytes most_types most_terms types terms opens bs ≡ accepted s y → verdict s sight ≡ Some f → OfTyping f.fault
