-- The number by which a writing is refused.
use Rattle.std.specs.Prelude.{ℕ}
use Rattle.text.specs.declared.refusal.WriteRefusal.{WriteRefusal}
use Rattle.text.specs.declared.refusal.WriteRefusal.TheVariants.{NoRoom}

abbrev pub number : WriteRefusal → ℕ
number NoRoom = 51
