-- Lists all of whose entries have a property.
use Rattle.std.specs.Prelude.{List, [], ◌∷◌}

abbrev pub All : {X : Type 0} → (X → Type 0) → List X → Type 0
All P [] = Unit {0}
All P (x ∷ xs) = P x × All P xs
