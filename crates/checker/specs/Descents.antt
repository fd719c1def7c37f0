-- What the rows of a table mean, each by what the rows before it mean.
use Rattle.std.specs.Prelude.{List, [], ◌∷◌, ◌++◌}

abbrev pub rows_as : {R X : Type 0} → (List X → R → X) → List X → List R → List X
rows_as f done [] = done
rows_as f done (r ∷ rs) = rows_as f (done ++ f done r ∷ []) rs
