-- Tables in which each row's entry is built from the entries before it.
use Rattle.std.specs.Prelude.{ℕ, suc, Bool, true, ◌&&◌, List, [], ◌∷◌, ◌++◌}

-- The entries xs, and then those of the rows.
unfoldable pub grown : {R X : Type 0} → (List X → R → X) → List X → List R → List X
grown f xs [] = xs
grown f xs (r ∷ rs) = grown f (xs ++ (f xs r ∷ [])) rs

-- The entries of the rows.
abbrev pub built : {R X : Type 0} → (List X → R → X) → List R → List X
built f rs = grown f [] rs

-- Each row passes its test, which is told how many rows stand before it: n before the first.
unfoldable pub lawful : {R : Type 0} → (ℕ → R → Bool) → ℕ → List R → Bool
lawful t n [] = true
lawful t n (r ∷ rs) = t n r && lawful t (suc n) rs
