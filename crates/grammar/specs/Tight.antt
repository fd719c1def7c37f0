-- The tight text of a term: one space between neighbours, and none inside a bracket's edge or at either end.
use Rattle.std.specs.Prelude.{ℕ, List, [], ◌∷◌, ◌++◌, map, codes, decimal}
use Rattle.theory.specs.Syntax.{Ty, Term}
use Rattle.theory.specs.Folds.{Types, fold_type, Terms, fold}
use Rattle.grammar.specs.Words.{word as word_of, shape_word}

-- each text with a space before it
abbrev pub spaced : List (List ℕ) → List ℕ
spaced [] = []
spaced (t ∷ ts) = codes " " ++ (t ++ spaced ts)

-- a word with types and terms after it, in brackets
abbrev pub bracketed : List ℕ → List (List ℕ) → List (List ℕ) → List ℕ
bracketed w ts es = codes "(" ++ (w ++ (spaced ts ++ (spaced es ++ codes ")")))

abbrev pub tight_types : Types (List ℕ)
tight_types = record { natural = codes "nat"; shape = λ k t u. bracketed (shape_word k) (t ∷ u ∷ []) [] }

abbrev pub tight_type : Ty → List ℕ
tight_type T = fold_type tight_types T

abbrev pub tight_terms : Terms (List ℕ)
tight_terms = record { number = λ n. decimal n; called = λ d. codes "#" ++ decimal d; form = λ f Ts es. bracketed (word_of f) (map tight_type Ts) es }

abbrev pub tight : Term → List ℕ
tight e = fold tight_terms e
