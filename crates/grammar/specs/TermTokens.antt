-- The tokens of a term, and how many brackets are open at once in them.
use Rattle.std.specs.Prelude.{ℕ, suc, max, List, [], ◌∷◌, ◌++◌, map, codes}
use Rattle.grammar.specs.Tokens.{Tok, lpar, rpar, word, number, name as hash}
use Rattle.theory.specs.Syntax.{Ty, Term}
use Rattle.grammar.specs.Words.{word as word_of, shape_word}
use Rattle.theory.specs.Folds.{Types, fold_type, Terms, fold, most}

abbrev pub joined : List (List Tok) → List Tok
joined [] = []
joined (ts ∷ tss) = ts ++ joined tss

-- a word with types and terms after it, in brackets
abbrev pub between : List ℕ → List (List Tok) → List (List Tok) → List Tok
between w ts es = lpar ∷ word w ∷ (joined ts ++ (joined es ++ rpar ∷ []))

abbrev pub type_tokens : Types (List Tok)
type_tokens = record { natural = word (codes "nat") ∷ []; shape = λ k t u. between (shape_word k) (t ∷ u ∷ []) [] }

abbrev pub toks_type : Ty → List Tok
toks_type T = fold_type type_tokens T

abbrev pub term_tokens : Terms (List Tok)
term_tokens = record { number = λ n. number n ∷ []; called = λ d. hash d ∷ []; form = λ f Ts es. between (word_of f) (map toks_type Ts) es }

abbrev pub toks : Term → List Tok
toks e = fold term_tokens e

-- how many brackets are open at once
abbrev pub type_depths : Types ℕ
type_depths = record { natural = 0; shape = λ k m n. suc (most (m ∷ n ∷ [])) }

abbrev pub depth_type : Ty → ℕ
depth_type T = fold_type type_depths T

abbrev pub term_depths : Terms ℕ
term_depths = record { number = λ n. 0; called = λ d. 0; form = λ f Ts ns. suc (max (most (map depth_type Ts)) (most ns)) }

abbrev pub depth : Term → ℕ
depth e = fold term_depths e
