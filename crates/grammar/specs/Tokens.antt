-- The token at the front of a text.
use Rattle.std.specs.Prelude.{ℕ, Bool, true, false, cond, List, [], ◌∷◌, take, drop, Some, None, Option, ◌==◌, nat_le}
use Rattle.grammar.specs.declared.bytes.Class.{Class}
use Rattle.grammar.specs.declared.bytes.Class.TheVariants.{Space, Open, Close, Hash, Digit, Letter, Other}
use Rattle.grammar.specs.declared.fault.Fault.{Fault}
use Rattle.grammar.specs.declared.fault.Fault.TheVariants.{BadByte, BadNumber}
use Rattle.rows.specs.Limits.{top}
use Rattle.grammar.specs.Bytes.{class, run, value}

pub data Tok : Type 0 where
  lpar : Tok
  rpar : Tok
  word : List ℕ → Tok
  number : ℕ → Tok
  name : ℕ → Tok

-- what is at the front of a text: its end, a token with the text after it, or a fault
pub data Step : Type 0 where
  over : Step
  took : Tok → List ℕ → Step
  refused : Fault → Step

-- digits that write a number no larger than the largest amount, with no needless 0 in front
abbrev pub lawful : List ℕ → Bool
lawful [] = false
lawful (d ∷ []) = true
lawful (d ∷ e ∷ ds) = cond (d == 48) false (nat_le (value (d ∷ e ∷ ds) 0) top)

-- the number at the front, and the text after it
abbrev pub numeral : List ℕ → Option (ℕ × List ℕ)
numeral bs = cond (lawful (take (run Digit bs) bs)) (Some (value (take (run Digit bs) bs) 0, drop (run Digit bs) bs)) None

-- that number as a token of the kind given
abbrev pub numbered : (ℕ → Tok) → Option (ℕ × List ℕ) → Step
numbered f (Some p) = took (f p.0) p.1
numbered f None = refused BadNumber

-- the token of a text whose first byte is of class k
abbrev pub begun : Class → List ℕ → Step
begun Space bs = refused BadByte
begun Open bs = took lpar (drop 1 bs)
begun Close bs = took rpar (drop 1 bs)
begun Hash bs = numbered name (numeral (drop 1 bs))
begun Digit bs = numbered number (numeral bs)
begun Letter bs = took (word (take (run Letter bs) bs)) (drop (run Letter bs) bs)
begun Other bs = refused BadByte

-- the token at the front of a text that begins with no space
abbrev pub token : List ℕ → Step
token [] = over
token (b ∷ bs) = begun (class b) (b ∷ bs)

-- a text without the spaces at its front
abbrev pub trimmed : List ℕ → List ℕ
trimmed bs = drop (run Space bs) bs
