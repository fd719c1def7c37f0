-- Which texts are a term's: its tokens, with any spaces around them.
use Rattle.std.specs.Prelude.{◌≡◌, ℕ, ◌<◌, ◌≤◌, List, [], ◌∷◌, ◌++◌, length, codes, decimal}
use Rattle.grammar.specs.declared.bytes.Class.TheVariants.{Digit, Letter}
use Rattle.grammar.specs.Bytes.{run}
use Rattle.grammar.specs.Tokens.{Tok, lpar, rpar, word, number, name as hash}
use Rattle.theory.specs.Syntax.{Term}
use Rattle.rows.specs.Limits.{top}
use Rattle.grammar.specs.TermTokens.{toks}

-- the bytes of a token
abbrev pub spelling : Tok → List ℕ
spelling lpar = codes "("
spelling rpar = codes ")"
spelling (word w) = w
spelling (number n) = decimal n
spelling (hash d) = codes "#" ++ decimal d

-- a token may stand right before bs: it is a lawful one, and its run of letters or digits does not go on there
abbrev pub Fits : Tok → List ℕ → Type 0
Fits lpar bs = Unit {0}
Fits rpar bs = Unit {0}
Fits (word w) bs = (0 < length w) × (run Letter w ≡ length w) × (run Letter bs ≡ 0)
Fits (number n) bs = (n ≤ top) × (run Digit bs ≡ 0)
Fits (hash d) bs = (d ≤ top) × (run Digit bs ≡ 0)

-- a text and its tokens
pub data Written : List ℕ → List Tok → Type 0 where
  end : Written [] []
  space : {bs : List ℕ} {ts : List Tok} → Written bs ts → Written (32 ∷ bs) ts
  token : {bs cs : List ℕ} {t : Tok} {ts : List Tok} → bs ≡ spelling t ++ cs → Fits t cs → Written cs ts → Written bs (t ∷ ts)

-- the text of a term
abbrev pub Renders : List ℕ → Term → Type 0
Renders bs e = Written bs (toks e)
