-- The tokens of the code, as those of the definitions.
use Rattle.text.specs.declared.tokens.Token.{Token}
use Rattle.text.specs.declared.tokens.Token.TheVariants as t
use Rattle.std.specs.Prelude.{ℕ, List, Some, None, Ok, Err, Option, Result}
use Rattle.std.specs.Borrow.{Bor}
use Rattle.grammar.specs.declared.fault.Fault.{Fault}
use Rattle.grammar.specs.Tokens.{Tok, Step, lpar, rpar, word, number, name, over, took, refused}

abbrev pub tok : Token → Tok
tok t.Open = lpar
tok t.Close = rpar
tok (t.Word w) = word w.now
tok (t.Number n) = number n
tok (t.Name n) = name n

-- the text's end, a token with the text after it, or what is wrong
abbrev pub step : Result (Option (Token × Bor (List ℕ))) Fault → Step
step (Ok None) = over
step (Ok (Some p)) = took (tok p.0) p.1.now
step (Err k) = refused k

-- a number with the text after it, as it lies in memory
abbrev pub pair : Option (ℕ × Bor (List ℕ)) → Option (ℕ × List ℕ)
pair (Some p) = Some (p.0, p.1.now)
pair None = None
