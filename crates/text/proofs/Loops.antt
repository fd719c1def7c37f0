-- What the reading keeps from token to token.
use Rattle.std.proofs.Common.{◌≡◌, ℕ, suc, ◌≤◌, List, length, false, Some, None, Ok, Option, is_some, refl, sym, ◌∙◌}
use Rattle.rows.specs.Views.{room}
use Rattle.theory.specs.Emit.{Tables}
use Rattle.grammar.specs.Tokens.{Tok, took, token, trimmed}
use Rattle.grammar.specs.Reader.{Bracket, reading}
use Rattle.grammar.specs.TableMaker.{into_tables}
use Rattle.text.specs.declared.opens.Reader.{Reader}
use Rattle.text.specs.Brackets.{rows_of, brackets, met, turn_in, left, on, Same}
use Rattle.text.proofs.Fuel.{at_go, at_done}

-- what a loop over tokens keeps
pub record Sofar (text rest : List ℕ) (row : Option ℕ) (old new : Reader) : Type 0 where
  pub within : length rest ≤ length text
  pub same : Same old new
  pub going : on row (length text) rest new ≡ left (length text) text old

-- limits that are the same numbers give the same reading
moved : (a a' b b' c c' long n : ℕ) (bs : List ℕ) (s : Tables) (fs : List (Bracket ℕ ℕ)) → a' ≡ a → b' ≡ b → c' ≡ c → reading (into_tables a b) c long n bs s fs ≡ reading (into_tables a' b') c' long n bs s fs
moved a a' b b' c c' long n bs s fs p q r = λ i. reading (into_tables (sym p i) (sym q i)) (sym r i) long n bs s fs

-- a token more: what is left after a turn
pub went : (long : ℕ) (rest cs : List ℕ) (row : Option ℕ) (t : Tok) (old new : Reader) → token (trimmed rest) ≡ took t cs → met (Ok row) new ≡ turn_in t old → Same old new → on row long cs new ≡ left long rest old
went long rest cs None t old new k e same =
    let m = into_tables (length old.types.now) (length old.terms.now) in
    sym (at_go m (room old.opens.now) long rest (rows_of old) (brackets old.opens.now) t cs k (rows_of new) (brackets new.opens.now) (sym e)
    ∙ moved _ _ _ _ _ _ long (suc (length cs)) cs (rows_of new) (brackets new.opens.now) same.type_room same.term_room same.capacity)
went long rest cs (Some y) t old new k e same =
    let m = into_tables (length old.types.now) (length old.terms.now) in
    sym (at_done m (room old.opens.now) long rest (rows_of old) (brackets old.opens.now) t cs k (rows_of new) y (sym e))

pub still : (long : ℕ) (bs : List ℕ) (row : Option ℕ) (r : Reader) → is_some row ≡ false → on row long bs r ≡ left long bs r
still long bs None r e = refl
still long bs (Some y) r e = cc

pub same_on : (a b d : Reader) → Same a b → Same b d → Same a d
same_on a b d p q = record {
  types = q.types ∙ p.types;
  terms = q.terms ∙ p.terms;
  opens = q.opens ∙ p.opens;
  type_room = q.type_room ∙ p.type_room;
  term_room = q.term_room ∙ p.term_room;
  capacity = q.capacity ∙ p.capacity;
}
