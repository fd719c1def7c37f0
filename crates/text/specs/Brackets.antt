-- The open brackets of the code, as those of the definitions, and what its steps answer.
use Rattle.std.specs.Prelude.{◌≡◌, ℕ, suc, ◌-◌, cond, List, [], ◌∷◌, ◌++◌, map, length, take, Some, None, Ok, Err, Option, Result, nat_lt}
use Rattle.rows.specs.declared.stack.Stack.{Stack}
use Rattle.rows.specs.Forms.{types, parts}
use Rattle.rows.specs.Views.{view, room}
use Rattle.theory.specs.Emit.{Tables}
use Rattle.grammar.specs.declared.fault.Fault.{Fault}
use Rattle.grammar.specs.TableMaker.{into_tables}
use Rattle.grammar.specs.Tokens.{Tok, token, trimmed}
use Rattle.grammar.specs.Reader as m
use Rattle.grammar.specs.Reader.{Bracket, Outcome}
use Rattle.text.specs.declared.opens.Parts.{Parts}
use Rattle.text.specs.declared.opens.OpenForm.{OpenForm}
use Rattle.text.specs.declared.opens.OpenForm.TheVariants as o
use Rattle.text.specs.declared.opens.Refusal.{Refusal}
use Rattle.text.specs.declared.opens.Want.{Want}
use Rattle.text.specs.declared.opens.Want.TheVariants as w
use Rattle.text.specs.declared.opens.Part.{Part}
use Rattle.text.specs.declared.opens.Part.TheVariants as p
use Rattle.text.specs.declared.opens.Reader.{Reader}

-- the rows that are there
abbrev pub listed : Parts → List ℕ
listed p = take p.count p.rows

abbrev pub bracket : OpenForm → Bracket ℕ ℕ
bracket o.TermWord = m.term_word
bracket o.TypeWord = m.type_word
bracket (o.Type s p) = m.open_type s (listed p)
bracket (o.Term f p q) = m.open_term f (listed p) (listed q)

abbrev pub brackets : Stack OpenForm → List (Bracket ℕ ℕ)
brackets s = map bracket (view s)

abbrev pub want : Want → m.Want
want w.Term = m.a_term
want w.Type = m.a_type
want w.TermWord = m.a_term_word
want w.TypeWord = m.a_type_word
want w.Close = m.a_close

-- an answer, with the tables and open brackets that go with it, as a turn
abbrev pub turned : Result (Option ℕ) Fault → Tables → List (Bracket ℕ ℕ) → m.Turn Tables ℕ ℕ
turned (Ok None) s fs = m.go s fs
turned (Ok (Some y)) s fs = m.done s y
turned (Err k) s fs = m.stop k

-- a whole type or term goes into the bracket around it
abbrev pub given : Part → Tables → List (Bracket ℕ ℕ) → m.Turn Tables ℕ ℕ
given (p.Type x) s fs = m.give_type s x fs
given (p.Term y) s fs = m.give s y fs

abbrev pub each : Option OpenForm → Option (Bracket ℕ ℕ)
each None = None
each (Some o) = Some (bracket o)

-- an open bracket with one part more
abbrev pub with_part : Bracket ℕ ℕ → Part → Option (Bracket ℕ ℕ)
with_part m.term_word q = None
with_part m.type_word q = None
with_part (m.open_type k xs) (p.Type x) = cond (nat_lt (length xs) 2) (Some (m.open_type k (xs ++ x ∷ []))) None
with_part (m.open_type k xs) (p.Term y) = None
with_part (m.open_term f xs ys) (p.Type x) = cond (nat_lt (length xs) (types f)) (Some (m.open_term f (xs ++ x ∷ []) ys)) None
with_part (m.open_term f xs ys) (p.Term y) = cond (nat_lt (length ys) (parts f)) (Some (m.open_term f xs (ys ++ y ∷ []))) None

-- the rows made so far
abbrev pub rows_of : Reader → Tables
rows_of r = (take r.made.types r.types.now, take r.made.terms r.terms.now)

-- an answer, with what it leaves, as a turn
abbrev pub met : Result (Option ℕ) Fault → Reader → m.Turn Tables ℕ ℕ
met a r = turned a (rows_of r) (brackets r.opens.now)

-- a reader still has the same slices and room
pub record Same (old new : Reader) : Type 0 where
  pub types : new.types.ghost_name ≡ old.types.ghost_name
  pub terms : new.terms.ghost_name ≡ old.terms.ghost_name
  pub opens : new.opens.ghost_name ≡ old.opens.ghost_name
  pub type_room : length new.types.now ≡ length old.types.now
  pub term_room : length new.terms.now ≡ length old.terms.now
  pub capacity : room new.opens.now ≡ room old.opens.now

-- what the account says of a token, from the tables and the open brackets that there are
abbrev pub closed_in : Reader → m.Turn Tables ℕ ℕ
closed_in r = m.closed (into_tables (length r.types.now) (length r.terms.now)) (room r.opens.now) (rows_of r) (brackets r.opens.now)

abbrev pub turn_in : Tok → Reader → m.Turn Tables ℕ ℕ
turn_in t r = m.turn (into_tables (length r.types.now) (length r.terms.now)) (room r.opens.now) t (rows_of r) (brackets r.opens.now)

-- an answer, with the rows that go with it, as an outcome
abbrev pub answered : Result ℕ Refusal → Tables → Outcome Tables ℕ
answered (Ok y) s = m.accepted s y
answered (Err f) s = m.refused_at f.fault f.place

-- the reading of bs from there on, as a part of a text that is `long` bytes long
abbrev pub left : ℕ → List ℕ → Reader → Outcome Tables ℕ
left long bs r = m.reading (into_tables (length r.types.now) (length r.terms.now)) (room r.opens.now) long (suc (length bs)) bs (rows_of r) (brackets r.opens.now)

-- the same after a turn that answered a: once the rule is whole, only spaces may follow
abbrev pub on : Option ℕ → ℕ → List ℕ → Reader → Outcome Tables ℕ
on None long bs r = left long bs r
on (Some y) long bs r = m.ended (long - length (trimmed bs)) (rows_of r) y (token (trimmed bs))
