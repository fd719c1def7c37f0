-- Reading, a token at a time, by what the open brackets still want. It is stated over any way of making types and
-- terms: what is made of them does not decide which tokens may come.
use Rattle.std.specs.Prelude.{ℕ, zero, suc, ◌-◌, cond, List, [], ◌∷◌, ◌++◌, length, Some, None, codes, Option, nat_lt, slice_index_or}
use Rattle.grammar.specs.declared.fault.Fault.{Fault}
use Rattle.grammar.specs.declared.fault.Fault.TheVariants.{Misplaced, TooDeep, NoTypeRow, NoTermRow}
use Rattle.grammar.specs.Tokens.{Tok, Step, lpar, rpar, word, number, name, over, took, refused, token, trimmed}
use Rattle.rows.specs.declared.forms.Form.{Form}
use Rattle.rows.specs.declared.forms.Shape.{Shape}
use Rattle.rows.specs.Forms.{types, parts}
use Rattle.grammar.specs.Words.{form_of, shape_of, same}

-- a way of making types and terms: s is what has been made so far, an x stands for a type and a y for a term; nothing
-- is made where no row is left
pub record Maker (S X Y : Type 0) : Type 0 where
  pub natural : X
  pub shape : Shape → X → X → S → Option (S × X)
  pub leaf : ℕ → ℕ → S → Option (S × Y)
  pub form : Form → List X → List Y → S → Option (S × Y)

-- an open bracket: its word is still wanted, or it has a word and holds these types and terms so far
pub data Bracket (X Y : Type 0) : Type 0 where
  term_word : Bracket X Y
  type_word : Bracket X Y
  open_type : Shape → List X → Bracket X Y
  open_term : Form → List X → List Y → Bracket X Y

-- what the next token has to begin, or to be
pub data Want : Type 0 where
  a_term : Want
  a_type : Want
  a_term_word : Want
  a_type_word : Want
  a_close : Want

abbrev pub wanted : {X Y : Type 0} → List (Bracket X Y) → Want
wanted [] = a_term
wanted (term_word ∷ fs) = a_term_word
wanted (type_word ∷ fs) = a_type_word
wanted (open_type s xs ∷ fs) = cond (nat_lt (length xs) 2) a_type a_close
wanted (open_term f xs ys ∷ fs) = cond (nat_lt (length xs) (types f)) a_type (cond (nat_lt (length ys) (parts f)) a_term a_close)

-- what a token leads to: brackets that are open, the whole rule, or a fault
pub data Turn (S X Y : Type 0) : Type 0 where
  go : S → List (Bracket X Y) → Turn S X Y
  done : S → Y → Turn S X Y
  stop : Fault → Turn S X Y

-- a whole term goes into the bracket around it
abbrev pub give : {S X Y : Type 0} → S → Y → List (Bracket X Y) → Turn S X Y
give s y [] = done s y
give s y (term_word ∷ fs) = stop Misplaced
give s y (type_word ∷ fs) = stop Misplaced
give s y (open_type k xs ∷ fs) = stop Misplaced
give s y (open_term f xs ys ∷ fs) = cond (nat_lt (length ys) (parts f)) (go s (open_term f xs (ys ++ y ∷ []) ∷ fs)) (stop Misplaced)

-- and so does a type
abbrev pub give_type : {S X Y : Type 0} → S → X → List (Bracket X Y) → Turn S X Y
give_type s x [] = stop Misplaced
give_type s x (term_word ∷ fs) = stop Misplaced
give_type s x (type_word ∷ fs) = stop Misplaced
give_type s x (open_type k xs ∷ fs) = cond (nat_lt (length xs) 2) (go s (open_type k (xs ++ x ∷ []) ∷ fs)) (stop Misplaced)
give_type s x (open_term f xs ys ∷ fs) = cond (nat_lt (length xs) (types f)) (go s (open_term f (xs ++ x ∷ []) ys ∷ fs)) (stop Misplaced)

abbrev pub made : {S X Y : Type 0} → Option (S × Y) → List (Bracket X Y) → Turn S X Y
made None fs = stop NoTermRow
made (Some p) fs = give p.0 p.1 fs

abbrev pub made_type : {S X Y : Type 0} → Option (S × X) → List (Bracket X Y) → Turn S X Y
made_type None fs = stop NoTypeRow
made_type (Some p) fs = give_type p.0 p.1 fs

-- a bracket more, where there is an open row for it
abbrev pub opened : {S X Y : Type 0} → ℕ → Bracket X Y → S → List (Bracket X Y) → Turn S X Y
opened room f s fs = cond (nat_lt (length fs) room) (go s (f ∷ fs)) (stop TooDeep)

-- the word of the bracket on top
abbrev pub replaced : {S X Y : Type 0} → Option (Bracket X Y) → S → List (Bracket X Y) → Turn S X Y
replaced None s fs = stop Misplaced
replaced (Some f) s [] = stop Misplaced
replaced (Some f) s (g ∷ fs) = go s (f ∷ fs)

abbrev pub as_form : {X Y : Type 0} → Option Form → Option (Bracket X Y)
as_form None = None
as_form (Some f) = Some (open_term f [] [])

abbrev pub as_shape : {X Y : Type 0} → Option Shape → Option (Bracket X Y)
as_shape None = None
as_shape (Some s) = Some (open_type s [])

module _ {S X Y : Type 0} (m : Maker S X Y) (room : ℕ) where
  -- the bracket on top closes
  abbrev pub closed : S → List (Bracket X Y) → Turn S X Y
  closed s [] = stop Misplaced
  closed s (term_word ∷ fs) = stop Misplaced
  closed s (type_word ∷ fs) = stop Misplaced
  closed s (open_type k xs ∷ fs) = made_type (m.shape k (slice_index_or xs 0 m.natural) (slice_index_or xs 1 m.natural) s) fs
  closed s (open_term f xs ys ∷ fs) = made (m.form f xs ys s) fs

  -- a token where this is wanted
  abbrev pub meet : Want → Tok → S → List (Bracket X Y) → Turn S X Y
  meet a_term lpar s fs = opened room term_word s fs
  meet a_term rpar s fs = stop Misplaced
  meet a_term (word w) s fs = stop Misplaced
  meet a_term (number n) s fs = made (m.leaf 0 n s) fs
  meet a_term (name n) s fs = made (m.leaf 1 n s) fs
  meet a_type lpar s fs = opened room type_word s fs
  meet a_type rpar s fs = stop Misplaced
  meet a_type (word w) s fs = cond (same w (codes "nat")) (give_type s m.natural fs) (stop Misplaced)
  meet a_type (number n) s fs = stop Misplaced
  meet a_type (name n) s fs = stop Misplaced
  meet a_term_word lpar s fs = stop Misplaced
  meet a_term_word rpar s fs = stop Misplaced
  meet a_term_word (word w) s fs = replaced (as_form (form_of w)) s fs
  meet a_term_word (number n) s fs = stop Misplaced
  meet a_term_word (name n) s fs = stop Misplaced
  meet a_type_word lpar s fs = stop Misplaced
  meet a_type_word rpar s fs = stop Misplaced
  meet a_type_word (word w) s fs = replaced (as_shape (shape_of w)) s fs
  meet a_type_word (number n) s fs = stop Misplaced
  meet a_type_word (name n) s fs = stop Misplaced
  meet a_close lpar s fs = stop Misplaced
  meet a_close rpar s fs = closed s fs
  meet a_close (word w) s fs = stop Misplaced
  meet a_close (number n) s fs = stop Misplaced
  meet a_close (name n) s fs = stop Misplaced

  abbrev pub turn : Tok → S → List (Bracket X Y) → Turn S X Y
  turn t s fs = meet (wanted fs) t s fs

-- a whole reading: what was made and the rule, or a fault and its place
pub data Outcome (S Y : Type 0) : Type 0 where
  accepted : S → Y → Outcome S Y
  refused_at : Fault → ℕ → Outcome S Y

-- after the rule only spaces may follow
abbrev pub ended : {S Y : Type 0} → ℕ → S → Y → Step → Outcome S Y
ended place s y over = accepted s y
ended place s y (took t bs) = refused_at Misplaced place
ended place s y (refused n) = refused_at n place

module _ {S X Y : Type 0} (m : Maker S X Y) (room : ℕ) (long : ℕ) where
  -- the place of the next token: what is left of the text, counted from its end
  abbrev pub place : List ℕ → ℕ
  place bs = long - length (trimmed bs)

  -- after a turn, with `on` for the rest of the reading
  abbrev pub after_turn : (List ℕ → S → List (Bracket X Y) → Outcome S Y) → ℕ → List ℕ → Turn S X Y → Outcome S Y
  after_turn on at bs (go s fs) = on bs s fs
  after_turn on at bs (done s y) = ended (place bs) s y (token (trimmed bs))
  after_turn on at bs (stop k) = refused_at k at

  abbrev pub after_token : (List ℕ → S → List (Bracket X Y) → Outcome S Y) → ℕ → Step → S → List (Bracket X Y) → Outcome S Y
  after_token on at over s fs = refused_at Misplaced long
  after_token on at (refused k) s fs = refused_at k at
  after_token on at (took t bs) s fs = after_turn on at bs (turn m room t s fs)

  -- each token takes a byte, so that as many turns as there are bytes and one more suffice
  abbrev pub reading : ℕ → List ℕ → S → List (Bracket X Y) → Outcome S Y
  reading zero bs s fs = refused_at Misplaced long
  reading (suc n) bs s fs = after_token (reading n) (place bs) (token (trimmed bs)) s fs

  abbrev pub read : List ℕ → S → Outcome S Y
  read bs s = reading (suc (length bs)) bs s []
