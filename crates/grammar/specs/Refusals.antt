-- What the refusal of a text means: its fault and its place, in terms of the texts of terms.
use Rattle.std.specs.Prelude.{◌≡◌, ℕ, suc, ◌+◌, ◌<◌, ◌≤◌, min, List, [], ◌∷◌, ◌++◌, length, take, drop}
use Rattle.theory.specs.Syntax.{Term}
use Rattle.theory.specs.Emit.{rows_of}
use Rattle.grammar.specs.declared.bytes.Class.{Class}
use Rattle.grammar.specs.declared.bytes.Class.TheVariants.{Space, Open, Close, Hash, Digit, Letter, Other}
use Rattle.grammar.specs.declared.fault.Fault.{Fault}
use Rattle.grammar.specs.declared.fault.Fault.TheVariants.{TooLong, BadByte, BadNumber, Misplaced, TooDeep, NoTypeRow, NoTermRow}
use Rattle.grammar.specs.Bytes.{class, run}
use Rattle.grammar.specs.Tokens.{Step, over, took, refused, token}
use Rattle.grammar.specs.TermTokens.{depth}
use Rattle.grammar.specs.Renders.{Renders}
use Rattle.grammar.specs.Reader.{refused_at}
use Rattle.grammar.specs.Theorems.{outcome_within}

-- how many bytes belong together at the front of a text whose first byte is of class k: a run of letters or of digits,
-- digits with the # before them, or one byte
abbrev pub together : Class → List ℕ → ℕ
together Space bs = 1
together Open bs = 1
together Close bs = 1
together Hash bs = suc (run Digit (drop 1 bs))
together Digit bs = run Digit bs
together Letter bs = run Letter bs
together Other bs = 1

-- and at the front of any text
abbrev pub width : List ℕ → ℕ
width [] = 0
width (b ∷ bs) = together (class b) (b ∷ bs)

-- where that which stands at p ends
abbrev pub end_at : List ℕ → ℕ → ℕ
end_at bs p = p + width (drop p bs)

-- two texts have the same bytes up to the end of what stands at p, which ends there in both
abbrev pub Alike : ℕ → List ℕ → List ℕ → Type 0
Alike p bs cs = (take (end_at bs p) cs ≡ take (end_at bs p) bs) × (end_at cs p ≡ end_at bs p)

-- with a space after it, a text begins the text of some term
abbrev pub Begins : List ℕ → Type 0
Begins bs = (cs : List ℕ) × (e : Term) × Renders (bs ++ 32 ∷ cs) e

-- a text may be that of a term up to p, and with what stands there only that of a term which is Out of bounds
pub record UpTo (bs : List ℕ) (p : ℕ) (Out : Term → Type 0) : Type 0 where
  -- the place is in the text, or its end
  pub within : p ≤ length bs
  -- nothing that begins before it goes on past it
  pub apart : (i : ℕ) → i < p → end_at bs i ≤ p
  -- the text before it begins the text of a term
  pub before : Begins (take p bs)
  -- a text of a term that is like this one to the end of what stands there is that of a term which is Out
  pub there : (cs : List ℕ) → Alike p bs cs → (e : Term) → Renders cs e → Out e

-- the fault of what stands where it may not: a lexical fault, or else a token, or the end of the text, is misplaced
abbrev pub fault_of : Step → Fault
fault_of over = Misplaced
fault_of (took t cs) = Misplaced
fault_of (refused k) = k

-- a text goes wrong at p, by the fault of what stands there: no text of a term goes on so
abbrev pub WrongAt : List ℕ → Fault → ℕ → Type 0
WrongAt bs f p = (fault_of (token (drop p bs)) ≡ f) × UpTo bs p (λ e. ⊥)

-- of so many type rows, term rows and open rows, those that a fault says are lacking; none for a fault of the text
abbrev pub kind_of : Fault → ℕ → ℕ → ℕ → ℕ
kind_of TooLong types terms opens = 0
kind_of BadByte types terms opens = 0
kind_of BadNumber types terms opens = 0
kind_of Misplaced types terms opens = 0
kind_of TooDeep types terms opens = opens
kind_of NoTypeRow types terms opens = types
kind_of NoTermRow types terms opens = terms

-- and how many of them a term takes
abbrev pub taken : Fault → Term → ℕ
taken f e = kind_of f (length (rows_of e).0) (length (rows_of e).1) (depth e)

module _ (most_bytes most_types most_terms : ℕ) where
  -- how many of them there are for a reading
  abbrev pub given : Fault → ℕ → ℕ → ℕ → ℕ
  given f types terms opens = kind_of f (min types most_types) (min terms most_terms) opens

  module _ (types terms opens : ℕ) (bs : List ℕ) where
    -- rows run out at p: a token is there that may stand there (if anything is read: nothing is without a row for nat),
    -- but every term with such a text takes more of them than there are
    abbrev pub OutAt : Fault → ℕ → Type 0
    OutAt f p = (0 < types → Begins (take (end_at bs p) bs)) × UpTo bs p (λ e. given f types terms opens < taken f e)

    -- what a fault at p means for a text that is not too long
    abbrev pub Means : Fault → ℕ → Type 0
    Means TooLong p = ⊥
    Means BadByte p = WrongAt bs BadByte p
    Means BadNumber p = WrongAt bs BadNumber p
    Means Misplaced p = WrongAt bs Misplaced p
    Means TooDeep p = OutAt TooDeep p
    Means NoTypeRow p = OutAt NoTypeRow p
    Means NoTermRow p = OutAt NoTermRow p

    -- a text is refused rightly by f at p
    pub record Rightly (f : Fault) (p : ℕ) : Type 0 where
      -- a text that is too long is refused as that, at the first byte too many
      pub long : most_bytes < length bs → (f ≡ TooLong) × (p ≡ most_bytes)
      -- any other by what its fault means
      pub short : length bs ≤ most_bytes → Means f p
      -- the rows suffice up to there: with anything else behind a space in its place, the text is not refused before it
      pub reached : (cs : List ℕ) → length (take p bs ++ 32 ∷ cs) ≤ most_bytes → (g : Fault) (q : ℕ) → outcome_within most_bytes most_types most_terms types terms opens (take p bs ++ 32 ∷ cs) ≡ refused_at g q → p ≤ q
      -- more rows do not help, if there are no more of those that are lacking
      pub rows : (types' terms' opens' : ℕ) → types ≤ types' → terms ≤ terms' → opens ≤ opens' → given f types' terms' opens' ≡ given f types terms opens
          → outcome_within most_bytes most_types most_terms types' terms' opens' bs ≡ refused_at f p
      -- with more of those, the text is refused only further on, if at all
      pub past : (types' terms' opens' : ℕ) → 0 < types → types ≤ types' → terms ≤ terms' → opens ≤ opens' → given f types terms opens < given f types' terms' opens'
          → (g : Fault) (q : ℕ) → outcome_within most_bytes most_types most_terms types' terms' opens' bs ≡ refused_at g q → p < q

-- a text that is refused is refused rightly
abbrev pub RefusesRightly : ℕ → ℕ → ℕ → Type 0
RefusesRightly most_bytes most_types most_terms =
    (types terms opens : ℕ) (bs : List ℕ) (f : Fault) (p : ℕ)
    → outcome_within most_bytes most_types most_terms types terms opens bs ≡ refused_at f p → Rightly most_bytes most_types most_terms types terms opens bs f p

-- a text goes wrong at one place at most, by one fault
abbrev pub WrongOnce : Type 0
WrongOnce = (bs : List ℕ) (f g : Fault) (p q : ℕ) → WrongAt bs f p → WrongAt bs g q → (f ≡ g) × (p ≡ q)
