-- What reading a text gives, in terms of the term that the text renders.
use Rattle.std.specs.Prelude.{◌≡◌, ℕ, ◌≤◌, min, cond, List, length, ◌==◌, nat_lt}
use Rattle.theory.specs.Syntax.{Term}
use Rattle.theory.specs.Folds.{largest}
use Rattle.theory.specs.Emit.{Tables, empty, rows_of}
use Rattle.theory.specs.Stands.{rule_of}
use Rattle.theory.specs.Laws.{Lawful}
use Rattle.grammar.specs.declared.fault.Fault.TheVariants.{TooLong, NoTypeRow}
use Rattle.grammar.specs.TermTokens.{depth}
use Rattle.grammar.specs.Renders.{Renders}
use Rattle.grammar.specs.Tight.{tight}
use Rattle.grammar.specs.Reader.{Outcome, accepted, refused_at, read}
use Rattle.grammar.specs.TableMaker.{into_tables}

-- the limits of a reading, and the rows that are handed over for it
module _ (most_bytes most_types most_terms types terms opens : ℕ) where
  -- the reading of a text
  abbrev pub outcome_within : List ℕ → Outcome Tables ℕ
  outcome_within bs =
      cond (nat_lt most_bytes (length bs)) (refused_at TooLong most_bytes)
      (cond (types == 0) (refused_at NoTypeRow 0)
      (read (into_tables (min types most_types) (min terms most_terms)) opens (length bs) bs empty))

  -- bs is the text of e, and the rows suffice for it
  pub record Readable (bs : List ℕ) (e : Term) : Type 0 where
    pub renders : Renders bs e
    pub for_bytes : length bs ≤ most_bytes
    pub for_types : length (rows_of e).0 ≤ min types most_types
    pub for_terms : length (rows_of e).1 ≤ min terms most_terms
    pub for_opens : depth e ≤ opens

  -- two tables are the rows of the term whose text bs is
  pub record Read (bs : List ℕ) (s : Tables) : Type 0 where
    pub term : Term
    pub readable : Readable bs term
    pub rows : s ≡ rows_of term
    pub stands : rule_of s ≡ term
    pub lawful : Lawful s

  -- a reading finds the term, or there is none
  abbrev pub Exactly : List ℕ → Outcome Tables ℕ → Type 0
  Exactly bs (accepted s y) = Read bs s
  Exactly bs (refused_at f p) = (e : Term) → Readable bs e → ⊥

abbrev pub ReadsExactly : ℕ → ℕ → ℕ → Type 0
ReadsExactly most_bytes most_types most_terms =
    (types terms opens : ℕ) (bs : List ℕ)
    → Exactly most_bytes most_types most_terms types terms opens bs (outcome_within most_bytes most_types most_terms types terms opens bs)

-- a text is the text of one term at most
abbrev pub ReadsOnce : Type 0
ReadsOnce = (bs : List ℕ) (e a : Term) → Renders bs e → Renders bs a → e ≡ a

-- the tight text of a term whose numbers are no larger than the largest is a text of it
abbrev pub TightRenders : ℕ → Type 0
TightRenders highest = (e : Term) → largest e ≤ highest → Renders (tight e) e
