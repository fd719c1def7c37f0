-- What reading a text answers, and what it leaves in the two tables.
use Rattle.std.specs.Prelude.{◌≡◌, ℕ, ◌-◌, ◌≤◌, List, [], ◌++◌, length, take, replicate, Ok, Err, Result}
use Rattle.std.proofs.Common.{◌∙◌, arith, take_all}
use Rattle.std.proofs.lemmas.List.{take-append-le}
use Rattle.rows.specs.declared.tables.TypeRow.{TypeRow}
use Rattle.rows.specs.declared.tables.TermRow.{TermRow}
use Rattle.rows.specs.Rows.{nat_row, leaf_row}
use Rattle.theory.specs.Syntax.{Term}
use Rattle.theory.specs.Emit.{Tables}
use Rattle.grammar.specs.Reader.{Outcome, accepted, refused_at}
use Rattle.grammar.specs.Theorems.{outcome_within, Readable, Read}
use Rattle.grammar.specs.Refusals.{Rightly}
use Rattle.text.specs.declared.opens.OpenForm.{OpenForm}
use Rattle.text.specs.declared.opens.Counts.{Counts}
use Rattle.text.specs.declared.opens.Refusal.{Refusal}

-- the reading of bs with these rows handed over
abbrev pub outcome : List TypeRow → List TermRow → List OpenForm → List ℕ → Outcome Tables ℕ
outcome types terms opens bs = outcome_within 16384 1024 2048 (length types) (length terms) (length opens) bs

-- the counts of the rows made, or the fault and its place
abbrev pub answer : Outcome Tables ℕ → Result Counts Refusal
answer (accepted s y) = Ok (record { types = length s.0; terms = length s.1 })
answer (refused_at f p) = Err (record { fault = f; place = p })

-- the rows made, which after a refusal are none
abbrev pub made : Outcome Tables ℕ → Tables
made (accepted s y) = s
made (refused_at f p) = ([], [])

-- rows of zeros
abbrev pub zero_type : TypeRow
zero_type = nat_row

abbrev pub zero_term : TermRow
zero_term = leaf_row 0 0

-- some rows, and zeros behind them, n in all
abbrev pub padded : {X : Type 0} → X → ℕ → List X → List X
padded z n xs = xs ++ replicate (n - length xs) z

-- whose front are those rows
pub take_padded : {X : Type 0} (z : X) (n : ℕ) (xs : List X) → take (length xs) (padded z n xs) ≡ xs
take_padded z n xs = take-append-le (length xs) xs (replicate (n - length xs) z) (omega arith) ∙ take_all (length xs) xs (omega arith)

-- an outcome, its rows at the front of both tables
pub record Filled (r : Result Counts Refusal) (types : List TypeRow) (terms : List TermRow) (o : Outcome Tables ℕ) : Type 0 where
  pub answers : r ≡ answer o
  pub types_within : length (made o).0 ≤ length types
  pub terms_within : length (made o).1 ≤ length terms
  pub types_made : take (length (made o).0) types ≡ (made o).0
  pub terms_made : take (length (made o).1) terms ≡ (made o).1

-- what is read is the one term whose text bs is; what is refused is the text of no term for which the rows suffice
abbrev pub Ruled : Result Counts Refusal → List TypeRow → List TermRow → List OpenForm → List ℕ → Type 0
Ruled (Ok n) types terms opens bs = Read 16384 1024 2048 (length types) (length terms) (length opens) bs (take n.types types, take n.terms terms)
Ruled (Err f) types terms opens bs = (e : Term) → Readable 16384 1024 2048 (length types) (length terms) (length opens) bs e → ⊥

-- and what is refused is refused rightly: too long, or read as far as the place named, and there wrong or out of rows
abbrev pub Faulted : Result Counts Refusal → List TypeRow → List TermRow → List OpenForm → List ℕ → Type 0
Faulted (Ok n) types terms opens bs = Unit {0}
Faulted (Err f) types terms opens bs = Rightly 16384 1024 2048 (length types) (length terms) (length opens) bs f.fault f.place
