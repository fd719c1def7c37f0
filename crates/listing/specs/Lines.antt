-- The lines of a listing.
use Rattle.std.specs.Prelude.{ℕ, suc, ◌-◌, cond, List, [], ◌∷◌, ◌++◌, length, get_or, take, Some, None, codes, decimal, Option, ◌==◌, slice_index, slice_index_or}
use Rattle.rows.specs.declared.tables.TypeRow.{TypeRow}
use Rattle.rows.specs.declared.tables.TermRow.{TermRow}
use Rattle.theory.specs.Emit.{Tables}
use Rattle.grammar.specs.Faults.{number}
use Rattle.grammar.specs.Reader.{Outcome, accepted, refused_at}
use Rattle.grammar.specs.Theorems.{outcome_within}
use Rattle.checker.specs.declared.refusal.Refusal.{Refusal}
use Rattle.checker.specs.Faults.{number as checked_number}
use Rattle.checker.specs.Verdicts.{verdict}

-- the word of a row's kind
abbrev pub type_word : ℕ → List ℕ
type_word k = slice_index_or (codes "nat" ∷ codes "to" ∷ codes "both" ∷ []) k (codes "?")

abbrev pub term_word : ℕ → List ℕ
term_word k =
    get_or (codes "number" ∷ codes "name" ∷ codes "s" ∷ codes "ifz" ∷ codes "lam" ∷ codes "ap" ∷ codes "fix" ∷ codes "pair" ∷ codes "fst" ∷ codes "snd" ∷ codes "add" ∷ codes "sub" ∷ codes "mul" ∷ codes "get" ∷ codes "fail" ∷ codes "catch" ∷ [])
    k (codes "?")

abbrev pub newline : List ℕ
newline = 10 ∷ []

-- the line of a type row at place p, whose kind has the word w
abbrev pub type_line_of : ℕ → List ℕ → TypeRow → List ℕ
type_line_of p w r = codes "type " ++ (decimal p ++ (codes ": " ++ (w ++ (codes " left " ++ (decimal r.left ++ (codes " right " ++ (decimal r.right ++ newline)))))))

abbrev pub type_line : ℕ → TypeRow → List ℕ
type_line p r = type_line_of p (type_word r.kind) r

-- the line of a term row, in two parts
abbrev pub term_head_of : ℕ → List ℕ → TermRow → List ℕ
term_head_of p w r = codes "term " ++ (decimal p ++ (codes ": " ++ (w ++ (codes " type " ++ (decimal r.ty ++ (codes " number " ++ decimal r.number))))))

abbrev pub term_parts_of : TermRow → List ℕ
term_parts_of r = codes " parts " ++ (decimal r.a ++ (codes " " ++ (decimal r.b ++ (codes " " ++ (decimal r.c ++ newline)))))

abbrev pub term_line : ℕ → TermRow → List ℕ
term_line p r = term_head_of p (term_word r.kind) r ++ term_parts_of r

-- the lines of rows that begin at place p
abbrev pub lines : {X : Type 0} → (ℕ → X → List ℕ) → ℕ → List X → List ℕ
lines f p [] = []
lines f p (r ∷ rs) = f p r ++ lines f (suc p) rs

abbrev pub counts_line : ℕ → ℕ → List ℕ
counts_line t u = codes "types " ++ (decimal t ++ (codes " terms " ++ (decimal u ++ newline)))

abbrev pub refusal_line : ℕ → ℕ → List ℕ
refusal_line n p = codes "refused " ++ (decimal n ++ (codes " place " ++ (decimal p ++ newline)))

-- the counts, and a line for each row
abbrev pub listed : List TypeRow → List TermRow → List ℕ
listed types terms = counts_line (length types) (length terms) ++ lines type_line 0 types ++ lines term_line 0 terms

-- or the refusal of the check
abbrev pub verdict_lines : Option Refusal → List TypeRow → List TermRow → List ℕ
verdict_lines None types terms = listed types terms
verdict_lines (Some f) types terms = refusal_line (checked_number f.fault) f.row

-- of two tables, with 64 sight rows
abbrev pub table_lines : Tables → List ℕ
table_lines s = verdict_lines (verdict s 64) s.0 s.1

-- or the refusal of the reading
abbrev pub outcome_lines : Outcome Tables ℕ → List ℕ
outcome_lines (accepted s y) = table_lines s
outcome_lines (refused_at f p) = refusal_line (number f) p

-- an input without a line feed at its end
abbrev pub chomped : List ℕ → List ℕ
chomped bs = cond (slice_index bs (length bs - 1) == 10) (take (length bs - 1) bs) bs

-- the listing of a text, read with the most rows and with 64 open rows, and then checked
abbrev pub shown : List ℕ → List ℕ
shown bs = outcome_lines (outcome_within 16384 1024 2048 1024 2048 64 bs)
