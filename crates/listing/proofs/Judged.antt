-- What is read and checked, and how it is listed.
use Rattle.std.proofs.Common.{◌≡◌, ℕ, List, ◌++◌, length, take, Some, None, Ok, Err, Option, codes, decimal, refl, ap, ◌∙◌, append_assoc, arith}
use Rattle.rows.specs.declared.tables.TypeRow.{TypeRow}
use Rattle.rows.specs.declared.tables.TermRow.{TermRow}
use Rattle.theory.specs.Emit.{Tables}
use Rattle.grammar.specs.Reader.{Outcome, accepted, refused_at}
use Rattle.grammar.specs.Theorems.{outcome_within}
use Rattle.text.specs.declared.opens.Counts.{Counts}
use Rattle.text.specs.Reads.{answer, made, zero_type, zero_term, padded, take_padded}
use Rattle.checker.specs.declared.refusal.Refusal.{Refusal}
use Rattle.checker.specs.Verdicts.{verdict, answer as checked}
use Rattle.listing.specs.declared.refusal.Refusal.{Refusal as RuleRefusal}
use Rattle.listing.specs.declared.refusal.Refusal.TheVariants.{Reading, Checking}
use Rattle.listing.specs.Refusals.{number_of, place_of, refusal_text, judged_tables, judged_outcome, judged}
use Rattle.listing.specs.Lines.{newline, refusal_line, verdict_lines, outcome_lines}

at_made : (sight : ℕ) (o : Outcome Tables ℕ) (n : Counts) (types : List TypeRow) (terms : List TermRow) (t u : ℕ) → Ok n ≡ answer o
    → types ≡ padded zero_type t (made o).0 → terms ≡ padded zero_term u (made o).1
    → judged_tables (take n.types types, take n.terms terms) (verdict (take n.types types, take n.terms terms) sight) ≡ judged_outcome sight o
at_made sight (accepted s y) n types terms t u a b c =
    let is : n ≡ record { types = length s.0; terms = length s.1 } = cc in
    let first : take n.types types ≡ s.0 = (λ i. take (is i).types (b i)) ∙ take_padded zero_type t s.0 in
    let second : take n.terms terms ≡ s.1 = (λ i. take (is i).terms (c i)) ∙ take_padded zero_term u s.1 in
    λ i. judged_tables (first i, second i) (verdict (first i, second i) sight)
at_made sight (refused_at f p) n types terms t u a b c = let z : ◌≡◌ {A = ℕ} 0 1 = cc in absurd (omega arith)

-- the rows that a reading with the most rows makes are judged as the text that it read
pub made_judged : (sight : ℕ) (bs : List ℕ) (n : Counts) (types terms : ℕ) (type_rows : List TypeRow) (term_rows : List TermRow) → types ≡ 1024 → terms ≡ 2048
    → Ok n ≡ answer (outcome_within 16384 1024 2048 types terms 64 bs)
    → type_rows ≡ padded zero_type types (made (outcome_within 16384 1024 2048 types terms 64 bs)).0
    → term_rows ≡ padded zero_term terms (made (outcome_within 16384 1024 2048 types terms 64 bs)).1
    → judged_tables (take n.types type_rows, take n.terms term_rows) (verdict (take n.types type_rows, take n.terms term_rows) sight) ≡ judged sight bs
made_judged sight bs n types terms type_rows term_rows t u a b c =
    at_made sight (outcome_within 16384 1024 2048 types terms 64 bs) n type_rows term_rows types terms a b c
    ∙ (λ i. judged_outcome sight (outcome_within 16384 1024 2048 (t i) (u i) 64 bs))

pub passed : (v : Option Refusal) (s : Tables) → Ok tt ≡ checked v → Ok s ≡ judged_tables s v
passed None s e = refl
passed (Some f) s e = let z : ◌≡◌ {A = ℕ} 0 1 = cc in absurd (omega arith)

pub refused : (v : Option Refusal) (s : Tables) (f : Refusal) → Err f ≡ checked v → Err (Checking f) ≡ judged_tables s v
refused None s f e = let z : ◌≡◌ {A = ℕ} 0 1 = cc in absurd (omega arith)
refused (Some g) s f e = let same : f ≡ g = cc in ap (λ r. Err (Checking r)) same

-- ---- the lines of a refusal

line_of : (n p : ℕ) → refusal_text n p ++ newline ≡ refusal_line n p
line_of n p = append_assoc (codes "refused ") _ newline ∙ ap (λ l. codes "refused " ++ l) (append_assoc (decimal n) _ newline ∙ ap (λ l. decimal n ++ l) (append_assoc (codes " place ") (decimal p) newline))

pub refusal_shown : (o : Outcome Tables ℕ) (f : RuleRefusal) → Err f ≡ judged_outcome 64 o → refusal_text (number_of f) (place_of f) ++ newline ≡ outcome_lines o
refusal_shown (accepted s y) f e = go (verdict s 64) e
  where
    go : (v : Option Refusal) → Err f ≡ judged_tables s v → refusal_text (number_of f) (place_of f) ++ newline ≡ verdict_lines v s.0 s.1
    go None h = let z : ◌≡◌ {A = ℕ} 0 1 = cc in absurd (omega arith)
    go (Some g) h = let same : f ≡ Checking g = cc in ap (λ r. refusal_text (number_of r) (place_of r) ++ newline) same ∙ line_of (number_of (Checking g)) g.row
refusal_shown (refused_at k p) f e =
    let same : f ≡ Reading (record { fault = k; place = p }) = cc in
    ap (λ r. refusal_text (number_of r) (place_of r) ++ newline) same ∙ line_of (number_of (Reading (record { fault = k; place = p }))) p
