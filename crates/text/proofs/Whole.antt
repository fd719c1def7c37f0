-- The tables after a whole reading.
use Rattle.std.proofs.Common.{◌≡◌, ℕ, suc, ◌-◌, ◌<◌, ◌≤◌, min, cond, eqb, List, [], ◌∷◌, ◌++◌, map, length, take, drop, set, replicate, Ok, Err, Result, sym, refl, ap, ◌∙◌, subst, arith, length-append, length-drop, length-take-le, le-ltb, ne_eqb}
use lib.Seq.{take-append-le}
use Rattle.std.proofs.lemmas.List.{append-nil, drop_all, length-replicate}
use Rattle.std.specs.Result.{ResultUnwrapsOrElse}
use Rattle.rows.specs.declared.tables.TypeRow.{TypeRow}
use Rattle.rows.specs.declared.tables.TermRow.{TermRow}
use Rattle.rows.specs.Rows.{nat_row}
use Rattle.rows.specs.Views.{view, room}
use Rattle.theory.specs.Emit.{Tables, empty}
use Rattle.grammar.specs.declared.fault.Fault.{Fault}
use Rattle.grammar.specs.declared.fault.Fault.TheVariants.{TooLong, NoTypeRow}
use Rattle.grammar.specs.Reader as m
use Rattle.grammar.specs.Reader.{Outcome, reading, read}
use Rattle.grammar.specs.TableMaker.{into_tables}
use Rattle.grammar.specs.Theorems.{outcome_within, Readable, Read, Exactly}
use Rattle.grammar.specs.Refusals.{Rightly}
use Rattle.text.specs.declared.opens.OpenForm.{OpenForm}
use Rattle.text.specs.declared.opens.Counts.{Counts}
use Rattle.text.specs.declared.opens.Refusal.{Refusal}
use Rattle.text.specs.declared.opens.Reader.{Reader}
use Rattle.text.specs.Brackets.{bracket, rows_of, answered, left}
use Rattle.text.specs.Reads.{answer, made, padded, zero_type, zero_term, take_padded, Filled, Ruled, Faulted}

-- ---- the reading that the code begins

pub begins : (types : List TypeRow) (o : ℕ) (bs : List ℕ) (r : Reader) → 0 < length types → r.types.now ≡ set types 0 nat_row → r.made ≡ record { types = 1; terms = 0 } → view r.opens.now ≡ [] → room r.opens.now ≡ o
    → left (length bs) bs r ≡ read (into_tables (length types) (length r.terms.now)) o (length bs) bs empty
begins [] o bs r h a n none cap = absurd (omega arith)
begins (t ∷ ts) o bs r h a n none cap =
    let row : take r.made.types r.types.now ≡ nat_row ∷ [] = λ i. take (n i).types (a i) in
    let rest : take r.made.terms r.terms.now ≡ [] = ap (λ d. take d.terms r.terms.now) n in
    let long : length r.types.now ≡ suc (length ts) = ap length a in
    λ i. reading (into_tables (long i) (length r.terms.now)) (cap i) (length bs) (suc (length bs)) bs (row i, rest i) (map bracket (none i))

-- past the first two refusals the whole is a reading
pub whole_is : (t u o : ℕ) (bs : List ℕ) → length bs ≤ 16384 → (t ≡ 0 → ⊥) → outcome_within 16384 1024 2048 t u o bs ≡ read (into_tables (min t 1024) (min u 2048)) o (length bs) bs empty
whole_is t u o bs h ne =
    ap (λ b. cond b (m.refused_at TooLong 16384) (cond (eqb t 0) (m.refused_at NoTypeRow 0) (read (into_tables (min t 1024) (min u 2048)) o (length bs) bs empty))) (le-ltb 16384 (length bs) h)
    ∙ ap (λ b. cond b (m.refused_at NoTypeRow 0) (read (into_tables (min t 1024) (min u 2048)) o (length bs) bs empty)) (ne_eqb t 0 ne)

-- ---- its rows at the front of both tables

pub filled_ok : (y : ℕ) (r : Reader) (o : Outcome Tables ℕ) (ts : List TypeRow) (es : List TermRow) → answered (Ok y) (rows_of r) ≡ o → ts ≡ r.types.now → es ≡ r.terms.now → Filled (Ok r.made) ts es o
filled_ok y r o ts es e t u =
    let a = length-take-le r.made.types r.types.now r.types_within in
    let b = length-take-le r.made.terms r.terms.now r.terms_within in
    let la = ap length t in
    let lb = ap length u in
    let wa = r.types_within in
    let wb = r.terms_within in
    subst (Filled (Ok r.made) ts es) e
    (record {
      answers = λ i. Ok (record { types = sym a i; terms = sym b i });
      types_within = omega arith;
      terms_within = omega arith;
      types_made = λ i. take (a i) (t i);
      terms_made = λ i. take (b i) (u i);
    })

-- the same where more rows stand behind
pub filled_more : (a : Result Counts Refusal) (ts pt : List TypeRow) (es pe : List TermRow) (o : Outcome Tables ℕ) → Filled a ts es o → Filled a (ts ++ pt) (es ++ pe) o
filled_more a ts pt es pe o f =
    let la = length-append ts pt in
    let lb = length-append es pe in
    let wa = f.types_within in
    let wb = f.terms_within in
    record {
      answers = f.answers;
      types_within = omega arith;
      terms_within = omega arith;
      types_made = take-append-le (length (made o).0) ts pt wa ∙ f.types_made;
      terms_made = take-append-le (length (made o).1) es pe wb ∙ f.terms_made;
    }

pub filled_err : (a : Result Counts Refusal) (f : Refusal) (s : Tables) (types : List TypeRow) (terms : List TermRow) (o : Outcome Tables ℕ) → Err f ≡ a → answered (Err f) s ≡ o → Filled a types terms o
filled_err a f s types terms o is e =
    subst (λ r. Filled r types terms o) is
    (subst (Filled (Err f) types terms) e
    (record { answers = refl; types_within = omega arith; terms_within = omega arith; types_made = refl; terms_made = refl }))

-- the counts of an outcome's rows
pub counts_of : (o : Outcome Tables ℕ) (r : Result Counts Refusal) (D : Counts → Type 0) (n : Counts) → r ≡ answer o → ResultUnwrapsOrElse r D n → (D n → n ≡ record { types = 0; terms = 0 })
    → (n.types ≡ length (made o).0) × (n.terms ≡ length (made o).1)
counts_of o r D n e h zeros = go o (subst (λ a. ResultUnwrapsOrElse a D n) e h)
  where
    go : (o : Outcome Tables ℕ) → ResultUnwrapsOrElse (answer o) D n → (n.types ≡ length (made o).0) × (n.terms ≡ length (made o).1)
    go (m.accepted s y) k = (ap (λ d. d.types) k, ap (λ d. d.terms) k)
    go (m.refused_at f p) k = (ap (λ d. d.types) (zeros k), ap (λ d. d.terms) (zeros k))

-- rows that stand at the front of a table whose rest is cleared
pub cleared : {X : Type 0} (z : X) (xs ys new : List X) (n t : ℕ) → new ≡ replicate (length (take (length xs - n) (drop n xs))) z → n ≡ length ys → length ys ≤ length xs → take (length ys) xs ≡ ys → length xs ≡ t
    → take n xs ++ (new ++ drop (length xs - n) (drop n xs)) ≡ padded z t ys
cleared z xs ys new n t e is le front long =
    let left = length-drop n xs in
    let part = length-take-le (length xs - n) (drop n xs) (omega arith) in
    let zeros : new ≡ replicate (t - length ys) z = e ∙ ap (λ k. replicate k z) (omega arith) in
    let same : take n xs ≡ ys = ap (λ k. take k xs) is ∙ front in
    ap (λ l. take n xs ++ (new ++ l)) (drop_all (length xs - n) (drop n xs) (omega arith)) ∙ ap (λ l. take n xs ++ l) (append-nil new) ∙ (λ i. same i ++ zeros i)

-- ---- and what the theorem on readings says of them

padded_length : {X : Type 0} (z : X) (n : ℕ) (xs : List X) → length xs ≤ n → length (padded z n xs) ≡ n
padded_length z n xs h = length-append xs (replicate (n - length xs) z) ∙ omega (arith, length-replicate (n - length xs) z)

module _ (r : Result Counts Refusal) (t u : ℕ) (types : List TypeRow) (terms : List TermRow) (os : List OpenForm) (bs : List ℕ) where
  ruled_at : (o : Outcome Tables ℕ) → r ≡ answer o → types ≡ padded zero_type t (made o).0 → terms ≡ padded zero_term u (made o).1 → length types ≡ t → length terms ≡ u
      → Exactly 16384 1024 2048 t u (length os) bs o → Ruled r types terms os bs
  ruled_at (m.accepted s y) a b c lt lu h =
      let first : s.0 ≡ take (length s.0) types = sym (ap (take (length s.0)) b ∙ take_padded zero_type t s.0) in
      let second : s.1 ≡ take (length s.1) terms = sym (ap (take (length s.1)) c ∙ take_padded zero_term u s.1) in
      subst (λ q. Ruled q types terms os bs) (sym a)
      (subst (λ (q : ℕ × ℕ × Tables). Read 16384 1024 2048 q.0 q.1 (length os) bs q.2) (λ i. (sym lt i, sym lu i, (first i, second i))) h)
  ruled_at (m.refused_at f p) a b c lt lu h =
      subst (λ q. Ruled q types terms os bs) (sym a) (λ e q. h e (subst (λ (n : ℕ × ℕ). Readable 16384 1024 2048 n.0 n.1 (length os) bs e) (λ i. (lt i, lu i)) q))

  pub ruled : (o : Outcome Tables ℕ) → r ≡ answer o → types ≡ padded zero_type t (made o).0 → terms ≡ padded zero_term u (made o).1 → length (made o).0 ≤ t → length (made o).1 ≤ u
      → Exactly 16384 1024 2048 t u (length os) bs o → Ruled r types terms os bs
  ruled o a b c lt lu h = ruled_at o a b c (ap length b ∙ padded_length zero_type t (made o).0 lt) (ap length c ∙ padded_length zero_term u (made o).1 lu) h

pub faulted : (o : Outcome Tables ℕ) (r : Result Counts Refusal) (types : List TypeRow) (terms : List TermRow) (os : List OpenForm) (bs : List ℕ)
    → r ≡ answer o → ((f : Fault) (p : ℕ) → o ≡ m.refused_at f p → Rightly 16384 1024 2048 (length types) (length terms) (length os) bs f p) → Faulted r types terms os bs
faulted (m.accepted s y) r types terms os bs a h = subst (λ q. Faulted q types terms os bs) (sym a) tt
faulted (m.refused_at f p) r types terms os bs a h = subst (λ q. Faulted q types terms os bs) (sym a) (h f p refl)
