-- The tokens of a text, by the lexer and by their spelling; and a reading by its tokens.
use Rattle.std.proofs.Common.{◌≡◌, ℕ, zero, suc, ◌<◌, Bool, true, false, cond, List, [], ◌∷◌, ◌++◌, length, drop, Some, sym, refl, ap, ◌∙◌, subst, arith}
use Rattle.grammar.specs.declared.bytes.Class.TheVariants.{Space}
use Rattle.grammar.specs.Bytes.{class, alike, run}
use Rattle.grammar.specs.declared.fault.Fault.{Fault}
use Rattle.grammar.specs.Tokens.{Tok, Step, over, took, refused, token, trimmed}
use Rattle.grammar.specs.Runs.{shorter}
use Rattle.grammar.specs.Reader.{Maker, Bracket, Turn, go, done, stop, turn, accepted, refused_at, ended, place, after_turn, after_token, reading}
use Rattle.grammar.specs.Renders.{spelling, Fits, Written, space}
use Rattle.grammar.specs.Renders as w
use Rattle.grammar.proofs.Grow.{nothing, finished, turned, drive}
use Rattle.grammar.proofs.Lexed.{unspaced, token_is, Right, right, alike_true, space_byte}

-- the tokens that the lexer finds
pub data Spells : List ℕ → List Tok → Type 0 where
  end : {bs : List ℕ} → token (trimmed bs) ≡ over → Spells bs []
  next : {bs : List ℕ} {t : Tok} {cs : List ℕ} {ts : List Tok} → token (trimmed bs) ≡ took t cs → Spells cs ts → Spells bs (t ∷ ts)

-- ---- spaces

wider : (bs : List ℕ) (ts : List Tok) → Written (trimmed bs) ts → Written bs ts
wider [] ts h = h
wider (b ∷ bs) ts h = by (alike (class b) Space) refl (λ k. wider bs ts k) h
  where
    by : (t : Bool) → alike (class b) Space ≡ t → (Written (trimmed bs) ts → Written bs ts) → Written (drop (cond t (suc (run Space bs)) 0) (b ∷ bs)) ts → Written (b ∷ bs) ts
    by true e f h = rw (space_byte b (alike_true (class b) Space e)) (space (f h))
    by false e f h = h

pub written : {bs : List ℕ} {ts : List Tok} → Spells bs ts → Written bs ts
written {bs} (end e) = wider bs [] (let n : trimmed bs ≡ [] = subst (Right (trimmed bs)) e (right (trimmed bs)) in subst (λ l. Written l []) (sym n) w.end)
written {bs} (next {t = t} {cs = cs} {ts = ts} e s) = let r = subst (Right (trimmed bs)) e (right (trimmed bs)) in wider bs (t ∷ ts) (w.token r.0 r.1 (written s))

spells_space : {bs : List ℕ} {ts : List Tok} → Spells bs ts → Spells (32 ∷ bs) ts
spells_space (end e) = end e
spells_space (next e s) = next e s

pub spells : {bs : List ℕ} {ts : List Tok} → Written bs ts → Spells bs ts
spells w.end = end refl
spells (w.space h) = spells_space (spells h)
spells {bs} (w.token {cs = cs} {t = t} e f h) = next (ap (λ l. token (trimmed l)) e ∙ ap (λ k. token (drop k (spelling t ++ cs))) (unspaced cs t f) ∙ token_is cs t f) (spells h)

-- the lexer finds one list of tokens
pub spells_once : {bs : List ℕ} {ts us : List Tok} → Spells bs ts → Spells bs us → ts ≡ us
spells_once (end e) (end f) = refl
spells_once (end e) (next f t) = let z : ◌≡◌ {A = ℕ} 0 1 = cc in absurd (omega arith)
spells_once (next e s) (end f) = let z : ◌≡◌ {A = ℕ} 0 1 = cc in absurd (omega arith)
spells_once {bs} (next {t = t} {cs = cs} {ts = ts} e s) (next {t = u} {cs = ds} {ts = us} f q) =
    let a : t ≡ u = cc in
    let b : cs ≡ ds = cc in
    λ i. a i ∷ spells_once (subst (λ l. Spells l ts) b s) q i

-- ---- a reading by its tokens

spells_end : {bs : List ℕ} → Spells bs [] → token (trimmed bs) ≡ over
spells_end (end e) = e

module _ {S X Y : Type 0} (m : Maker S X Y) (room long : ℕ) where
  abbrev Tokens : List ℕ → S → List (Bracket X Y) → S × Y → Type 0
  Tokens bs s fs r = (ts : List Tok) × Spells bs ts × (drive m room ts s fs ≡ Some r)

  no_fault : (k : Fault) (p : ℕ) (r : S × Y) → refused_at k p ≡ accepted r.0 r.1 → ⊥
  no_fault k p r e = let z : ◌≡◌ {A = ℕ} 0 1 = cc in omega arith

  module _ (n : ℕ) (ih : (bs : List ℕ) (s : S) (fs : List (Bracket X Y)) (r : S × Y) → reading m room long n bs s fs ≡ accepted r.0 r.1 → Tokens bs s fs r)
      (bs : List ℕ) (s : S) (fs : List (Bracket X Y)) (r : S × Y) (t : Tok) (cs : List ℕ) (e : token (trimmed bs) ≡ took t cs) where
    at_end : (s' : S) (y : Y) → turn m room t s fs ≡ done s' y → (st : Step) → token (trimmed cs) ≡ st → ended (place m room long cs) s' y st ≡ accepted r.0 r.1 → Tokens bs s fs r
    at_end s' y q over f h =
        let a : s' ≡ r.0 = cc in
        let b : y ≡ r.1 = cc in
        (t ∷ [], next e (end f), ap (turned [] (drive m room [])) q ∙ (λ i. Some (a i, b i)))
    at_end s' y q (took u ds) f h = absurd (no_fault _ _ r h)
    at_end s' y q (refused k) f h = absurd (no_fault _ _ r h)

    at_turn : (d : Turn S X Y) → turn m room t s fs ≡ d → after_turn m room long (reading m room long n) (place m room long bs) cs d ≡ accepted r.0 r.1 → Tokens bs s fs r
    at_turn (go s' fs') q h = let a = ih cs s' fs' r h in (t ∷ a.0, next e a.1, ap (turned a.0 (drive m room a.0)) q ∙ a.2)
    at_turn (done s' y) q h = at_end s' y q (token (trimmed cs)) refl h
    at_turn (stop k) q h = absurd (no_fault _ _ r h)

  pub tokens : (n : ℕ) (bs : List ℕ) (s : S) (fs : List (Bracket X Y)) (r : S × Y) → reading m room long n bs s fs ≡ accepted r.0 r.1 → Tokens bs s fs r
  tokens zero bs s fs r h = absurd (no_fault _ _ r h)
  tokens (suc n) bs s fs r h = by (token (trimmed bs)) refl (tokens n) h
    where
      by : (st : Step) → token (trimmed bs) ≡ st → ((bs : List ℕ) (s : S) (fs : List (Bracket X Y)) (r : S × Y) → reading m room long n bs s fs ≡ accepted r.0 r.1 → Tokens bs s fs r)
          → after_token m room long (reading m room long n) (place m room long bs) st s fs ≡ accepted r.0 r.1 → Tokens bs s fs r
      by over e ih h = absurd (no_fault _ _ r h)
      by (refused k) e ih h = absurd (no_fault _ _ r h)
      by (took t cs) e ih h = at_turn n ih bs s fs r t cs e (turn m room t s fs) refl h

  pub passes : {bs : List ℕ} {ts : List Tok} (n : ℕ) (s : S) (fs : List (Bracket X Y)) (r : S × Y) → Spells bs ts → length bs < n → drive m room ts s fs ≡ Some r → reading m room long n bs s fs ≡ accepted r.0 r.1
  passes n s fs r (end e) l h = absurd (nothing h)
  passes {bs} zero s fs r (next e sp) l h = absurd (omega arith)
  passes {bs} (suc n) s fs r (next {t = t} {cs = cs} {ts = ts} e sp) l h =
      ap (λ st. after_token m room long (reading m room long n) (place m room long bs) st s fs) e
      ∙ by (turn m room t s fs) (λ s' fs' k. passes n s' fs' r sp (let q = shorter bs cs t e in omega arith) k) h
    where
      over_at : (us : List Tok) → Spells cs us → (s' : S) (y : Y) → finished us s' y ≡ Some r → ended (place m room long cs) s' y (token (trimmed cs)) ≡ accepted r.0 r.1
      over_at [] sp s' y h =
          let a : s' ≡ r.0 = cc in
          let b : y ≡ r.1 = cc in
          ap (ended (place m room long cs) s' y) (spells_end sp) ∙ (λ i. accepted (a i) (b i))
      over_at (u ∷ us) sp s' y h = absurd (nothing h)

      by : (d : Turn S X Y) → ((s' : S) (fs' : List (Bracket X Y)) → drive m room ts s' fs' ≡ Some r → reading m room long n cs s' fs' ≡ accepted r.0 r.1)
          → turned ts (drive m room ts) d ≡ Some r → after_turn m room long (reading m room long n) (place m room long bs) cs d ≡ accepted r.0 r.1
      by (go s' fs') ih h = ih s' fs' h
      by (done s' y) ih h = over_at ts sp s' y h
      by (stop k) ih h = absurd (nothing h)
