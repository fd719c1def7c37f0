-- Every row but the last is a part once, so every row has one context.
use Rattle.std.proofs.Common.{◌≡◌, ℕ, zero, suc, ◌+◌, ◌-◌, ◌<◌, ◌≤◌, true, false, cond, eqb, ◌⊎◌, List, [], ◌∷◌, ◌++◌, length, get_or, sym, refl, ap, ◌∙◌, subst, inl, inr, ⊎_elim, arith}
use Rattle.std.proofs.lemmas.Bool.{eqb-true, eq-eqb, lt-ltb, cond-true, cond-false, cases_Bool, cases_lt}
use Rattle.rows.specs.declared.tables.TermRow.{TermRow}
use Rattle.theory.specs.Emit.{Tables}
use Rattle.theory.specs.Laws.{parts_of, times, uses, Lawful}
use Rattle.checker.specs.RowTests.{no_row, arity}
use Rattle.checker.specs.Contexts.{Context, row_at, names_of, Under, rule, part}
use Rattle.checker.specs.Theorems.{RowsPlaced}
use Rattle.checker.proofs.Counts.{arity_small}
use Rattle.checker.proofs.Placing.{a_below, b_below, c_below}
use Rattle.checker.proofs.Sheets.{Kept}
use Rattle.checker.proofs.TableLaws.{keeps}
use Rattle.checker.proofs.Typed.{good_at}
use Rattle.checker.proofs.Descending.{count, place, reach}

-- ---- places that are counted

counted : (p y : ℕ) (ys : List ℕ) → y ≡ p → times p (y ∷ ys) ≡ 1 + times p ys
counted p y ys e = ap (λ n. n + times p ys) (cond-true (eqb p y) 1 0 (eq-eqb p y (sym e)))

at_times : (p : ℕ) (ys : List ℕ) → 1 ≤ times p ys → (i : ℕ) × (i < length ys) × (get_or ys i 0 ≡ p)
at_times p [] h = absurd (omega arith)
at_times p (y ∷ ys) h =
    ⊎_elim
    (λ (e : eqb p y ≡ true). (0, omega arith, sym (eqb-true p y e)))
    (λ (e : eqb p y ≡ false).
    let z : ◌≡◌ {A = ℕ} (cond (eqb p y) 1 0) 0 = cond-false (eqb p y) 1 0 e in
    let w = at_times p ys (omega arith) in
    (suc w.0, omega (arith, w.1), w.2))
    (cases_Bool (eqb p y))

times_at : (p : ℕ) (ys : List ℕ) (i : ℕ) → i < length ys → get_or ys i 0 ≡ p → 1 ≤ times p ys
times_at p [] i h e = absurd (omega arith)
times_at p (y ∷ ys) zero h e = let c = counted p y ys e in omega arith
times_at p (y ∷ ys) (suc i) h e = let w = times_at p ys i (omega arith) e in omega arith

one_time : (p : ℕ) (ys : List ℕ) (i j : ℕ) → times p ys ≤ 1 → i < length ys → j < length ys → get_or ys i 0 ≡ p → get_or ys j 0 ≡ p → i ≡ j
one_time p [] i j few hi hj ei ej = absurd (omega arith)
one_time p (y ∷ ys) zero zero few hi hj ei ej = refl
one_time p (y ∷ ys) zero (suc j) few hi hj ei ej = let c = counted p y ys ei in let w = times_at p ys j (omega arith) ej in absurd (omega arith)
one_time p (y ∷ ys) (suc i) zero few hi hj ei ej = let c = counted p y ys ej in let w = times_at p ys i (omega arith) ei in absurd (omega arith)
one_time p (y ∷ ys) (suc i) (suc j) few hi hj ei ej = ap suc (one_time p ys i j (omega arith) (omega arith) (omega arith) ei ej)

at_uses : (p : ℕ) (rs : List TermRow) → 1 ≤ uses p rs → (q : ℕ) × (q < length rs) × (1 ≤ times p (parts_of (get_or rs q no_row)))
at_uses p [] h = absurd (omega arith)
at_uses p (r ∷ rs) h =
    ⊎_elim
    (λ (lt : 0 < times p (parts_of r)). (0, omega arith, omega arith))
    (λ (le : times p (parts_of r) ≤ 0).
    let w = at_uses p rs (omega arith) in
    (suc w.0, omega (arith, w.1), w.2))
    (cases_lt 0 (times p (parts_of r)))

uses_at : (p : ℕ) (rs : List TermRow) (q : ℕ) → q < length rs → times p (parts_of (get_or rs q no_row)) ≤ uses p rs
uses_at p [] q h = absurd (omega arith)
uses_at p (r ∷ rs) zero h = omega arith
uses_at p (r ∷ rs) (suc q) h = let w = uses_at p rs q (omega arith) in omega arith

one_use : (p : ℕ) (rs : List TermRow) (q u : ℕ) → uses p rs ≤ 1 → q < length rs → u < length rs → 1 ≤ times p (parts_of (get_or rs q no_row)) → 1 ≤ times p (parts_of (get_or rs u no_row)) → q ≡ u
one_use p [] q u few hq hu eq eu = absurd (omega arith)
one_use p (r ∷ rs) zero zero few hq hu eq eu = refl
one_use p (r ∷ rs) zero (suc u) few hq hu eq eu = let w = uses_at p rs u (omega arith) in absurd (omega arith)
one_use p (r ∷ rs) (suc q) zero few hq hu eq eu = let w = uses_at p rs q (omega arith) in absurd (omega arith)
one_use p (r ∷ rs) (suc q) (suc u) few hq hu eq eu = ap suc (one_use p rs q u (omega arith) (omega arith) (omega arith) eq eu)

-- ---- the row of which a row is a part

module _ (s : Tables) (l : Lawful s) (k : Kept s) where
  part_below : (q : ℕ) → q < length s.1 → (i : ℕ) → i < arity (row_at s q).kind → get_or (parts_of (row_at s q)) i 0 < q
  part_below q h i lt = subst (λ p. p < q) (sym (place (row_at s q) i lt)) (below i lt)
    where
      below : (i : ℕ) → i < arity (row_at s q).kind → get_or ((row_at s q).a ∷ (row_at s q).b ∷ (row_at s q).c ∷ []) i 0 < q
      below zero lt = a_below q (row_at s q) (good_at s k q h).parts (lt-ltb 0 (arity (row_at s q).kind) lt)
      below (suc zero) lt = b_below q (row_at s q) (good_at s k q h).parts (lt-ltb 1 (arity (row_at s q).kind) lt)
      below (suc (suc zero)) lt = c_below q (row_at s q) (good_at s k q h).parts (lt-ltb 2 (arity (row_at s q).kind) lt)
      below (suc (suc (suc i))) lt = absurd (omega (arith, lt, arity_small (row_at s q).kind))

  -- how a row comes to stand under a context
  pub record Part (p : ℕ) (Γ : Context) : Type 0 where
    pub form : ℕ
    pub outer : Context
    pub number : ℕ
    pub under : Under s form outer
    pub within : form < length s.1
    pub counts : number < length (parts_of (row_at s form))
    pub is : get_or (parts_of (row_at s form)) number 0 ≡ p
    pub names : Γ ≡ names_of s (row_at s form) number ++ outer

  above : {p : ℕ} {Γ : Context} → Under s p Γ → ((p ≡ length s.1 - 1) × (Γ ≡ [])) ⊎ Part p Γ
  above rule = inl (refl, refl)
  above (part {p} {Γ} i u h) = inr (record { form = p; outer = Γ; number = i; under = u; within = (reach s k (λ _ _. Unit {0}) tt (λ _ _ _ _. ((λ _. tt), (λ _. tt), (λ _. tt))) u).within; counts = h; is = refl; names = refl })

  later : {p : ℕ} {Γ : Context} (w : Part p Γ) → p < w.form
  later w = let b = part_below w.form w.within w.number (omega (arith, w.counts, count (row_at s w.form))) in omega (arith, w.is, b)

  used : {p : ℕ} {Γ : Context} (w : Part p Γ) → 1 ≤ times p (parts_of (row_at s w.form))
  used {p} w = times_at p (parts_of (row_at s w.form)) w.number w.counts w.is

  exists : (m p : ℕ) → length s.1 ≤ m + p → p < length s.1 → (Γ : Context) × Under s p Γ
  exists zero p le h = absurd (omega arith)
  exists (suc m) p le h =
      ⊎_elim
      (λ (more : suc p < length s.1).
      let once = l.once p more in
      let q = at_uses p s.1 (omega (arith, once)) in
      let i = at_times p (parts_of (row_at s q.0)) q.2 in
      let b = part_below q.0 q.1 i.0 (omega (arith, i.1, count (row_at s q.0))) in
      let w = exists m q.0 (omega (arith, b, i.2)) q.1 in
      (names_of s (row_at s q.0) i.0 ++ w.0, subst (λ x. Under s x (names_of s (row_at s q.0) i.0 ++ w.0)) i.2 (part i.0 w.1 i.1)))
      (λ (last : length s.1 ≤ suc p). ([], let e : length s.1 - 1 ≡ p = omega arith in subst (λ x. Under s x []) e rule))
      (cases_lt (suc p) (length s.1))

  same : (m p : ℕ) (Γ Δ : Context) → length s.1 ≤ m + p → p < length s.1 → Under s p Γ → Under s p Δ → Γ ≡ Δ
  same zero p Γ Δ le h d e = absurd (omega arith)
  same (suc m) p Γ Δ le h d e =
      ⊎_elim
      (λ (x : (p ≡ length s.1 - 1) × (Γ ≡ [])).
      ⊎_elim (λ (y : (p ≡ length s.1 - 1) × (Δ ≡ [])). x.1 ∙ sym y.1)
      (λ (y : Part p Δ). absurd (omega (arith, x.0, later y, y.within)))
      (above e))
      (λ (x : Part p Γ).
      ⊎_elim (λ (y : (p ≡ length s.1 - 1) × (Δ ≡ [])). absurd (omega (arith, y.0, later x, x.within)))
      (λ (y : Part p Δ).
      let once = l.once p (omega (arith, later x, x.within)) in
      let f = one_use p s.1 x.form y.form (omega (arith, once)) x.within y.within (used x) (used y) in
      let few = uses_at p s.1 x.form x.within in
      let counts = subst (λ q. y.number < length (parts_of (row_at s q))) (sym f) y.counts in
      let is = subst (λ q. get_or (parts_of (row_at s q)) y.number 0 ≡ p) (sym f) y.is in
      let i = one_time p (parts_of (row_at s x.form)) x.number y.number (omega (arith, few, once)) x.counts counts x.is is in
      let outer = same m x.form x.outer y.outer (omega (arith, later x)) x.within x.under (subst (λ q. Under s q y.outer) (sym f) y.under) in
      x.names ∙ (λ j. names_of s (row_at s (f j)) (i j) ++ outer j) ∙ sym y.names)
      (above e))
      (above d)

pub rows_placed : RowsPlaced
rows_placed s l p h =
    let k = keeps s l in
    let w = exists s l k (length s.1) p (omega arith) h in
    record { context = w.0; under = w.1; only = λ Γ d. same s l k (length s.1) p Γ w.0 (omega arith) h d w.1 }
