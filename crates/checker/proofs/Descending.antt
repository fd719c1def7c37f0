-- Going down the rows of a rule, with the names that each stands under.
use Rattle.std.proofs.Common.{◌≡◌, ℕ, zero, suc, ◌-◌, ◌<◌, ◌≤◌, true, false, cond, eqb, ltb, ◌⊎◌, List, [], ◌∷◌, ◌++◌, length, get_or, Some, None, sym, refl, ap, ◌∙◌, subst, inl, inr, ⊎_elim, arith}
use Rattle.std.proofs.lemmas.List.{get_or-take, length-take-le}
use Rattle.std.proofs.lemmas.Bool.{leb-true, ltb-true, lt-ltb, eqb-true, cond-true, cond-false, cases_Bool, false≢true}
use Rattle.rows.specs.declared.tables.TermRow.{TermRow}
use Rattle.theory.specs.Emit.{Tables}
use Rattle.theory.specs.Laws.{parts_of}
use Rattle.checker.specs.RowTests.{arity, typed}
use Rattle.checker.specs.Types.{bound, under, row_of, is_to, is_both, no_type}
use Rattle.checker.specs.Contexts.{Context, domain, row_at, names_of, Under, rule, part}
use Rattle.checker.proofs.ByKind.{kinds}
use Rattle.checker.proofs.Counts.{arity_small, parts_are}
use Rattle.checker.proofs.Placing.{a_below, b_below, c_below}
use Rattle.checker.proofs.Sheets.{Kept}
use Rattle.checker.proofs.TermLaws.{row}
use Rattle.checker.proofs.TypeRows.{nat_to, to_both, ty_at, nat_at, to_row, both_row, parts_before, cases}
use Rattle.checker.proofs.Sound.{hole, context}
use Rattle.checker.proofs.Complete.{Valid, proper}
use Rattle.checker.proofs.Typed.{good_at, type_placed}

-- ---- the parts of a row

pub count : (r : TermRow) → length (parts_of r) ≡ arity r.kind
count r = ap length (parts_are r) ∙ length-take-le (arity r.kind) (r.a ∷ r.b ∷ r.c ∷ []) (arity_small r.kind)

pub place : (r : TermRow) (i : ℕ) → i < arity r.kind → get_or (parts_of r) i 0 ≡ get_or (r.a ∷ r.b ∷ r.c ∷ []) i 0
place r i h = ap (λ l. get_or l i 0) (parts_are r) ∙ get_or-take (arity r.kind) (r.a ∷ r.b ∷ r.c ∷ []) i 0 h

-- ---- and their names

module _ (s : Tables) (k : Kept s) where
  hole_at : (t : ℕ) → t < length s.0 → hole s.0 t ≡ Some (ty_at s.0 t)
  hole_at t h = cond-false (eqb t no_type) None (Some (ty_at s.0 t)) (proper s.0 k.few_types t h)

  -- the name of a lam
  lam_hole : (t : ℕ) → t < length s.0 → domain (ty_at s.0 t) ≡ hole s.0 (cond (is_to s.0 t) (row_of s.0 t).left no_type)
  lam_hole t h =
      let ts = s.0 in
      ⊎_elim
      (λ (z : t ≡ 0). ap domain (ap (ty_at ts) z ∙ nat_at ts k.types k.some_types) ∙ none (not_to (λ e. nat_to _ _ (sym (sym (to_row ts k.types t e) ∙ ap (ty_at ts) z ∙ nat_at ts k.types k.some_types)))))
      (⊎_elim
      (λ (e : is_to ts t ≡ true).
      let b = parts_before ts k.types t 0 (is_one e) in
      ap domain (to_row ts k.types t e) ∙ sym (hole_at (row_of ts t).left (omega (arith, b.0))) ∙ ap (hole ts) (sym (cond-true (is_to ts t) (row_of ts t).left no_type e)))
      (λ (e : is_both ts t ≡ true). ap domain (both_row ts k.types t e) ∙ none (not_to (λ e'. to_both _ _ _ _ (sym (to_row ts k.types t e') ∙ both_row ts k.types t e)))))
      (cases ts k.types t h)
    where
      none : is_to s.0 t ≡ false → None ≡ hole s.0 (cond (is_to s.0 t) (row_of s.0 t).left no_type)
      none e = ap (hole s.0) (sym (cond-false (is_to s.0 t) (row_of s.0 t).left no_type e))

      not_to : (is_to s.0 t ≡ true → ⊥) → is_to s.0 t ≡ false
      not_to f = ⊎_elim (λ (e : is_to s.0 t ≡ true). absurd (f e)) (λ (e : is_to s.0 t ≡ false). e) (cases_Bool (is_to s.0 t))

      is_one : is_to s.0 t ≡ true → (row_of s.0 t).kind ≡ 1
      is_one e = eqb-true (row_of s.0 t).kind 1 e

  module _ (t n x y z : ℕ) (l : List ℕ) where
    first_names : (m : ℕ) → m ≤ 15 → (typed m ≡ true → t < length s.0) → names_of s (row m t n x y z) 0 ++ context s.0 l ≡ context s.0 (under (bound s.0 (row m t n x y z)) l)
    first_names =
        kinds (λ m. (typed m ≡ true → t < length s.0) → names_of s (row m t n x y z) 0 ++ context s.0 l ≡ context s.0 (under (bound s.0 (row m t n x y z)) l))
        (λ h. refl) (λ h. refl) (λ h. refl) (λ h. refl)
        (λ h. ap (λ o. o ∷ context s.0 l) (lam_hole t (h refl)))
        (λ h. refl)
        (λ h. ap (λ o. o ∷ context s.0 l) (sym (hole_at t (h refl))))
        (λ h. refl) (λ h. refl) (λ h. refl) (λ h. refl) (λ h. refl) (λ h. refl) (λ h. refl) (λ h. refl) (λ h. refl)

    second_names : (m : ℕ) → m ≤ 15 → names_of s (row m t n x y z) 1 ≡ []
    second_names =
        kinds (λ m. names_of s (row m t n x y z) 1 ≡ [])
        refl refl refl refl refl refl refl refl refl refl refl refl refl refl refl refl

    third_names : (m : ℕ) → m ≤ 15 → ltb 2 (arity m) ≡ true → names_of s (row m t n x y z) 2 ++ context s.0 l ≡ context s.0 (0 ∷ l)
    third_names =
        kinds (λ m. ltb 2 (arity m) ≡ true → names_of s (row m t n x y z) 2 ++ context s.0 l ≡ context s.0 (0 ∷ l))
        (λ u. absurd (false≢true u)) (λ u. absurd (false≢true u)) (λ u. absurd (false≢true u))
        (λ u. ap (λ τ. Some τ ∷ context s.0 l) (sym (nat_at s.0 k.types k.some_types)))
        (λ u. absurd (false≢true u)) (λ u. absurd (false≢true u)) (λ u. absurd (false≢true u)) (λ u. absurd (false≢true u))
        (λ u. absurd (false≢true u)) (λ u. absurd (false≢true u)) (λ u. absurd (false≢true u)) (λ u. absurd (false≢true u))
        (λ u. absurd (false≢true u)) (λ u. absurd (false≢true u)) (λ u. absurd (false≢true u)) (λ u. absurd (false≢true u))

    valid_first : Valid (length s.0) l → (m : ℕ) → m ≤ 15 → (typed m ≡ true → t < length s.0) → Valid (length s.0) (under (bound s.0 (row m t n x y z)) l)
    valid_first v =
        kinds (λ m. (typed m ≡ true → t < length s.0) → Valid (length s.0) (under (bound s.0 (row m t n x y z)) l))
        (λ h. v) (λ h. v) (λ h. v) (λ h. v)
        (λ h. (lam_valid (h refl), v))
        (λ h. v)
        (λ h. (inr (h refl), v))
        (λ h. v) (λ h. v) (λ h. v) (λ h. v) (λ h. v) (λ h. v) (λ h. v) (λ h. v) (λ h. v)
      where
        lam_valid : t < length s.0 → (cond (is_to s.0 t) (row_of s.0 t).left no_type ≡ no_type) ⊎ (cond (is_to s.0 t) (row_of s.0 t).left no_type < length s.0)
        lam_valid h =
            ⊎_elim
            (λ (e : is_to s.0 t ≡ true).
            let b = parts_before s.0 k.types t 0 (eqb-true (row_of s.0 t).kind 1 e) in
            inr (subst (λ o. o < length s.0) (sym (cond-true (is_to s.0 t) (row_of s.0 t).left no_type e)) (omega (arith, b.0))))
            (λ (e : is_to s.0 t ≡ false). inl (cond-false (is_to s.0 t) (row_of s.0 t).left no_type e))
            (cases_Bool (is_to s.0 t))

  -- ---- going down

  -- what holds of the parts of row p under the names l
  abbrev pub Each : (ℕ → List ℕ → Type 0) → ℕ → List ℕ → Type 0
  Each P p l =
      (ltb 0 (arity (row_at s p).kind) ≡ true → P (row_at s p).a (under (bound s.0 (row_at s p)) l))
      × (ltb 1 (arity (row_at s p).kind) ≡ true → P (row_at s p).b l)
      × (ltb 2 (arity (row_at s p).kind) ≡ true → P (row_at s p).c (0 ∷ l))

  small_kind : (p : ℕ) → p < length s.1 → (row_at s p).kind ≤ 15
  small_kind p h = leb-true (row_at s p).kind 15 (good_at s k p h).kind

  type_in_place : (p : ℕ) → p < length s.1 → typed (row_at s p).kind ≡ true → (row_at s p).ty < length s.0
  type_in_place p h = type_placed (length s.0) p (row_at s p) (good_at s k p h)

  -- a row that stands under names, and what is known of it
  pub record Reached (P : ℕ → List ℕ → Type 0) (p : ℕ) (Γ : Context) : Type 0 where
    pub names : List ℕ
    pub is : Γ ≡ context s.0 names
    pub valid : Valid (length s.0) names
    pub within : p < length s.1
    pub holds : P p names

  -- what holds of the rule, and of the parts of every row of which it holds, holds of every row
  pub reach : (P : ℕ → List ℕ → Type 0) → P (length s.1 - 1) [] → ((p : ℕ) (l : List ℕ) → p < length s.1 → P p l → Each P p l) → {p : ℕ} {Γ : Context} → Under s p Γ → Reached P p Γ
  reach P base step rule = record { names = []; is = refl; valid = tt; within = omega (arith, k.some_terms); holds = base }
  reach P base step (part {p} {Γ} i u h) =
      let w = reach P base step u in
      onward p Γ w (step p w.names w.within w.holds) i (omega (arith, h, count (row_at s p)))
    where
      onward : (p : ℕ) (Γ : Context) (w : Reached P p Γ) → Each P p w.names → (i : ℕ) → i < arity (row_at s p).kind → Reached P (get_or (parts_of (row_at s p)) i 0) (names_of s (row_at s p) i ++ Γ)
      onward p Γ w each zero h =
          let r = row_at s p in
          let u = lt-ltb 0 (arity r.kind) h in
          let below = a_below p r (good_at s k p w.within).parts u in
          subst (λ q. Reached P q (names_of s r 0 ++ Γ)) (sym (place r 0 h))
          (record {
            names = under (bound s.0 r) w.names;
            is = ap (λ Δ. names_of s r 0 ++ Δ) w.is ∙ first_names r.ty r.number r.a r.b r.c w.names r.kind (small_kind p w.within) (type_in_place p w.within);
            valid = valid_first r.ty r.number r.a r.b r.c w.names w.valid r.kind (small_kind p w.within) (type_in_place p w.within);
            within = omega (arith, below, w.within);
            holds = each.0 u;
          })
      onward p Γ w each (suc zero) h =
          let r = row_at s p in
          let u = lt-ltb 1 (arity r.kind) h in
          let below = b_below p r (good_at s k p w.within).parts u in
          subst (λ q. Reached P q (names_of s r 1 ++ Γ)) (sym (place r 1 h))
          (record {
            names = w.names;
            is = ap (λ Δ. Δ ++ Γ) (second_names r.ty r.number r.a r.b r.c w.names r.kind (small_kind p w.within)) ∙ w.is;
            valid = w.valid;
            within = omega (arith, below, w.within);
            holds = each.1 u;
          })
      onward p Γ w each (suc (suc zero)) h =
          let r = row_at s p in
          let u = lt-ltb 2 (arity r.kind) h in
          let below = c_below p r (good_at s k p w.within).parts u in
          subst (λ q. Reached P q (names_of s r 2 ++ Γ)) (sym (place r 2 h))
          (record {
            names = 0 ∷ w.names;
            is = ap (λ Δ. names_of s r 2 ++ Δ) w.is ∙ third_names r.ty r.number r.a r.b r.c w.names r.kind (small_kind p w.within) u;
            valid = (inr k.some_types, w.valid);
            within = omega (arith, below, w.within);
            holds = each.2 u;
          })
      onward p Γ w each (suc (suc (suc i))) h = absurd (omega (arith, h, arity_small (row_at s p).kind))

  -- the parts of a row that stands under names stand under theirs
  parts_under : (p : ℕ) (l : List ℕ) → p < length s.1 → Under s p (context s.0 l) → Each (λ q l'. Under s q (context s.0 l')) p l
  parts_under p l lt d =
      let r = row_at s p in
      let small = small_kind p lt in (
        (λ u. let h = ltb-true 0 (arity r.kind) u in
            moved (place r 0 h) (first_names r.ty r.number r.a r.b r.c l r.kind small (type_in_place p lt)) (part 0 d (omega (arith, h, count r)))),
        (λ u. let h = ltb-true 1 (arity r.kind) u in
            moved (place r 1 h) (ap (λ Δ. Δ ++ context s.0 l) (second_names r.ty r.number r.a r.b r.c l r.kind small)) (part 1 d (omega (arith, h, count r)))),
        (λ u. let h = ltb-true 2 (arity r.kind) u in
            moved (place r 2 h) (third_names r.ty r.number r.a r.b r.c l r.kind small u) (part 2 d (omega (arith, h, count r)))),
      )
    where
      moved : {q q' : ℕ} {Γ Γ' : Context} → q ≡ q' → Γ ≡ Γ' → Under s q Γ → Under s q' Γ'
      moved {q} {q'} {Γ} {Γ'} e e' d = subst (λ Δ. Under s q' Δ) e' (subst (λ x. Under s x Γ) e d)

  parts_valid : (p : ℕ) (l : List ℕ) → p < length s.1 → Valid (length s.0) l → Each (λ q l'. Valid (length s.0) l') p l
  parts_valid p l lt v =
      let r = row_at s p in (
        (λ u. valid_first r.ty r.number r.a r.b r.c l v r.kind (small_kind p lt) (type_in_place p lt)),
        (λ u. v),
        (λ u. (inr k.some_types, v)),
      )

  -- a row of the term at row p, which is no later
  pub record Found (R : ℕ → List ℕ → Type 0) (p : ℕ) : Type 0 where
    pub at : ℕ
    pub names : List ℕ
    pub under : Under s at (context s.0 names)
    pub valid : Valid (length s.0) names
    pub within : at < length s.1
    pub no_later : at ≤ p
    pub holds : R at names

  -- some part has F
  abbrev pub SomePart : (ℕ → List ℕ → Type 0) → ℕ → List ℕ → Type 0
  SomePart F p l =
      ((ltb 0 (arity (row_at s p).kind) ≡ true) × F (row_at s p).a (under (bound s.0 (row_at s p)) l))
      ⊎ (((ltb 1 (arity (row_at s p).kind) ≡ true) × F (row_at s p).b l)
      ⊎ ((ltb 2 (arity (row_at s p).kind) ≡ true) × F (row_at s p).c (0 ∷ l)))

  -- where F of a row is R of it or F of a part, F of a row is R of some row of its term
  pub down : (F R : ℕ → List ℕ → Type 0) → ((p : ℕ) (l : List ℕ) → p < length s.1 → F p l → R p l ⊎ SomePart F p l)
      → (m p : ℕ) (l : List ℕ) → p < m → p < length s.1 → Valid (length s.0) l → Under s p (context s.0 l) → F p l → Found R p
  down F R step zero p l h lt v d w = absurd (omega arith)
  down F R step (suc m) p l h lt v d w =
      let r = row_at s p in
      let g = (good_at s k p lt).parts in
      let ds = parts_under p l lt d in
      let vs = parts_valid p l lt v in
      ⊎_elim
      (λ (own : R p l). record { at = p; names = l; under = d; valid = v; within = lt; no_later = omega arith; holds = own })
      (⊎_elim
      (λ (q : (ltb 0 (arity r.kind) ≡ true) × F r.a (under (bound s.0 r) l)).
      let b = a_below p r g q.0 in
      later r.a p (omega arith) (down F R step m r.a (under (bound s.0 r) l) (omega arith) (omega arith) (vs.0 q.0) (ds.0 q.0) q.1))
      (⊎_elim
      (λ (q : (ltb 1 (arity r.kind) ≡ true) × F r.b l).
      let b = b_below p r g q.0 in
      later r.b p (omega arith) (down F R step m r.b l (omega arith) (omega arith) (vs.1 q.0) (ds.1 q.0) q.1))
      (λ (q : (ltb 2 (arity r.kind) ≡ true) × F r.c (0 ∷ l)).
      let b = c_below p r g q.0 in
      later r.c p (omega arith) (down F R step m r.c (0 ∷ l) (omega arith) (omega arith) (vs.2 q.0) (ds.2 q.0) q.1))))
      (step p l lt w)
    where
      later : (q p : ℕ) → q ≤ p → Found R q → Found R p
      later q p le x = record { at = x.at; names = x.names; under = x.under; valid = x.valid; within = x.within; no_later = omega (arith, x.no_later, le); holds = x.holds }
