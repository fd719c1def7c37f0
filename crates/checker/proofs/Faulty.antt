-- The lowest fault of a term and of its parts.
use Rattle.std.proofs.Common.{◌≡◌, ℕ, suc, ◌-◌, ◌<◌, ◌≤◌, min, Bool, true, false, cond, ltb, ◌⊎◌, List, [], ◌∷◌, length, Some, None, Option, sym, refl, ap, ◌∙◌, subst, inl, inr, ⊎_elim, arith}
use Rattle.std.proofs.lemmas.Bool.{cond-true, cases_lt}
use Rattle.theory.specs.Emit.{Tables}
use Rattle.checker.specs.RowTests.{arity}
use Rattle.checker.specs.Types.{bound, under}
use Rattle.checker.specs.Contexts.{Context, row_at, Under, rule}
use Rattle.checker.specs.Lowest.{first_of, lower}
use Rattle.checker.proofs.Shallows.{some_none, some_same}
use Rattle.checker.proofs.Sheets.{Kept}
use Rattle.checker.proofs.Sound.{context}
use Rattle.checker.proofs.Complete.{Valid}
use Rattle.checker.proofs.Descending.{Each, Reached, reach, Found, SomePart, down}

pub option_cases : {A : Type 0} (o : Option A) → (o ≡ None) ⊎ ((x : A) × (o ≡ Some x))
option_cases None = inl refl
option_cases (Some x) = inr (x, refl)

min_cases : (i j : ℕ) → (min i j ≡ i) ⊎ (min i j ≡ j)
min_cases i j = ⊎_elim (λ (h : i < j). inl (omega arith)) (λ (h : j ≤ i). inr (omega arith)) (cases_lt i j)

-- the lower of two faults is one of them
lower_from : (x y : Option ℕ) (q : ℕ) → lower x y ≡ Some q → (x ≡ Some q) ⊎ (y ≡ Some q)
lower_from None y q e = inr e
lower_from (Some i) None q e = inl e
lower_from (Some i) (Some j) q e =
    ⊎_elim (λ (m : min i j ≡ i). inl (ap (λ n. Some n) (sym m ∙ some_same e))) (λ (m : min i j ≡ j). inr (ap (λ n. Some n) (sym m ∙ some_same e))) (min_cases i j)

pub lower_three : (x y z : Option ℕ) (q : ℕ) → lower x (lower y z) ≡ Some q → (x ≡ Some q) ⊎ ((y ≡ Some q) ⊎ (z ≡ Some q))
lower_three x y z q e = ⊎_elim inl (λ (f : lower y z ≡ Some q). inr (lower_from y z q f)) (lower_from x (lower y z) q e)

-- and no later than either
pub record SomeBelow (o : Option ℕ) (j : ℕ) : Type 0 where
  pub place : ℕ
  pub is : o ≡ Some place
  pub below : place ≤ j

lower_left : (y : Option ℕ) (j : ℕ) → SomeBelow (lower (Some j) y) j
lower_left None j = record { place = j; is = refl; below = omega arith }
lower_left (Some i) j = record { place = min j i; is = refl; below = omega arith }

lower_right : (x y : Option ℕ) (j : ℕ) → SomeBelow y j → SomeBelow (lower x y) j
lower_right None y j w = w
lower_right (Some i) y j w = record { place = min i w.place; is = ap (lower (Some i)) w.is; below = omega (arith, w.below) }

pub below_three : (x y z : Option ℕ) (j : ℕ) → (x ≡ Some j) ⊎ ((y ≡ Some j) ⊎ (z ≡ Some j)) → SomeBelow (lower x (lower y z)) j
below_three x y z j (inl e) = let w = lower_left (lower y z) j in record { place = w.place; is = ap (λ o. lower o (lower y z)) e ∙ w.is; below = w.below }
below_three x y z j (inr (inl e)) = let w = lower_left z j in lower_right x (lower y z) j (record { place = w.place; is = ap (λ o. lower o z) e ∙ w.is; below = w.below })
below_three x y z j (inr (inr e)) = lower_right x (lower y z) j (lower_right y z j (record { place = j; is = e; below = omega arith }))

cond_some : (b : Bool) (o : Option ℕ) (q : ℕ) → cond b o None ≡ Some q → (b ≡ true) × (o ≡ Some q)
cond_some true o q e = (refl, e)
cond_some false o q e = absurd (some_none q (sym e))

first_some : (a b : Option ℕ) (q : ℕ) → first_of a b ≡ Some q → (a ≡ Some q) ⊎ (b ≡ Some q)
first_some None b q e = inr e
first_some (Some i) b q e = inl e

-- ---- a search for faults goes through the parts of a row, and takes the row itself where none of them has one

module _ (s : Tables) (k : Kept s) (G : ℕ → List ℕ → Option ℕ) (O : ℕ → List ℕ → Option ℕ)
    (unfolds : (p : ℕ) (l : List ℕ) → p < length s.1 → G p l ≡ first_of
    (lower (cond (ltb 0 (arity (row_at s p).kind)) (G (row_at s p).a (under (bound s.0 (row_at s p)) l)) None)
    (lower (cond (ltb 1 (arity (row_at s p).kind)) (G (row_at s p).b l) None)
    (cond (ltb 2 (arity (row_at s p).kind)) (G (row_at s p).c (0 ∷ l)) None)))
    (O p l))
    (own : (p : ℕ) (l : List ℕ) (q : ℕ) → O p l ≡ Some q → p ≡ q) where
  abbrev in_a : ℕ → List ℕ → Option ℕ
  in_a p l = cond (ltb 0 (arity (row_at s p).kind)) (G (row_at s p).a (under (bound s.0 (row_at s p)) l)) None

  abbrev in_b : ℕ → List ℕ → Option ℕ
  in_b p l = cond (ltb 1 (arity (row_at s p).kind)) (G (row_at s p).b l) None

  abbrev in_c : ℕ → List ℕ → Option ℕ
  in_c p l = cond (ltb 2 (arity (row_at s p).kind)) (G (row_at s p).c (0 ∷ l)) None

  -- the row of a fault
  abbrev pub Own : ℕ → ℕ → List ℕ → Type 0
  Own q p l = (p ≡ q) × (G p l ≡ Some q) × (O p l ≡ Some q)

  step : (q p : ℕ) (l : List ℕ) → p < length s.1 → G p l ≡ Some q → Own q p l ⊎ SomePart s k (λ p' l'. G p' l' ≡ Some q) p l
  step q p l lt e =
      ⊎_elim
      (λ (f : lower (in_a p l) (lower (in_b p l) (in_c p l)) ≡ Some q).
      inr (⊎_elim (λ (x : in_a p l ≡ Some q). inl (cond_some _ _ q x)) (⊎_elim (λ (x : in_b p l ≡ Some q). inr (inl (cond_some _ _ q x))) (λ (x : in_c p l ≡ Some q). inr (inr (cond_some _ _ q x)))) (lower_three (in_a p l) (in_b p l) (in_c p l) q f)))
      (λ (f : O p l ≡ Some q). inl (own p l q f, e, f))
      (first_some (lower (in_a p l) (lower (in_b p l) (in_c p l))) (O p l) q (sym (unfolds p l lt) ∙ e))

  found_below : (q p : ℕ) (l : List ℕ) → p < length s.1 → Valid (length s.0) l → Under s p (context s.0 l) → G p l ≡ Some q → Found s k (Own q) p
  found_below q p l lt v d e = down s k (λ p' l'. G p' l' ≡ Some q) (Own q) (step q) (suc p) p l (omega arith) lt v d e

  -- the fault found is some row's
  pub found : (q : ℕ) → G (length s.1 - 1) [] ≡ Some q → Found s k (Own q) (length s.1 - 1)
  found q e = found_below q (length s.1 - 1) [] (omega (arith, k.some_terms)) tt rule e

  module _ (T : ℕ → Type 0) (up : (i j : ℕ) → i ≤ j → T i → T j) (top : (j : ℕ) → G (length s.1 - 1) [] ≡ Some j → T j) where
    -- what is found in a part is no earlier than what is found in the whole
    each : (p : ℕ) (l : List ℕ) → p < length s.1 → ((j : ℕ) → G p l ≡ Some j → T j) → Each s k (λ p' l'. (j : ℕ) → G p' l' ≡ Some j → T j) p l
    each p l lt h = (
      (λ u j e. from j (inl (cond-true (ltb 0 (arity (row_at s p).kind)) _ None u ∙ e))),
      (λ u j e. from j (inr (inl (cond-true (ltb 1 (arity (row_at s p).kind)) _ None u ∙ e)))),
      (λ u j e. from j (inr (inr (cond-true (ltb 2 (arity (row_at s p).kind)) _ None u ∙ e)))),
    )
      where
        from : (j : ℕ) → (in_a p l ≡ Some j) ⊎ ((in_b p l ≡ Some j) ⊎ (in_c p l ≡ Some j)) → T j
        from j c =
            let w = below_three (in_a p l) (in_b p l) (in_c p l) j c in
            up w.place j w.below (h w.place (unfolds p l lt ∙ ap (λ o. first_of o (O p l)) w.is))

    -- so a fault found from any row on is T, and no later than that row
    pub every : {p : ℕ} {Γ : Context} → Under s p Γ → Reached s k (λ p' l. (j : ℕ) → G p' l ≡ Some j → T j × (j ≤ p')) p Γ
    every {p} {Γ} d =
        let w = reach s k (λ p' l. (j : ℕ) → G p' l ≡ Some j → T j) top each d in
        record {
          names = w.names;
          is = w.is;
          valid = w.valid;
          within = w.within;
          holds = λ j e.
              let x = found_below j p w.names w.within w.valid (subst (Under s p) w.is d) e in
              (w.holds j e, omega (arith, x.no_later, x.holds.0));
        }
