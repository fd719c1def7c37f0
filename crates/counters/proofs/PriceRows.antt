-- What passes over rows find of their refusal and of their table.
use Rattle.std.proofs.Common.{◌≡◌, ℕ, zero, suc, ◌+◌, ◌-◌, ◌/◌, ◌<◌, ◌≤◌, false, eqb, List, [], ◌∷◌, length, get_or, is_some, Some, None, sym, refl, ◌∙◌, ⊎_elim, arith}
use Rattle.std.proofs.lemmas.Bool.{ne_eqb, eq-eqb, cases_lt, cond-true, cond-false}
use Rattle.counters.specs.declared.price.PriceRow.{PriceRow}
use Rattle.counters.specs.PriceLists.{price_table, first_bad, prices_outcome}
use Rattle.counters.specs.LawfulPrices.{passes, few_good}
use Rattle.counters.proofs.Looks.{digits, fewer}

floors : (rows : List PriceRow) (least i : ℕ) → is_some (first_bad rows least i) ≡ false → (k : ℕ) (d : PriceRow) → k < length rows → least ≤ (get_or rows k d).article
floors [] least i h k d lt = absurd (omega arith)
floors (r ∷ rs) least i h zero d lt = (passes r rs least i h).order
floors (r ∷ rs) least i h (suc k) d lt = let p = passes r rs least i h in omega (arith, floors rs (r.article + 1) (i + 1) p.rest k d (omega arith), p.order)

ascending : (rows : List PriceRow) (least i : ℕ) → is_some (first_bad rows least i) ≡ false → (j k : ℕ) (d : PriceRow) → j < k → k < length rows → (get_or rows j d).article < (get_or rows k d).article
ascending [] least i h j k d lt lt' = absurd (omega arith)
ascending (r ∷ rs) least i h j zero d lt lt' = absurd (omega arith)
ascending (r ∷ rs) least i h zero (suc k) d lt lt' = omega (arith, floors rs (r.article + 1) (i + 1) (passes r rs least i h).rest k d (omega arith))
ascending (r ∷ rs) least i h (suc j) (suc k) d lt lt' = ascending rs (r.article + 1) (i + 1) (passes r rs least i h).rest j k d (omega arith) (omega arith)

-- A row has its article's price.
found : (rows : List PriceRow) (least i : ℕ) → is_some (first_bad rows least i) ≡ false → (k : ℕ) (d : PriceRow) → k < length rows → (q : ℕ) → (get_or rows k d).article ≡ q → Some (get_or rows k d).price ≡ price_table rows q
found [] least i h k d lt q e = absurd (omega arith)
found (r ∷ rs) least i h zero d lt q e = sym (cond-true (eqb r.article q) _ _ (eq-eqb r.article q e))
found (r ∷ rs) least i h (suc k) d lt q e =
    let p = passes r rs least i h in
    found rs (r.article + 1) (i + 1) p.rest k d (omega arith) q e
    ∙ sym (cond-false (eqb r.article q) _ _ (ne_eqb r.article q (λ same. omega (arith, floors rs (r.article + 1) (i + 1) p.rest k d (omega arith), e))))

-- An article in no row has no price.
pub missing : (rows : List PriceRow) (q : ℕ) (d : PriceRow) → ((k : ℕ) → k < length rows → (get_or rows k d).article ≡ q → ⊥) → None ≡ price_table rows q
missing [] q d h = refl
missing (r ∷ rs) q d h =
    missing rs q d (λ k lt. h (suc k) (omega arith)) ∙ sym (cond-false (eqb r.article q) _ _ (ne_eqb r.article q (h 0 (omega arith))))

-- Rows that are not refused.
module _ (rows : List PriceRow) (passed : is_some (prices_outcome rows) ≡ false) where
  pub found_at : (k : ℕ) (d : PriceRow) → k < length rows → (q : ℕ) → (get_or rows k d).article ≡ q → Some (get_or rows k d).price ≡ price_table rows q
  found_at = found rows 0 0 (few_good rows passed).1

  order : (j k : ℕ) (d : PriceRow) → j < k → k < length rows → (get_or rows j d).article < (get_or rows k d).article
  order = ascending rows 0 0 (few_good rows passed).1

  -- A look leaves at most half of the rows, which has a binary digit less.
  pub look_less : (low high m : ℕ) → high ≤ length rows → low < high → m ≤ (high - low) / 2 → digits 11 m < digits 11 (high - low)
  look_less low high m le lt half = fewer 11 m (high - low) (omega arith) half (omega (arith, (few_good rows passed).0))

  -- Where the middle row is below the article, so are the rows before it; and where it is above, so are those behind it.
  pub below_middle : (m : ℕ) (d : PriceRow) (q : ℕ) → m < length rows → (get_or rows m d).article < q → (k : ℕ) → k < m + 1 → (get_or rows k d).article < q
  below_middle m d q lt le k lt' =
      ⊎_elim (λ (s : k < m). omega (arith, order k m d s lt)) (λ (s : m ≤ k). let e : k ≡ m = omega arith in rw e le) (cases_lt k m)

  pub above_middle : (m : ℕ) (d : PriceRow) (q : ℕ) → q < (get_or rows m d).article → (k : ℕ) → m ≤ k → k < length rows → q < (get_or rows k d).article
  above_middle m d q lt k le lt' =
      ⊎_elim (λ (s : m < k). omega (arith, order m k d s lt')) (λ (s : k ≤ m). let e : k ≡ m = omega arith in rw e lt) (cases_lt m k)
