-- Rows that are not refused have a lawful table.
use Rattle.std.specs.Prelude.{◌≡◌, ℕ, ◌+◌, ◌<◌, ◌≤◌, true, false, ltb, leb, List, [], ◌∷◌, length, is_some, Some, None, ◌==◌, nat_le, nat_lt, refl}
use Rattle.std.proofs.Common.{◌∙◌, ⊎_elim, arith}
use Rattle.std.proofs.lemmas.Bool.{leb-true, ltb-false, ne_eqb, cases_Bool, cond-false, and_parts, both_ways, cond_both}
use Rattle.rows.specs.Limits.{top}
use Rattle.counters.specs.declared.price.PriceRow.{PriceRow}
use Rattle.counters.specs.Limits.{most_rows, largest_field}
use Rattle.counters.specs.Tables.{Lawful}
use Rattle.counters.specs.PriceLists.{is_priced, first_bad, prices_outcome, price_table}

-- A row that is not refused, and rows behind it that are not.
pub record Passes (row : PriceRow) (rows : List PriceRow) (least i : ℕ) : Type 0 where
  pub article : row.article ≤ largest_field
  pub price : row.price ≤ top
  pub order : least ≤ row.article
  pub rest : is_some (first_bad rows (row.article + 1) (i + 1)) ≡ false

pub passes : (row : PriceRow) (rows : List PriceRow) (least i : ℕ) → is_some (first_bad (row ∷ rows) least i) ≡ false → Passes row rows least i
passes r rs least i h =
    ⊎_elim
    (λ (e : is_priced r ≡ true).
    let p = and_parts (nat_le r.article largest_field) (nat_le r.price top) e in
    let h' = rw e at h in
    ⊎_elim
    (λ (f : leb least r.article ≡ true). record { article = leb-true _ _ p.0; price = leb-true _ _ p.1; order = leb-true _ _ f; rest = rw f at h' })
    (λ (f : leb least r.article ≡ false). absurd (both_ways true (rw f at h') refl))
    (cases_Bool (nat_le least r.article)))
    (λ (e : is_priced r ≡ false). absurd (both_ways true (rw e at h) refl))
    (cases_Bool (is_priced r))

-- Rows that are not refused are few and good.
pub few_good : (rows : List PriceRow) → is_some (prices_outcome rows) ≡ false → (length rows ≤ most_rows) × (is_some (first_bad rows 0 0) ≡ false)
few_good rs h =
    ⊎_elim
    (λ (e : ltb most_rows (length rs) ≡ true). absurd (both_ways true (rw e at h) refl))
    (λ (e : ltb most_rows (length rs) ≡ false). (ltb-false most_rows (length rs) e, rw e at h))
    (cases_Bool (nat_lt most_rows (length rs)))

amounts : (rows : List PriceRow) (least i : ℕ) → is_some (first_bad rows least i) ≡ false → (q n : ℕ) → price_table rows q ≡ Some n → n ≤ top
amounts [] least i h q n = λ e. let z : ◌≡◌ {A = ℕ} 0 1 = cc in omega arith
amounts (r ∷ rs) least i h q n =
    let p = passes r rs least i h in
    cond_both (r.article == q) (Some r.price) (price_table rs q) (λ o. o ≡ Some n → n ≤ top)
    (λ _ e. let s : r.price ≡ n = cc in omega (arith, p.price))
    (λ _ e. amounts rs (r.article + 1) (i + 1) p.rest q n e)

above : (rows : List PriceRow) (least i : ℕ) → is_some (first_bad rows least i) ≡ false → (q : ℕ) → top < q → price_table rows q ≡ None
above [] least i h q big = refl
above (r ∷ rs) least i h q big =
    let p = passes r rs least i h in
    cond-false (r.article == q) _ _ (ne_eqb r.article q (λ same. omega (arith, p.article))) ∙ above rs (r.article + 1) (i + 1) p.rest q big

pub prices_lawful : (rows : List PriceRow) → is_some (prices_outcome rows) ≡ false → Lawful (price_table rows)
prices_lawful rs h = record { amounts = amounts rs 0 0 (few_good rs h).1; above = above rs 0 0 (few_good rs h).1 }
