-- The test of type rows is the laws of type rows.
use Rattle.std.proofs.Common.{◌≡◌, ℕ, zero, suc, ◌<◌, ◌≤◌, Bool, true, false, cond, ◌&&◌, ◌||◌, eqb, ltb, List, [], ◌∷◌, length, get_or, None, sym, refl, ap, ◌∙◌, inl, inr, ⊎_elim, arith}
use Rattle.std.proofs.lemmas.Bool.{and_parts, and_from, or_cases, or_left, or_right, ltb-true, lt-ltb, eqb-true, eq-eqb, ne_eqb, cond-true, cond-false, cases_eq, cases_lt, false≢true}
use Rattle.rows.specs.declared.tables.TypeRow.{TypeRow}
use Rattle.rows.specs.Rows.{nat_row, row_alike, row_place}
use Rattle.theory.specs.Laws.{Compound}
use Rattle.checker.specs.Lowest.{lowest}
use Rattle.checker.specs.RowTests.{compound, good_type}
use Rattle.checker.proofs.Lows.{lowest_good, lowest_none}

pub at_any : {X : Type 0} (xs : List X) (p : ℕ) (d e : X) → p < length xs → get_or xs p d ≡ get_or xs p e
at_any [] p d e h = absurd (omega arith)
at_any (x ∷ xs) zero d e h = refl
at_any (x ∷ xs) (suc p) d e h = at_any xs p d e (omega arith)

-- ---- equal rows

both_tests : (b c : Bool) → cond b c false ≡ true → (b ≡ true) × (c ≡ true)
both_tests true c e = (refl, e)
both_tests false c e = absurd (false≢true e)

pub alike_same : (x y : TypeRow) → row_alike x y ≡ true → x ≡ y
alike_same x y e =
    let a = both_tests (eqb x.kind y.kind) (cond (eqb x.left y.left) (eqb x.right y.right) false) e in
    let b = both_tests (eqb x.left y.left) (eqb x.right y.right) a.1 in
    let k = eqb-true x.kind y.kind a.0 in
    let l = eqb-true x.left y.left b.0 in
    let r = eqb-true x.right y.right b.1 in
    λ i. record { kind = k i; left = l i; right = r i }

alike_refl : (x : TypeRow) → row_alike x x ≡ true
alike_refl x =
    cond-true (eqb x.kind x.kind) _ false (eq-eqb x.kind x.kind refl)
    ∙ cond-true (eqb x.left x.left) _ false (eq-eqb x.left x.left refl)
    ∙ eq-eqb x.right x.right refl

place_le : (r : TypeRow) (ts : List TypeRow) (p : ℕ) (d : TypeRow) → p < length ts → row_alike r (get_or ts p d) ≡ true → row_place r ts ≤ p
place_le r [] p d h e = absurd (omega arith)
place_le r (q ∷ ts) zero d h e = let z = cond-true (row_alike r q) 0 (suc (row_place r ts)) e in omega arith
place_le r (q ∷ ts) (suc p) d h e = go (row_alike r q) (place_le r ts p d (omega arith) e)
  where
    go : (b : Bool) → row_place r ts ≤ p → cond b 0 (suc (row_place r ts)) ≤ suc p
    go true le = omega arith
    go false le = omega arith

place_alike : (r : TypeRow) (ts : List TypeRow) (d : TypeRow) → row_place r ts < length ts → row_alike r (get_or ts (row_place r ts) d) ≡ true
place_alike r [] d h = absurd (omega arith)
place_alike r (q ∷ ts) d h = go (row_alike r q) refl h (place_alike r ts d)
  where
    go : (b : Bool) → row_alike r q ≡ b → cond b 0 (suc (row_place r ts)) < suc (length ts) → (row_place r ts < length ts → row_alike r (get_or ts (row_place r ts) d) ≡ true) → row_alike r (get_or (q ∷ ts) (cond b 0 (suc (row_place r ts))) d) ≡ true
    go true e h' rest = e
    go false e h' rest = rest (omega arith)

-- ---- from the tests to the laws

module _ (ts : List TypeRow) (good : lowest (good_type ts) (length ts) ≡ None) where
  abbrev row : ℕ → TypeRow
  row p = get_or ts p nat_row

  tested : (p : ℕ) → 0 < p → p < length ts → (compound p (get_or ts p nat_row) ≡ true) × (row_place (get_or ts p nat_row) ts ≡ p)
  tested p some h =
      let g = lowest_good (good_type ts) (length ts) good p h in
      let t = sym (cond-false (eqb p 0) (row_alike (row p) nat_row) (compound p (row p) && eqb (row_place (row p) ts) p) (ne_eqb p 0 (λ z. omega arith))) ∙ g in
      let b = and_parts (compound p (row p)) (eqb (row_place (row p) ts) p) t in
      (b.0, eqb-true (row_place (row p) ts) p b.1)

  pub first_nat : 0 < length ts → get_or ts 0 nat_row ≡ nat_row
  first_nat h = alike_same (row 0) nat_row (lowest_good (good_type ts) (length ts) good 0 h)

  pub compound_row : (p : ℕ) → 0 < p → p < length ts → Compound p (get_or ts p nat_row)
  compound_row p some h =
      let r = row p in
      let a = and_parts (eqb r.kind 1 || eqb r.kind 2) (ltb r.left p && ltb r.right p) (tested p some h).0 in
      let b = and_parts (ltb r.left p) (ltb r.right p) a.1 in
      record {
        kind = ⊎_elim (λ (e : eqb r.kind 1 ≡ true). inl (eqb-true r.kind 1 e)) (λ (e : eqb r.kind 2 ≡ true). inr (eqb-true r.kind 2 e)) (or_cases (eqb r.kind 1) (eqb r.kind 2) a.0);
        left = ltb-true r.left p b.0;
        right = ltb-true r.right p b.1;
      }

  pub rows_apart : (p q : ℕ) → p < q → q < length ts → get_or ts p nat_row ≡ get_or ts q nat_row → ⊥
  rows_apart p q lt h e =
      let place = (tested q (omega arith) h).1 in
      let le = place_le (row q) ts p nat_row (omega arith) (ap (row_alike (row q)) e ∙ alike_refl (row q)) in
      omega arith

-- ---- and back

module _ (ts : List TypeRow) (first : get_or ts 0 nat_row ≡ nat_row)
    (later : (p : ℕ) → 0 < p → p < length ts → Compound p (get_or ts p nat_row))
    (apart : (p q : ℕ) → p < q → q < length ts → get_or ts p nat_row ≡ get_or ts q nat_row → ⊥) where
  compound_so : (p : ℕ) (r : TypeRow) → Compound p r → compound p r ≡ true
  compound_so p r c =
      and_from (eqb r.kind 1 || eqb r.kind 2) (ltb r.left p && ltb r.right p)
      (⊎_elim (λ (e : r.kind ≡ 1). or_left (eqb r.kind 1) (eqb r.kind 2) (eq-eqb r.kind 1 e)) (λ (e : r.kind ≡ 2). or_right (eqb r.kind 1) (eqb r.kind 2) (eq-eqb r.kind 2 e)) c.kind)
      (and_from (ltb r.left p) (ltb r.right p) (lt-ltb r.left p c.left) (lt-ltb r.right p c.right))

  own_place : (p : ℕ) → p < length ts → row_place (get_or ts p nat_row) ts ≡ p
  own_place p h =
      let r = get_or ts p nat_row in
      let le = place_le r ts p nat_row h (alike_refl r) in
      ⊎_elim
      (λ (lt : row_place r ts < p). absurd (apart (row_place r ts) p lt h (sym (alike_same r (get_or ts (row_place r ts) nat_row) (place_alike r ts nat_row (omega arith))))))
      (λ (ge : p ≤ row_place r ts). omega arith)
      (cases_lt (row_place r ts) p)

  pub good_types : lowest (good_type ts) (length ts) ≡ None
  good_types = lowest_none (good_type ts) (length ts) each
    where
      each : (p : ℕ) → p < length ts → good_type ts p ≡ true
      each p h =
          let r = get_or ts p nat_row in
          ⊎_elim
          (λ (z : p ≡ 0). cond-true (eqb p 0) (row_alike r nat_row) _ (eq-eqb p 0 z) ∙ ap (λ q. row_alike (get_or ts q nat_row) nat_row) z ∙ ap (λ x. row_alike x nat_row) first)
          (λ (z : p ≡ 0 → ⊥).
          cond-false (eqb p 0) (row_alike r nat_row) (compound p r && eqb (row_place r ts) p) (ne_eqb p 0 z)
          ∙ and_from (compound p r) (eqb (row_place r ts) p) (compound_so p r (later p (omega arith) h)) (eq-eqb (row_place r ts) p (own_place p h)))
          (cases_eq p 0)
