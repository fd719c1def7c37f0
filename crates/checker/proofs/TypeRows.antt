-- What the rows of a type table stand for.
use Rattle.std.proofs.Common.{◌≡◌, ℕ, zero, suc, ◌<◌, ◌≤◌, true, cond, eqb, ◌⊎◌, List, [], ◌∷◌, ◌++◌, length, get_or, take, None, sym, refl, ap, ◌∙◌, inl, inr, ⊎_elim, arith}
use Rattle.std.proofs.lemmas.List.{get_or-take, get_or_past}
use Rattle.std.proofs.lemmas.Bool.{eqb-true, eq-eqb, ne_eqb, cond-false, cases_lt, cases_eq, cases_order}
use Rattle.rows.specs.declared.tables.TypeRow.{TypeRow}
use Rattle.rows.specs.declared.forms.Shape.{Shape}
use Rattle.rows.specs.declared.forms.Shape.TheVariants.{To, Both}
use Rattle.rows.specs.Rows.{nat_row}
use Rattle.theory.specs.Syntax.{Ty, nat, to, both}
use Rattle.theory.specs.Folds.{shaped}
use Rattle.theory.specs.Stands.{type_of_row, types_from}
use Rattle.checker.specs.Lowest.{lowest}
use Rattle.checker.specs.Descents.{rows_as}
use Rattle.checker.specs.RowTests.{good_type}
use Rattle.checker.specs.Types.{row_of, is_to, is_both}
use Rattle.checker.proofs.Folding.{row_at}
use Rattle.checker.proofs.TypeLaws.{first_nat, compound_row, rows_apart}

-- the type at a place
abbrev pub ty_at : List TypeRow → ℕ → Ty
ty_at ts p = get_or (types_from [] ts) p nat

types_are : (Ts : List Ty) (ts : List TypeRow) → types_from Ts ts ≡ rows_as type_of_row Ts ts
types_are Ts [] = refl
types_are Ts (r ∷ rs) = types_are (Ts ++ type_of_row Ts r ∷ []) rs

pub nat_to : (σ τ : Ty) → nat ≡ to σ τ → ⊥
nat_to σ τ e = let z : ◌≡◌ {A = ℕ} 0 1 = cc in omega arith

pub nat_both : (σ τ : Ty) → nat ≡ both σ τ → ⊥
nat_both σ τ e = let z : ◌≡◌ {A = ℕ} 0 1 = cc in omega arith

pub to_both : (σ τ σ' τ' : Ty) → to σ τ ≡ both σ' τ' → ⊥
to_both σ τ σ' τ' e = let z : ◌≡◌ {A = ℕ} 0 1 = cc in omega arith

pub to_parts : (σ τ σ' τ' : Ty) → to σ τ ≡ to σ' τ' → (σ ≡ σ') × (τ ≡ τ')
to_parts σ τ σ' τ' e = (cc, cc)

pub both_parts : (σ τ σ' τ' : Ty) → both σ τ ≡ both σ' τ' → (σ ≡ σ') × (τ ≡ τ')
both_parts σ τ σ' τ' e = (cc, cc)

module _ (ts : List TypeRow) (good : lowest (good_type ts) (length ts) ≡ None) where
  -- a row of kind 1 or 2 is in the table, and its left and right are earlier rows
  pub inside : (p k : ℕ) → (row_of ts p).kind ≡ suc k → p < length ts
  inside p k e =
      ⊎_elim (λ (h : p < length ts). h)
      (λ (h : length ts ≤ p). absurd (let z : ◌≡◌ {A = ℕ} 0 (suc k) = ap (λ r. r.kind) (sym (get_or_past ts p nat_row h)) ∙ e in omega arith))
      (cases_lt p (length ts))

  pub parts_before : (p k : ℕ) → (row_of ts p).kind ≡ suc k → ((row_of ts p).left < p) × ((row_of ts p).right < p)
  parts_before p k e =
      let h = inside p k e in
      ⊎_elim
      (λ (z : p ≡ 0). absurd (let w : ◌≡◌ {A = ℕ} 0 (suc k) = ap (λ r. r.kind) (sym (first_nat ts good (omega arith)) ∙ ap (row_of ts) (sym z)) ∙ e in omega arith))
      (λ (z : p ≡ 0 → ⊥). let c = compound_row ts good p (omega arith) h in (c.left, c.right))
      (cases_eq p 0)

  step : (p : ℕ) → p < length ts → ty_at ts p ≡ type_of_row (take p (rows_as type_of_row [] ts)) (row_of ts p)
  step p h = ap (λ l. get_or l p nat) (types_are [] ts) ∙ row_at type_of_row ts p nat nat_row h

  -- a function or a pair stands for that of the types of its left and right
  shape_row : (p k : ℕ) (o : Shape) → (row_of ts p).kind ≡ suc k → cond (eqb (suc k) 1) To Both ≡ o → ty_at ts p ≡ shaped o (ty_at ts (row_of ts p).left) (ty_at ts (row_of ts p).right)
  shape_row p k o e is =
      let r = row_of ts p in
      let b = parts_before p k e in
      let all = rows_as type_of_row [] ts in
      let part : (q : ℕ) → q < p → get_or (take p all) q nat ≡ ty_at ts q = λ q h. get_or-take p all q nat h ∙ ap (λ l. get_or l q nat) (sym (types_are [] ts)) in
      step p (inside p k e)
      ∙ cond-false (eqb r.kind 0) nat _ (ne_eqb r.kind 0 (λ z. omega (arith, z, e)))
      ∙ ap (λ s. shaped s (get_or (take p all) r.left nat) (get_or (take p all) r.right nat)) (ap (λ m. cond (eqb m 1) To Both) e ∙ is)
      ∙ ap (λ τ. shaped o τ (get_or (take p all) r.right nat)) (part r.left b.0)
      ∙ ap (shaped o (ty_at ts r.left)) (part r.right b.1)

  pub to_row : (p : ℕ) → is_to ts p ≡ true → ty_at ts p ≡ to (ty_at ts (row_of ts p).left) (ty_at ts (row_of ts p).right)
  to_row p e = shape_row p 0 To (eqb-true (row_of ts p).kind 1 e) refl

  pub both_row : (p : ℕ) → is_both ts p ≡ true → ty_at ts p ≡ both (ty_at ts (row_of ts p).left) (ty_at ts (row_of ts p).right)
  both_row p e = shape_row p 1 Both (eqb-true (row_of ts p).kind 2 e) refl

  pub nat_at : 0 < length ts → ty_at ts 0 ≡ nat
  nat_at h = step 0 h ∙ ap (type_of_row []) (first_nat ts good h)

  -- a row is nat at place 0, or a function, or a pair
  pub cases : (p : ℕ) → p < length ts → (p ≡ 0) ⊎ ((is_to ts p ≡ true) ⊎ (is_both ts p ≡ true))
  cases p h =
      ⊎_elim inl
      (λ (z : p ≡ 0 → ⊥).
      inr (⊎_elim (λ (e : (row_of ts p).kind ≡ 1). inl (eq-eqb (row_of ts p).kind 1 e)) (λ (e : (row_of ts p).kind ≡ 2). inr (eq-eqb (row_of ts p).kind 2 e)) (compound_row ts good p (omega arith) h).kind))
      (cases_eq p 0)

  same_rows : (p q k : ℕ) → p < length ts → q < length ts → (row_of ts p).kind ≡ k → (row_of ts q).kind ≡ k → (row_of ts p).left ≡ (row_of ts q).left → (row_of ts p).right ≡ (row_of ts q).right → p ≡ q
  same_rows p q k hp hq kp kq l r =
      let e : row_of ts p ≡ row_of ts q = λ i. record { kind = (kp ∙ sym kq) i; left = l i; right = r i } in
      ⊎_elim (λ (e : p ≡ q). e) (⊎_elim (λ (h : p < q). absurd (rows_apart ts good p q h hq e)) (λ (h : q < p). absurd (rows_apart ts good q p h hp (sym e)))) (cases_order p q)

  module _ (some : 0 < length ts) where
    -- equal types of equal shapes have equal rows
    shapes_agree : (m p q k : ℕ) → p < suc m → p < length ts → q < length ts
        → ((p q : ℕ) → p < m → p < length ts → q < length ts → ty_at ts p ≡ ty_at ts q → p ≡ q)
        → (row_of ts p).kind ≡ suc k → (row_of ts q).kind ≡ suc k
        → (ty_at ts (row_of ts p).left ≡ ty_at ts (row_of ts q).left) × (ty_at ts (row_of ts p).right ≡ ty_at ts (row_of ts q).right) → p ≡ q
    shapes_agree m p q k h hp hq ih kp kq w =
        let bp = parts_before p k kp in
        let bq = parts_before q k kq in
        same_rows p q (suc k) hp hq kp kq
        (ih (row_of ts p).left (row_of ts q).left (omega (arith, bp.0)) (omega (arith, bp.0)) (omega (arith, bq.0)) w.0)
        (ih (row_of ts p).right (row_of ts q).right (omega (arith, bp.1)) (omega (arith, bp.1)) (omega (arith, bq.1)) w.1)

    -- different rows stand for different types
    pub one_place : (m p q : ℕ) → p < m → p < length ts → q < length ts → ty_at ts p ≡ ty_at ts q → p ≡ q
    one_place zero p q h hp hq e = absurd (omega arith)
    one_place (suc m) p q h hp hq e =
        ⊎_elim
        (λ (z : p ≡ 0).
        let n = sym (nat_at some) ∙ ap (ty_at ts) (sym z) ∙ e in
        ⊎_elim (λ (z' : q ≡ 0). z ∙ sym z')
        (⊎_elim (λ t. absurd (nat_to _ _ (n ∙ to_row q t))) (λ t. absurd (nat_both _ _ (n ∙ both_row q t))))
        (cases q hq))
        (⊎_elim
        (λ (t : is_to ts p ≡ true).
        let u = sym (to_row p t) ∙ e in
        ⊎_elim (λ (z' : q ≡ 0). absurd (nat_to _ _ (sym (u ∙ ap (ty_at ts) z' ∙ nat_at some))))
        (⊎_elim
        (λ (t' : is_to ts q ≡ true). shapes_agree m p q 0 h hp hq (one_place m) (eqb-true (row_of ts p).kind 1 t) (eqb-true (row_of ts q).kind 1 t') (to_parts _ _ _ _ (u ∙ to_row q t')))
        (λ t'. absurd (to_both _ _ _ _ (u ∙ both_row q t'))))
        (cases q hq))
        (λ (t : is_both ts p ≡ true).
        let u = sym (both_row p t) ∙ e in
        ⊎_elim (λ (z' : q ≡ 0). absurd (nat_both _ _ (sym (u ∙ ap (ty_at ts) z' ∙ nat_at some))))
        (⊎_elim
        (λ t'. absurd (to_both _ _ _ _ (sym (u ∙ to_row q t'))))
        (λ (t' : is_both ts q ≡ true). shapes_agree m p q 1 h hp hq (one_place m) (eqb-true (row_of ts p).kind 2 t) (eqb-true (row_of ts q).kind 2 t') (both_parts _ _ _ _ (u ∙ both_row q t'))))
        (cases q hq)))
        (cases p hp)

    -- what a place is that stands for a function or a pair
    pub to_place : (p : ℕ) (σ τ : Ty) → p < length ts → ty_at ts p ≡ to σ τ → (is_to ts p ≡ true) × ((row_of ts p).left < p) × ((row_of ts p).right < p) × (ty_at ts (row_of ts p).left ≡ σ) × (ty_at ts (row_of ts p).right ≡ τ)
    to_place p σ τ h e =
        ⊎_elim (λ (z : p ≡ 0). absurd (nat_to σ τ (sym (nat_at some) ∙ ap (ty_at ts) (sym z) ∙ e)))
        (⊎_elim
        (λ (t : is_to ts p ≡ true).
        let b = parts_before p 0 (eqb-true (row_of ts p).kind 1 t) in
        let w = to_parts _ _ _ _ (sym (to_row p t) ∙ e) in
        (t, b.0, b.1, w.0, w.1))
        (λ t. absurd (to_both σ τ _ _ (sym e ∙ both_row p t))))
        (cases p h)

    pub both_place : (p : ℕ) (σ τ : Ty) → p < length ts → ty_at ts p ≡ both σ τ → (is_both ts p ≡ true) × ((row_of ts p).left < p) × ((row_of ts p).right < p) × (ty_at ts (row_of ts p).left ≡ σ) × (ty_at ts (row_of ts p).right ≡ τ)
    both_place p σ τ h e =
        ⊎_elim (λ (z : p ≡ 0). absurd (nat_both σ τ (sym (nat_at some) ∙ ap (ty_at ts) (sym z) ∙ e)))
        (⊎_elim
        (λ t. absurd (to_both _ _ σ τ (sym (to_row p t) ∙ e)))
        (λ (t : is_both ts p ≡ true).
        let b = parts_before p 1 (eqb-true (row_of ts p).kind 2 t) in
        let w = both_parts _ _ _ _ (sym (both_row p t) ∙ e) in
        (t, b.0, b.1, w.0, w.1)))
        (cases p h)
