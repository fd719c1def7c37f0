-- The types of a rule are those of its table, so that it has no more type rows than the table.
use Rattle.std.proofs.Common.{◌≡◌, ℕ, zero, suc, ◌-◌, ◌<◌, ◌≤◌, Bool, true, false, cond, eqb, ltb, ◌⊎◌, List, [], ◌∷◌, ◌++◌, map, length, get_or, sym, refl, ap, ◌∙◌, subst, inl, inr, ⊎_elim, arith}
use Rattle.std.proofs.str.Laws.{order}
use Rattle.std.proofs.lemmas.Bool.{eq-eqb, ne_eqb, cases_eq}
use Rattle.std.proofs.lemmas.List.{length_push, length-map}
use Rattle.rows.specs.declared.forms.Shape.{Shape}
use Rattle.rows.specs.declared.forms.Shape.TheVariants.{To, Both}
use Rattle.rows.specs.declared.tables.TypeRow.{TypeRow}
use Rattle.rows.specs.declared.tables.TermRow.{TermRow}
use Rattle.rows.specs.Forms.{form_at, shape_kind}
use Rattle.rows.specs.Rows.{type_row, nat_row, leaf_row, row_place}
use Rattle.theory.specs.Syntax.{Ty, nat, to, both, num, name}
use Rattle.theory.specs.Folds.{shaped}
use Rattle.theory.specs.Emit.{Tables, add_type, emit_all, type_emits, emit_type, term_emits, emit, empty, rows_of}
use Rattle.theory.specs.Stands.{term_at, rule_of}
use Rattle.theory.specs.Laws.{Below, Compound, parts_of, Lawful}
use Rattle.theory.specs.Induction.{by_shapes, fold_shaped, fold_built}
use Rattle.theory.specs.Theorems.{type_at, types_of, Unfolds}
use Rattle.theory.proofs.Standing.{TypeAt, Ext, Fine, types_good, terms_good, lay_type_good, empty_fine}
use Rattle.theory.proofs.Lawful.{rows_kept}
use Rattle.theory.proofs.Unfolding.{unfold_type}

-- ---- types apart

tag : Ty → ℕ
tag nat = 0
tag (to T U) = 1
tag (both T U) = 2

left_of : Ty → Ty
left_of nat = nat
left_of (to T U) = T
left_of (both T U) = T

right_of : Ty → Ty
right_of nat = nat
right_of (to T U) = U
right_of (both T U) = U

no_shape : (k : Shape) (T U : Ty) → nat ≡ shaped k T U → ⊥
unfolding tag
no_shape To T U e = let z : ◌≡◌ {A = ℕ} 0 1 = ap tag e in omega arith
no_shape Both T U e = let z : ◌≡◌ {A = ℕ} 0 2 = ap tag e in omega arith

same_shape : (k j : Shape) (T U V W : Ty) → shaped k T U ≡ shaped j V W → (k ≡ j) × (T ≡ V) × (U ≡ W)
unfolding tag left_of right_of
same_shape To To T U V W e = (refl, ap left_of e, ap right_of e)
same_shape To Both T U V W e = let z : ◌≡◌ {A = ℕ} 1 2 = ap tag e in absurd (omega arith)
same_shape Both To T U V W e = let z : ◌≡◌ {A = ℕ} 2 1 = ap tag e in absurd (omega arith)
same_shape Both Both T U V W e = (refl, ap left_of e, ap right_of e)

-- ---- the rows of a type table

pub data Is (ts : List TypeRow) (p : ℕ) : Type 0 where
  is_nat : p ≡ 0 → type_at ts p ≡ nat → Is ts p
  is_shape : (k : Shape) (l m : ℕ) → l < p → m < p → get_or ts p nat_row ≡ type_row (shape_kind k) l m → type_at ts p ≡ shaped k (type_at ts l) (type_at ts m) → Is ts p

module _ (ts : List TypeRow) (first : (d : TypeRow) → get_or ts 0 d ≡ nat_row) (later : (p : ℕ) (d : TypeRow) → 0 < p → p < length ts → Compound p (get_or ts p d)) where
  abbrev row : ℕ → TypeRow
  row p = get_or ts p nat_row

  stood : (p n : ℕ) → p < length ts → (row p).kind ≡ n → type_at ts p ≡ cond (eqb n 0) nat (shaped (cond (eqb n 1) To Both) (type_at ts (row p).left) (type_at ts (row p).right))
  stood p n h z =
      (unfold_type ts first later p nat_row h).stands
      ∙ ap (λ k. cond (eqb k 0) nat (shaped (cond (eqb k 1) To Both) (type_at ts (row p).left) (type_at ts (row p).right))) z

  is : (p : ℕ) → p < length ts → Is ts p
  is zero h = is_nat refl (stood 0 0 h (ap (λ r. r.kind) (first nat_row)))
  is (suc p) h =
      let c = later (suc p) nat_row (omega arith) h in
      let r = row (suc p) in
      ⊎_elim
      (λ (z : r.kind ≡ 1). is_shape To r.left r.right c.left c.right (λ i. record { kind = z i; left = r.left; right = r.right }) (stood (suc p) 1 h z))
      (λ (z : r.kind ≡ 2). is_shape Both r.left r.right c.left c.right (λ i. record { kind = z i; left = r.left; right = r.right }) (stood (suc p) 2 h z))
      c.kind

  -- rows that stand for one type are one
  module _ (apart : (p q : ℕ) (d : TypeRow) → p < q → q < length ts → get_or ts p d ≡ get_or ts q d → ⊥) where
    one_row : (p q : ℕ) → p < length ts → q < length ts → row p ≡ row q → p ≡ q
    one_row p q hp hq e =
        ⊎_elim (λ lt. absurd (apart p q nat_row lt hq e))
        (λ ge. ⊎_elim (λ lt. absurd (apart q p nat_row lt hp (sym e))) (λ le. omega arith) (order q p))
        (order p q)

    agree : (m p q : ℕ) → ((a b : ℕ) → a < p → b < q → type_at ts a ≡ type_at ts b → a ≡ b) → p < length ts → q < length ts → Is ts p → Is ts q → type_at ts p ≡ type_at ts q → p ≡ q
    agree m p q ih hp hq (is_nat z a) (is_nat y b) e = z ∙ sym y
    agree m p q ih hp hq (is_nat z a) (is_shape k l n hl hn r b) e = absurd (no_shape k _ _ (sym a ∙ e ∙ b))
    agree m p q ih hp hq (is_shape k l n hl hn r b) (is_nat z a) e = absurd (no_shape k _ _ (sym a ∙ sym e ∙ b))
    agree m p q ih hp hq (is_shape k l n hl hn r b) (is_shape j x y hx hy t c) e =
        let w = same_shape k j _ _ _ _ (sym b ∙ e ∙ c) in
        let first_is = ih l x hl hx w.1 in
        let second_is = ih n y hn hy w.2 in
        one_row p q hp hq (r ∙ (λ i. type_row (shape_kind (w.0 i)) (first_is i) (second_is i)) ∙ sym t)

    one_place : (m p q : ℕ) → p < m → p < length ts → q < length ts → type_at ts p ≡ type_at ts q → p ≡ q
    one_place zero p q h hp hq e = absurd (omega arith)
    one_place (suc m) p q h hp hq e = agree m p q (λ a b ha hb f. one_place m a b (omega arith) (omega arith) (omega arith) f) hp hq (is p hp) (is q hq) e

-- ---- no more places than there are

-- v instead of m
swap_cases : (x m v : ℕ) → ((x ≡ m) × (cond (eqb x m) v x ≡ v)) ⊎ ((x ≡ m → ⊥) × (cond (eqb x m) v x ≡ x))
swap_cases x m v = ⊎_elim (λ (z : x ≡ m). inl (z, ap (λ t. cond t v x) (eq-eqb x m z))) (λ (z : x ≡ m → ⊥). inr (z, ap (λ t. cond t v x) (ne_eqb x m z))) (cases_eq x m)

pigeon : (m n : ℕ) (g : ℕ → ℕ) → ((p : ℕ) → p < n → g p < m) → ((p q : ℕ) → p < q → q < n → g p ≡ g q → ⊥) → n ≤ m
pigeon zero zero g below apart = omega arith
pigeon zero (suc n) g below apart = let z = below 0 (omega arith) in absurd (omega arith)
pigeon (suc m) zero g below apart = omega arith
pigeon (suc m) (suc n) g below apart = let k = pigeon m n (λ p. cond (eqb (g p) m) (g n) (g p)) within distinct in omega arith
  where
    within : (p : ℕ) → p < n → cond (eqb (g p) m) (g n) (g p) < m
    within p h =
        ⊎_elim
        (λ w. ⊎_elim (λ lt. let e = w.1 in omega arith) (λ ge. let b = below n (omega arith) in absurd (apart p n h (omega arith) (w.0 ∙ omega arith))) (order (g n) m))
        (λ w. ⊎_elim (λ lt. let e = w.1 in omega arith) (λ ge. let b = below p (omega arith) in absurd (w.0 (omega arith))) (order (g p) m))
        (swap_cases (g p) m (g n))

    distinct : (p q : ℕ) → p < q → q < n → cond (eqb (g p) m) (g n) (g p) ≡ cond (eqb (g q) m) (g n) (g q) → ⊥
    distinct p q lt h e =
        ⊎_elim
        (λ w. ⊎_elim (λ v. apart p q lt (omega arith) (w.0 ∙ sym v.0)) (λ v. apart q n h (omega arith) (sym v.1 ∙ sym e ∙ w.1)) (swap_cases (g q) m (g n)))
        (λ w. ⊎_elim (λ v. apart p n (omega arith) (omega arith) (sym w.1 ∙ e ∙ v.1)) (λ v. apart p q lt (omega arith) (sym w.1 ∙ e ∙ v.1)) (swap_cases (g q) m (g n)))
        (swap_cases (g p) m (g n))

-- ---- the types that occur in a table

module _ (s : Tables) (l : Lawful s) (u : Unfolds s) where
  abbrev Occurs : Ty → Type 0
  Occurs T = (q : ℕ) × (q < length s.0) × (type_at s.0 q ≡ T)

  halves : (k : Shape) (T U : Ty) (q : ℕ) → q < length s.0 → type_at s.0 q ≡ shaped k T U → Is s.0 q → Occurs T × Occurs U
  halves k T U q h e (is_nat z a) = absurd (no_shape k T U (sym a ∙ e))
  halves k T U q h e (is_shape j x y hx hy r a) =
      let w = same_shape j k _ _ T U (sym a ∙ e) in
      ((x, omega arith, w.1), (y, omega arith, w.2))

  -- every type row stands for one of them
  abbrev AllOccur : Tables → Type 0
  AllOccur t = (p : ℕ) → p < length t.0 → Occurs (type_at t.0 p)

  added : (r : TypeRow) (t : Tables) (T : Ty) → Occurs T → AllOccur t → Ext t (add_type r t).0 → TypeAt (add_type r t).0 (add_type r t).1 T → AllOccur (add_type r t).0
  added r t T o all ext at = go (ltb (row_place r t.0) (length t.0)) ext at
    where
      laid : Bool → Tables × ℕ
      laid b = cond b (t, row_place r t.0) ((t.0 ++ r ∷ [], t.1), length t.0)

      go : (b : Bool) → Ext t (laid b).0 → TypeAt (laid b).0 (laid b).1 T → AllOccur (laid b).0
      go true ext at = all
      go false ext at = λ p h.
          let n = length_push t.0 r in
          ⊎_elim (λ lt. subst Occurs (sym (ext.for_types p _ (lt, refl)).1) (all p lt))
          (λ ge. let here : length t.0 ≡ p = omega arith in subst Occurs (sym at.1 ∙ ap (type_at (t.0 ++ r ∷ [])) here) o)
          (order p (length t.0))

  type_occurs : (T : Ty) → Occurs T → (t : Tables) → Fine t → AllOccur t → AllOccur (emit_type T t).0
  type_occurs = by_shapes (λ T. Occurs T → (t : Tables) → Fine t → AllOccur t → AllOccur (emit_type T t).0) (λ o t f all. all)
      (λ k T U a b o.
      subst (λ e. (t : Tables) → Fine t → AllOccur t → AllOccur (e t).0) (sym (fold_shaped type_emits k T U))
      (λ t f all.
      let o2 = halves k T U o.0 o.1 o.2 (is s.0 l.first l.later o.0 o.1) in
      let g = types_good T t f in
      let t1 = (emit_type T t).0 in
      let h = types_good U t1 g.0 in
      let t2 = (emit_type U t1).0 in
      let more = lay_type_good k t2 (emit_type T t).1 (emit_type U t1).1 T U h.0 (h.1.for_types (emit_type T t).1 T g.2) h.2 in
      added (type_row (shape_kind k) (emit_type T t).1 (emit_type U t1).1) t2 (shaped k T U) o (b o2.1 t1 g.0 (a o2.0 t f all)) more.1 more.2))

  types_occur : (xs : List ℕ) → Below (length s.0) xs → (t : Tables) → Fine t → AllOccur t → Fine (emit_all (map emit_type (map (type_at s.0) xs)) t).0 × AllOccur (emit_all (map emit_type (map (type_at s.0) xs)) t).0
  types_occur [] b t f all = (f, all)
  types_occur (x ∷ xs) b t f all =
      let T = type_at s.0 x in
      types_occur xs b.1 (emit_type T t).0 (types_good T t f).0 (type_occurs T (x, b.0, refl) t f all)

  abbrev Keeps : ℕ → Type 0
  Keeps p = (t : Tables) → Fine t → AllOccur t → AllOccur (emit (term_at s p) t).0

  parts_occur : (p : ℕ) (ys : List ℕ) → Below p ys → ((q : ℕ) → q < p → Keeps q) → (t : Tables) → Fine t → AllOccur t → AllOccur (emit_all (map emit (map (term_at s) ys)) t).0
  parts_occur p [] b ih t f all = all
  parts_occur p (y ∷ ys) b ih t f all = parts_occur p ys b.1 ih (emit (term_at s y) t).0 (terms_good (term_at s y) t f).0 (ih y b.0 t f all)

  abbrev no_row : TermRow
  no_row = leaf_row 0 0

  leaf_keeps : (b : Bool) (n : ℕ) (t : Tables) → AllOccur t → AllOccur (emit (cond b (num n) (name n)) t).0
  leaf_keeps true n t all = all
  leaf_keeps false n t all = all

  keeps : (m p : ℕ) → p < m → p < length s.1 → Keeps p
  keeps zero p h lt t f all = absurd (omega arith)
  keeps (suc m) p h lt t f all =
      let r = get_or s.1 p no_row in
      ⊎_elim
      (λ k. subst (λ e. AllOccur (emit e t).0) (sym (u.leaf p no_row lt k).stands) (leaf_keeps (eqb r.kind 0) r.number t all))
      (λ k.
      let v = u.form p no_row lt k in
      let Ts = map (type_at s.0) (types_of r) in
      let es = map (term_at s) (parts_of r) in
      let a = length-map (types_of r) (type_at s.0) ∙ v.all_types in
      let b = length-map (parts_of r) (term_at s) ∙ v.all_parts in
      let w = types_occur (types_of r) v.types_below t f all in
      subst (λ e. AllOccur (emit e t).0) (sym v.stands)
      (subst (λ g. AllOccur (g t).0) (sym (fold_built term_emits (form_at r.kind) Ts es a b))
      (parts_occur p (parts_of r) v.parts_below (λ q j. keeps m q (omega arith) (omega arith)) (emit_all (map emit_type Ts) t).0 w.0 w.1)))
      (order r.kind 2)

  rule_occurs : AllOccur (rows_of (rule_of s))
  rule_occurs =
      let some = l.type_count.0 in
      let terms = l.term_count.0 in
      keeps (length s.1) (length s.1 - 1) (omega arith) (omega arith) empty empty_fine (λ p h. nat_occurs p h some)
    where
      nat_occurs : (p : ℕ) → p < 1 → 1 ≤ length s.0 → Occurs (type_at empty.0 p)
      nat_occurs zero h some = (0, omega arith, nat_first (is s.0 l.first l.later 0 (omega arith)))
        where
          nat_first : Is s.0 0 → type_at s.0 0 ≡ nat
          nat_first (is_nat z a) = a
          nat_first (is_shape k x y hx hy r a) = absurd (omega arith)
      nat_occurs (suc p) h some = absurd (omega arith)

  pub no_more : length (rows_of (rule_of s)).0 ≤ length s.0
  no_more = pigeon (length s.0) n place within distinct
    where
      ts : List TypeRow
      ts = (rows_of (rule_of s)).0

      n : ℕ
      n = length ts

      choose : (p : ℕ) → (p < n) ⊎ (n ≤ p) → ℕ
      choose p (inl h) = (rule_occurs p h).0
      choose p (inr h) = 0

      place : ℕ → ℕ
      place p = choose p (order p n)

      chosen : (p : ℕ) (o : (p < n) ⊎ (n ≤ p)) → p < n → (choose p o < length s.0) × (type_at s.0 (choose p o) ≡ type_at ts p)
      chosen p (inl h) k = ((rule_occurs p h).1, (rule_occurs p h).2)
      chosen p (inr h) k = absurd (omega arith)

      within : (p : ℕ) → p < n → place p < length s.0
      within p h = (chosen p (order p n) h).0

      distinct : (p q : ℕ) → p < q → q < n → place p ≡ place q → ⊥
      distinct p q lt h e =
          let k = rows_kept (rule_of s) (u.small (length s.1 - 1) (let some = l.term_count.0 in omega arith)) in
          let same = sym (chosen p (order p n) (omega arith)).1 ∙ ap (type_at s.0) e ∙ (chosen q (order q n) h).1 in
          let one = one_place ts k.first k.later k.apart (suc p) p q (omega arith) (omega arith) h same in
          omega arith
