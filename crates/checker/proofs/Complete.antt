-- A type by the judgement is found.
use Rattle.std.proofs.Common.{◌≡◌, ℕ, zero, suc, ◌<◌, ◌≤◌, Bool, true, false, cond, ◌&&◌, eqb, ltb, ◌⊎◌, List, [], ◌∷◌, map, length, Some, None, Ok, Option, sym, refl, ap, ◌∙◌, subst, inl, inr, ⊎_elim, arith}
use Rattle.std.specs.List.{AllByRecursion as All, slice_get}
use Rattle.std.proofs.lemmas.Bool.{and_from, eq-eqb, ne_eqb, cond-true, cond-false}
use Rattle.rows.specs.declared.tables.TypeRow.{TypeRow}
use Rattle.rows.specs.declared.tables.TermRow.{TermRow}
use Rattle.theory.specs.Syntax.{Ty, nat, to, both, succ, fst, snd, get, Op, calc, pair, Term, num, name, one, two, ifz, lam, app, fix, fail, catch}
use Rattle.theory.specs.Typing.{◌⊢◌∶◌, ⊢num, ⊢name, ⊢one, ⊢two, ⊢ifz, ⊢lam, ⊢app, ⊢fix, ⊢fail, ⊢catch}
use Rattle.theory.specs.Typing.{of_succ, of_get, of_fst, of_snd, of_pair, of_calc}
use Rattle.checker.specs.RowTests.{arity, typed}
use Rattle.checker.specs.Types.{Found, settled, joined, need, known, own_type, row_of, is_to, is_both, no_type, type_form}
use Rattle.checker.proofs.ByKind.{kinds}
use Rattle.checker.proofs.Shallows.{some_none, some_same}
use Rattle.checker.proofs.TermLaws.{row}
use Rattle.checker.proofs.TypeRows.{nat_to, nat_both, to_parts, both_parts, ty_at}
use Rattle.checker.proofs.Sound.{term_form}

-- ---- what a typed form tells of its parts

inv_num : {Γ : List Ty} {n : ℕ} {τ : Ty} → Γ ⊢ num n ∶ τ → τ ≡ nat
inv_num (⊢num h) = refl

inv_name : {Γ : List Ty} {d : ℕ} {τ : Ty} → Γ ⊢ name d ∶ τ → slice_get Γ d ≡ Some τ
inv_name (⊢name h) = h

inv_succ : {Γ : List Ty} {A : Term} {τ : Ty} → Γ ⊢ one succ A ∶ τ → (τ ≡ nat) × Γ ⊢ A ∶ nat
inv_succ (⊢one of_succ h) = (refl, h)

inv_get : {Γ : List Ty} {A : Term} {τ : Ty} → Γ ⊢ one get A ∶ τ → (τ ≡ nat) × Γ ⊢ A ∶ nat
inv_get (⊢one of_get h) = (refl, h)

inv_fst : {Γ : List Ty} {A : Term} {τ : Ty} → Γ ⊢ one fst A ∶ τ → (ρ : Ty) × Γ ⊢ A ∶ both τ ρ
inv_fst (⊢one (of_fst {τ = ρ}) h) = (ρ, h)

inv_snd : {Γ : List Ty} {A : Term} {τ : Ty} → Γ ⊢ one snd A ∶ τ → (σ : Ty) × Γ ⊢ A ∶ both σ τ
inv_snd (⊢one (of_snd {σ = σ}) h) = (σ, h)

inv_calc : {Γ : List Ty} {o : Op} {A B : Term} {τ : Ty} → Γ ⊢ two (calc o) A B ∶ τ → (τ ≡ nat) × Γ ⊢ A ∶ nat × Γ ⊢ B ∶ nat
inv_calc (⊢two of_calc a b) = (refl, a, b)

inv_pair : {Γ : List Ty} {A B : Term} {T τ : Ty} → Γ ⊢ two (pair T) A B ∶ τ → (σ : Ty) × (ρ : Ty) × (T ≡ both σ ρ) × (τ ≡ both σ ρ) × Γ ⊢ A ∶ σ × Γ ⊢ B ∶ ρ
inv_pair (⊢two (of_pair {σ = σ} {τ = ρ}) a b) = (σ, ρ, refl, refl, a, b)

inv_ifz : {Γ : List Ty} {A B C : Term} {τ : Ty} → Γ ⊢ ifz A B C ∶ τ → Γ ⊢ A ∶ nat × Γ ⊢ B ∶ τ × (nat ∷ Γ) ⊢ C ∶ τ
inv_ifz (⊢ifz a b c) = (a, b, c)

inv_lam : {Γ : List Ty} {A : Term} {T τ : Ty} → Γ ⊢ lam T A ∶ τ → (σ : Ty) × (ρ : Ty) × (T ≡ to σ ρ) × (τ ≡ to σ ρ) × (σ ∷ Γ) ⊢ A ∶ ρ
inv_lam (⊢lam {σ = σ} {τ = ρ} h) = (σ, ρ, refl, refl, h)

inv_app : {Γ : List Ty} {A B : Term} {τ : Ty} → Γ ⊢ app A B ∶ τ → (σ : Ty) × Γ ⊢ A ∶ to σ τ × Γ ⊢ B ∶ σ
inv_app (⊢app {σ = σ} a b) = (σ, a, b)

inv_fix : {Γ : List Ty} {A : Term} {T τ : Ty} → Γ ⊢ fix T A ∶ τ → (τ ≡ T) × (T ∷ Γ) ⊢ A ∶ T
inv_fix (⊢fix h) = (refl, h)

inv_fail : {Γ : List Ty} {T τ : Ty} → Γ ⊢ fail T ∶ τ → τ ≡ T
inv_fail ⊢fail = refl

inv_catch : {Γ : List Ty} {A B : Term} {τ : Ty} → Γ ⊢ catch A B ∶ τ → Γ ⊢ A ∶ τ × Γ ⊢ B ∶ τ
inv_catch (⊢catch a b) = (a, b)

-- ---- names

-- types for the names in sight, H for those that have none
abbrev pub fill : List TypeRow → Ty → List ℕ → List Ty
fill ts H names = map (λ t. cond (eqb t no_type) H (ty_at ts t)) names

abbrev pub Valid : ℕ → List ℕ → Type 0
Valid n names = All (λ t. (t ≡ no_type) ⊎ (t < n)) names

abbrev pub H : Ty
H = both nat nat

pub record Typed (ts : List TypeRow) (o : Found) (τ : Ty) : Type 0 where
  pub place : ℕ
  pub valid : place < length ts
  pub is : o ≡ Ok place
  pub type : ty_at ts place ≡ τ

-- with nat and with H for the names that have no type, either the same type is found, or it is that of such a name
abbrev pub Outcome : List TypeRow → Found → Ty → Ty → Type 0
Outcome ts o σ τ = (Typed ts o σ × (σ ≡ τ)) ⊎ ((σ ≡ nat) × (τ ≡ H))

abbrev pub Finds : List TypeRow → (List ℕ → Found) → Term → Type 0
Finds ts f e = (l : List ℕ) → Valid (length ts) l → (σ τ : Ty) → fill ts nat l ⊢ e ∶ σ → fill ts H l ⊢ e ∶ τ → Outcome ts (f l) σ τ

-- a type that is the same both times is found
pub solid : (ts : List TypeRow) (o : Found) (σ τ : Ty) → σ ≡ τ → Outcome ts o σ τ → Typed ts o σ
solid ts o σ τ e (inl (w, q)) = w
solid ts o σ τ e (inr (a, b)) = absurd (nat_both nat nat (sym a ∙ e ∙ b))

-- the parts and the rule put together
made : (ts : List TypeRow) (i : ℕ) (r : TermRow) (v : Option ℕ) (x y z : Found) (px py pz p : ℕ) → x ≡ Ok px → y ≡ Ok py → z ≡ Ok pz → own_type ts r v px py pz ≡ Some p → joined ts i r v x y z ≡ Ok p
made ts i r v x y z px py pz p a b c e =
    ap (λ o. joined ts i r v o y z) a ∙ ap (λ o. joined ts i r v (Ok px) o z) b ∙ ap (λ o. joined ts i r v (Ok px) (Ok py) o) c ∙ ap (settled i None) e

needs_true : (b : Bool) (q : ℕ) → b ≡ true → need b q ≡ Some q
needs_true b q e = cond-true b (Some q) None e

module _ (ts : List TypeRow) (few : length ts ≤ 1024) where
  -- a place is not the one of no type
  pub proper : (t : ℕ) → t < length ts → eqb t no_type ≡ false
  proper t h = ne_eqb t no_type (λ e. omega (arith, h, e))

  seen : (l : List ℕ) (d : ℕ) (σ τ : Ty) → Valid (length ts) l → slice_get (fill ts nat l) d ≡ Some σ → slice_get (fill ts H l) d ≡ Some τ
      → ((t : ℕ) × (known (slice_get l d) ≡ Some t) × (t < length ts) × (ty_at ts t ≡ σ) × (σ ≡ τ)) ⊎ ((σ ≡ nat) × (τ ≡ H))
  seen [] d σ τ v a b = absurd (some_none σ (sym a))
  seen (t ∷ l) zero σ τ v a b =
      ⊎_elim
      (λ (e : t ≡ no_type).
      let q = eq-eqb t no_type e in
      let x = cond-true (eqb t no_type) nat (ty_at ts t) q in
      let y = cond-true (eqb t no_type) H (ty_at ts t) q in
      inr (some_same (sym a ∙ ap (λ o. Some o) x), some_same (sym b ∙ ap (λ o. Some o) y)))
      (λ (h : t < length ts).
      let q = proper t h in
      let x = cond-false (eqb t no_type) nat (ty_at ts t) q in
      let y = cond-false (eqb t no_type) H (ty_at ts t) q in
      let e = some_same (sym (ap (λ o. Some o) x) ∙ a) in
      inl (t, cond-false (eqb t no_type) None (Some t) q, h, e, sym e ∙ some_same (sym (ap (λ o. Some o) y) ∙ b)))
      v.0
  seen (t ∷ l) (suc d) σ τ v a b = seen l d σ τ v.1 a b

  -- a name with a type more in sight
  named : (K : Ty) (t : ℕ) (l : List ℕ) (e : Term) (σ τ : Ty) → t < length ts → ty_at ts t ≡ σ → (σ ∷ fill ts K l) ⊢ e ∶ τ → fill ts K (t ∷ l) ⊢ e ∶ τ
  named K t l e σ τ h q d = subst (λ ν. (ν ∷ fill ts K l) ⊢ e ∶ τ) (sym (cond-false (eqb t no_type) K (ty_at ts t) (proper t h) ∙ q)) d

-- ---- forms

module _ (ts : List TypeRow) (some : 0 < length ts) (few : length ts ≤ 1024) (nat_is : ty_at ts 0 ≡ nat)
    (inj : (p q : ℕ) → p < length ts → q < length ts → ty_at ts p ≡ ty_at ts q → p ≡ q)
    (to_is : (p : ℕ) (σ τ : Ty) → p < length ts → ty_at ts p ≡ to σ τ → (is_to ts p ≡ true) × ((row_of ts p).left < p) × ((row_of ts p).right < p) × (ty_at ts (row_of ts p).left ≡ σ) × (ty_at ts (row_of ts p).right ≡ τ))
    (both_is : (p : ℕ) (σ τ : Ty) → p < length ts → ty_at ts p ≡ both σ τ → (is_both ts p ≡ true) × ((row_of ts p).left < p) × ((row_of ts p).right < p) × (ty_at ts (row_of ts p).left ≡ σ) × (ty_at ts (row_of ts p).right ≡ τ))
    (f : ℕ → List ℕ → Found) (g : ℕ → Term) (i t n x y z : ℕ) (l : List ℕ) (v : Valid (length ts) l) (σ τ : Ty) where
  abbrev CompleteAt : ℕ → Type 0
  CompleteAt k =
      (ltb 0 (arity k) ≡ true → Finds ts (f x) (g x)) → (ltb 1 (arity k) ≡ true → Finds ts (f y) (g y)) → (ltb 2 (arity k) ≡ true → Finds ts (f z) (g z))
      → (typed k ≡ true → t < length ts)
      → fill ts nat l ⊢ term_form ts g (row k t n x y z) ∶ σ → fill ts H l ⊢ term_form ts g (row k t n x y z) ∶ τ
      → Outcome ts (type_form ts f i (row k t n x y z) l) σ τ

  is_zero : (o : Found) (w : Typed ts o nat) → eqb w.place 0 ≡ true
  is_zero o w = eq-eqb w.place 0 (inj w.place 0 w.valid some (w.type ∙ sym nat_is))

  same_of : (p q : ℕ) → p < length ts → q < length ts → ty_at ts p ≡ ty_at ts q → eqb p q ≡ true
  same_of p q hp hq e = eq-eqb p q (inj p q hp hq e)

  -- a row of nat with one part of nat
  one_nat : (k : ℕ) → Finds ts (f x) (g x) → ((px : ℕ) → own_type ts (row k t n x y z) (slice_get l n) px 0 0 ≡ need (eqb px 0) 0)
      → (σ ≡ nat) × fill ts nat l ⊢ g x ∶ nat → (τ ≡ nat) × fill ts H l ⊢ g x ∶ nat
      → Outcome ts (joined ts i (row k t n x y z) (slice_get l n) (f x l) (Ok 0) (Ok 0)) σ τ
  one_nat k ia ru w u =
      let a = solid ts (f x l) nat nat refl (ia l v nat nat w.1 u.1) in
      inl (record { place = 0; valid = some; is = made ts i (row k t n x y z) (slice_get l n) (f x l) (Ok 0) (Ok 0) a.place 0 0 0 a.is refl refl (ru a.place ∙ needs_true (eqb a.place 0) 0 (is_zero _ a)); type = nat_is ∙ sym w.0 }, w.0 ∙ sym u.0)

  -- and with two
  two_nat : (k : ℕ) → Finds ts (f x) (g x) → Finds ts (f y) (g y) → ((px py : ℕ) → own_type ts (row k t n x y z) (slice_get l n) px py 0 ≡ need (eqb px 0 && eqb py 0) 0)
      → (σ ≡ nat) × fill ts nat l ⊢ g x ∶ nat × fill ts nat l ⊢ g y ∶ nat → (τ ≡ nat) × fill ts H l ⊢ g x ∶ nat × fill ts H l ⊢ g y ∶ nat
      → Outcome ts (joined ts i (row k t n x y z) (slice_get l n) (f x l) (f y l) (Ok 0)) σ τ
  two_nat k ia ib ru w u =
      let a = solid ts (f x l) nat nat refl (ia l v nat nat w.1 u.1) in
      let b = solid ts (f y l) nat nat refl (ib l v nat nat w.2 u.2) in
      inl (record { place = 0; valid = some; is = made ts i (row k t n x y z) (slice_get l n) (f x l) (f y l) (Ok 0) a.place b.place 0 0 a.is b.is refl (ru a.place b.place ∙ needs_true (eqb a.place 0 && eqb b.place 0) 0 (and_from (eqb a.place 0) (eqb b.place 0) (is_zero _ a) (is_zero _ b))); type = nat_is ∙ sym w.0 }, w.0 ∙ sym u.0)

  name_case : (typed 1 ≡ true → t < length ts) → slice_get (fill ts nat l) n ≡ Some σ → slice_get (fill ts H l) n ≡ Some τ → Outcome ts (settled i None (known (slice_get l n))) σ τ
  name_case it a b =
      ⊎_elim
      (λ (w : (p : ℕ) × (known (slice_get l n) ≡ Some p) × (p < length ts) × (ty_at ts p ≡ σ) × (σ ≡ τ)). inl (record { place = w.0; valid = w.2; is = ap (settled i None) w.1; type = w.3 }, w.4))
      inr
      (seen ts few l n σ τ v a b)

  ifz_case : Finds ts (f x) (g x) → Finds ts (f y) (g y) → Finds ts (f z) (g z)
      → fill ts nat l ⊢ g x ∶ nat × fill ts nat l ⊢ g y ∶ σ × (nat ∷ fill ts nat l) ⊢ g z ∶ σ
      → fill ts H l ⊢ g x ∶ nat × fill ts H l ⊢ g y ∶ τ × (nat ∷ fill ts H l) ⊢ g z ∶ τ
      → Outcome ts (joined ts i (row 3 t n x y z) (slice_get l n) (f x l) (f y l) (f z (0 ∷ l))) σ τ
  ifz_case ia ib ic w u =
      let a = solid ts (f x l) nat nat refl (ia l v nat nat w.0 u.0) in
      ⊎_elim
      (λ (q : Typed ts (f y l) σ × (σ ≡ τ)).
      let b = q.0 in
      let c = solid ts (f z (0 ∷ l)) σ τ q.1 (ic (0 ∷ l) (inr some, v) σ τ (named ts few nat 0 l (g z) nat σ some nat_is w.2) (named ts few H 0 l (g z) nat τ some nat_is u.2)) in
      inl (record { place = b.place; valid = b.valid; is = made ts i (row 3 t n x y z) (slice_get l n) (f x l) (f y l) (f z (0 ∷ l)) a.place b.place c.place b.place a.is b.is c.is (needs_true (eqb a.place 0 && eqb b.place c.place) b.place (and_from (eqb a.place 0) (eqb b.place c.place) (is_zero _ a) (same_of b.place c.place b.valid c.valid (b.type ∙ sym c.type)))); type = b.type }, q.1))
      inr
      (ib l v σ τ w.1 u.1)

  pub complete_at : (k : ℕ) → k ≤ 15 → CompleteAt k
  complete_at =
      kinds CompleteAt
      (λ ia ib ic it a b. inl (record { place = 0; valid = some; is = refl; type = nat_is ∙ sym (inv_num a) }, inv_num a ∙ sym (inv_num b)))
      (λ ia ib ic it a b. name_case it (inv_name a) (inv_name b))
      (λ ia ib ic it a b. one_nat 2 (ia refl) (λ p. refl) (inv_succ a) (inv_succ b))
      (λ ia ib ic it a b. ifz_case (ia refl) (ib refl) (ic refl) (inv_ifz a) (inv_ifz b))
      (λ ia ib ic it a b.
      let w = inv_lam a in
      let u = inv_lam b in
      let tv = it refl in
      let same = to_parts _ _ _ _ (sym w.2 ∙ u.2) in
      let q = to_is t w.0 w.1 tv w.2 in
      let lt : (row_of ts t).left < length ts = omega (arith, q.1, tv) in
      let c = solid ts (f x ((row_of ts t).left ∷ l)) w.1 u.1 same.1 (ia refl ((row_of ts t).left ∷ l) (inr lt, v) w.1 u.1 (named ts few nat (row_of ts t).left l (g x) w.0 w.1 lt q.3 w.4) (named ts few H (row_of ts t).left l (g x) u.0 u.1 lt (q.3 ∙ same.0) u.4)) in
      let c_is : f x (cond (is_to ts t) (row_of ts t).left no_type ∷ l) ≡ Ok c.place = ap (λ o. f x (o ∷ l)) (cond-true (is_to ts t) (row_of ts t).left no_type q.0) ∙ c.is in
      inl (record { place = t; valid = tv; is = made ts i (row 4 t n x y z) (slice_get l n) (f x (cond (is_to ts t) (row_of ts t).left no_type ∷ l)) (Ok 0) (Ok 0) c.place 0 0 t c_is refl refl (needs_true (is_to ts t && eqb c.place (row_of ts t).right) t (and_from (is_to ts t) (eqb c.place (row_of ts t).right) q.0 (same_of c.place (row_of ts t).right c.valid (omega (arith, q.2, tv)) (c.type ∙ sym q.4)))); type = w.2 ∙ sym w.3 }, w.3 ∙ sym w.2 ∙ u.2 ∙ sym u.3))
      (λ ia ib ic it a b.
      let w = inv_app a in
      let u = inv_app b in
      ⊎_elim
      (λ (m : Typed ts (f x l) (to w.0 σ) × (to w.0 σ ≡ to u.0 τ)).
      let h = m.0 in
      let same = to_parts _ _ _ _ m.1 in
      let c = solid ts (f y l) w.0 u.0 same.0 (ib refl l v w.0 u.0 w.2 u.2) in
      let q = to_is h.place w.0 σ h.valid h.type in
      inl (record { place = (row_of ts h.place).right; valid = omega (arith, q.2, h.valid); is = made ts i (row 5 t n x y z) (slice_get l n) (f x l) (f y l) (Ok 0) h.place c.place 0 (row_of ts h.place).right h.is c.is refl (needs_true (is_to ts h.place && eqb c.place (row_of ts h.place).left) (row_of ts h.place).right (and_from (is_to ts h.place) (eqb c.place (row_of ts h.place).left) q.0 (same_of c.place (row_of ts h.place).left c.valid (omega (arith, q.1, h.valid)) (c.type ∙ sym q.3)))); type = q.4 }, same.1))
      (λ (m : (to w.0 σ ≡ nat) × (to u.0 τ ≡ H)). absurd (nat_to w.0 σ (sym m.0)))
      (ia refl l v (to w.0 σ) (to u.0 τ) w.1 u.1))
      (λ ia ib ic it a b.
      let w = inv_fix a in
      let u = inv_fix b in
      let tv = it refl in
      let c = solid ts (f x (t ∷ l)) (ty_at ts t) (ty_at ts t) refl (ia refl (t ∷ l) (inr tv, v) (ty_at ts t) (ty_at ts t) (named ts few nat t l (g x) (ty_at ts t) (ty_at ts t) tv refl w.1) (named ts few H t l (g x) (ty_at ts t) (ty_at ts t) tv refl u.1)) in
      inl (record { place = t; valid = tv; is = made ts i (row 6 t n x y z) (slice_get l n) (f x (t ∷ l)) (Ok 0) (Ok 0) c.place 0 0 t c.is refl refl (needs_true (eqb c.place t) t (same_of c.place t c.valid tv c.type)); type = sym w.0 }, w.0 ∙ sym u.0))
      (λ ia ib ic it a b.
      let w = inv_pair a in
      let u = inv_pair b in
      let tv = it refl in
      let same = both_parts _ _ _ _ (sym w.2 ∙ u.2) in
      let q = both_is t w.0 w.1 tv w.2 in
      let c = solid ts (f x l) w.0 u.0 same.0 (ia refl l v w.0 u.0 w.4 u.4) in
      let d = solid ts (f y l) w.1 u.1 same.1 (ib refl l v w.1 u.1 w.5 u.5) in
      inl (record { place = t; valid = tv; is = made ts i (row 7 t n x y z) (slice_get l n) (f x l) (f y l) (Ok 0) c.place d.place 0 t c.is d.is refl (needs_true (is_both ts t && (eqb c.place (row_of ts t).left && eqb d.place (row_of ts t).right)) t (and_from (is_both ts t) (eqb c.place (row_of ts t).left && eqb d.place (row_of ts t).right) q.0 (and_from (eqb c.place (row_of ts t).left) (eqb d.place (row_of ts t).right) (same_of c.place (row_of ts t).left c.valid (omega (arith, q.1, tv)) (c.type ∙ sym q.3)) (same_of d.place (row_of ts t).right d.valid (omega (arith, q.2, tv)) (d.type ∙ sym q.4))))); type = w.2 ∙ sym w.3 }, w.3 ∙ sym w.2 ∙ u.2 ∙ sym u.3))
      (λ ia ib ic it a b.
      let w = inv_fst a in
      let u = inv_fst b in
      ⊎_elim
      (λ (m : Typed ts (f x l) (both σ w.0) × (both σ w.0 ≡ both τ u.0)).
      let h = m.0 in
      let q = both_is h.place σ w.0 h.valid h.type in
      inl (record { place = (row_of ts h.place).left; valid = omega (arith, q.1, h.valid); is = made ts i (row 8 t n x y z) (slice_get l n) (f x l) (Ok 0) (Ok 0) h.place 0 0 (row_of ts h.place).left h.is refl refl (needs_true (is_both ts h.place) (row_of ts h.place).left q.0); type = q.3 }, (both_parts _ _ _ _ m.1).0))
      (λ (m : (both σ w.0 ≡ nat) × (both τ u.0 ≡ H)). absurd (nat_both σ w.0 (sym m.0)))
      (ia refl l v (both σ w.0) (both τ u.0) w.1 u.1))
      (λ ia ib ic it a b.
      let w = inv_snd a in
      let u = inv_snd b in
      ⊎_elim
      (λ (m : Typed ts (f x l) (both w.0 σ) × (both w.0 σ ≡ both u.0 τ)).
      let h = m.0 in
      let q = both_is h.place w.0 σ h.valid h.type in
      inl (record { place = (row_of ts h.place).right; valid = omega (arith, q.2, h.valid); is = made ts i (row 9 t n x y z) (slice_get l n) (f x l) (Ok 0) (Ok 0) h.place 0 0 (row_of ts h.place).right h.is refl refl (needs_true (is_both ts h.place) (row_of ts h.place).right q.0); type = q.4 }, (both_parts _ _ _ _ m.1).1))
      (λ (m : (both w.0 σ ≡ nat) × (both u.0 τ ≡ H)). absurd (nat_both w.0 σ (sym m.0)))
      (ia refl l v (both w.0 σ) (both u.0 τ) w.1 u.1))
      (λ ia ib ic it a b. two_nat 10 (ia refl) (ib refl) (λ p q. refl) (inv_calc a) (inv_calc b))
      (λ ia ib ic it a b. two_nat 11 (ia refl) (ib refl) (λ p q. refl) (inv_calc a) (inv_calc b))
      (λ ia ib ic it a b. two_nat 12 (ia refl) (ib refl) (λ p q. refl) (inv_calc a) (inv_calc b))
      (λ ia ib ic it a b. one_nat 13 (ia refl) (λ p. refl) (inv_get a) (inv_get b))
      (λ ia ib ic it a b. inl (record { place = t; valid = it refl; is = refl; type = sym (inv_fail a) }, inv_fail a ∙ sym (inv_fail b)))
      (λ ia ib ic it a b.
      let w = inv_catch a in
      let u = inv_catch b in
      ⊎_elim
      (λ (m : Typed ts (f x l) σ × (σ ≡ τ)).
      let h = m.0 in
      let c = solid ts (f y l) σ τ m.1 (ib refl l v σ τ w.1 u.1) in
      inl (record { place = h.place; valid = h.valid; is = made ts i (row 15 t n x y z) (slice_get l n) (f x l) (f y l) (Ok 0) h.place c.place 0 h.place h.is c.is refl (needs_true (eqb h.place c.place) h.place (same_of h.place c.place h.valid c.valid (h.type ∙ sym c.type))); type = h.type }, m.1))
      inr
      (ia refl l v σ τ w.0 u.0))
