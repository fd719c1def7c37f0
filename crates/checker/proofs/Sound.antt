-- A type that is found is one by the judgement.
use Rattle.std.proofs.Common.{◌≡◌, ℕ, zero, suc, ◌≤◌, Bool, true, false, cond, ◌&&◌, eqb, ltb, List, [], ◌∷◌, map, get_or, Some, None, Ok, Err, Option, sym, refl, ap, ◌∙◌, subst, arith}
use Rattle.std.specs.List.{slice_get}
use Rattle.std.proofs.lemmas.Bool.{and_parts, eqb-true, cond-true}
use Rattle.rows.specs.Limits.{top}
use Rattle.rows.specs.Forms.{form_at}
use Rattle.rows.specs.declared.tables.TypeRow.{TypeRow}
use Rattle.rows.specs.declared.tables.TermRow.{TermRow}
use Rattle.theory.specs.Syntax.{Ty, nat, to, both, Op, add, sub, mul, calc, pair, Term, num, name, two, lam}
use Rattle.theory.specs.Folds.{built}
use Rattle.theory.specs.Stands.{types_from}
use Rattle.theory.specs.Typing.{◌⊢◌∶◌, ⊢num, ⊢name, ⊢one, ⊢two, ⊢ifz, ⊢lam, ⊢app, ⊢fix, ⊢fail, ⊢catch}
use Rattle.theory.specs.Typing.{of_succ, of_get, of_fst, of_snd, of_pair, of_calc}
use Rattle.checker.specs.Lowest.{lower}
use Rattle.checker.specs.RowTests.{arity}
use Rattle.checker.specs.Types.{Found, fault, type_in, settled, need, known, bound, under, own_type, row_of, is_to, is_both, no_type}
use Rattle.checker.specs.Contexts.{Context, Fills, HasType}
use Rattle.checker.proofs.ByKind.{kinds}
use Rattle.checker.proofs.Shallows.{some_none, some_same}
use Rattle.checker.proofs.TermLaws.{row}
use Rattle.checker.proofs.TypeRows.{ty_at}

-- ---- what a type that was found tells of the parts

pub record Parts (x y z : Found) (t : ℕ → ℕ → ℕ → Option ℕ) (p : ℕ) : Type 0 where
  pub px : ℕ
  pub py : ℕ
  pub pz : ℕ
  pub x-is : x ≡ Ok px
  pub y-is : y ≡ Ok py
  pub z-is : z ≡ Ok pz
  pub rule_is : t px py pz ≡ Some p

pub err_ok : (i p : ℕ) → ◌≡◌ {A = Found} (Err i) (Ok p) → ⊥
err_ok i p e = let z : ◌≡◌ {A = ℕ} 0 1 = cc in omega arith

own : (i : ℕ) (t : Option ℕ) (p : ℕ) → settled i None t ≡ Ok p → t ≡ Some p
own i (Some q) p e = cc
own i None p e = absurd (err_ok i p e)

pub inverted : (i : ℕ) (x y z : Found) (t : ℕ → ℕ → ℕ → Option ℕ) (p : ℕ) → settled i (lower (fault x) (lower (fault y) (fault z))) (t (type_in x) (type_in y) (type_in z)) ≡ Ok p → Parts x y z t p
inverted i (Ok a) (Ok b) (Ok c) t p e = record { px = a; py = b; pz = c; x-is = refl; y-is = refl; z-is = refl; rule_is = own i (t a b c) p e }
inverted i (Ok a) (Ok b) (Err l) t p e = absurd (err_ok _ p e)
inverted i (Ok a) (Err k) (Ok c) t p e = absurd (err_ok _ p e)
inverted i (Ok a) (Err k) (Err l) t p e = absurd (err_ok _ p e)
inverted i (Err j) (Ok b) (Ok c) t p e = absurd (err_ok _ p e)
inverted i (Err j) (Ok b) (Err l) t p e = absurd (err_ok _ p e)
inverted i (Err j) (Err k) (Ok c) t p e = absurd (err_ok _ p e)
inverted i (Err j) (Err k) (Err l) t p e = absurd (err_ok _ p e)

needed : (b : Bool) (q p : ℕ) → need b q ≡ Some p → (b ≡ true) × (q ≡ p)
needed true q p e = (refl, cc)
needed false q p e = absurd (some_none p (sym e))

-- ---- names

-- the context of the names in sight
abbrev pub hole : List TypeRow → ℕ → Option Ty
hole ts t = cond (eqb t no_type) None (Some (ty_at ts t))

abbrev pub context : List TypeRow → List ℕ → Context
context ts names = map (hole ts) names

fill_more : (ts : List TypeRow) (t : ℕ) (names : List ℕ) (τ : Ty) (Θ : List Ty) → ty_at ts t ≡ τ → Fills (context ts names) Θ → Fills (context ts (t ∷ names)) (τ ∷ Θ)
fill_more ts t names τ Θ e h = go (eqb t no_type)
  where
    go : (b : Bool) → Fills (cond b None (Some (ty_at ts t)) ∷ context ts names) (τ ∷ Θ)
    go true = h
    go false = (e, h)

-- a name with a type is in sight
sees : (ts : List TypeRow) (names : List ℕ) (Θ : List Ty) (d p : ℕ) → Fills (context ts names) Θ → known (slice_get names d) ≡ Some p → slice_get Θ d ≡ Some (ty_at ts p)
sees ts [] Θ d p h e = absurd (some_none p (sym e))
sees ts (t ∷ names) [] d p h e = absurd h
sees ts (t ∷ names) (τ ∷ Θ) zero p h e = go (eqb t no_type) h e
  where
    go : (b : Bool) → Fills (cond b None (Some (ty_at ts t)) ∷ context ts names) (τ ∷ Θ) → cond b None (Some t) ≡ Some p → ◌≡◌ {A = Option Ty} (Some τ) (Some (ty_at ts p))
    go true h' e' = absurd (some_none p (sym e'))
    go false h' e' = ap (λ x. Some x) (sym h'.0 ∙ ap (ty_at ts) (some_same e'))
sees ts (t ∷ names) (τ ∷ Θ) (suc d) p h e = sees ts names Θ d p (rest (eqb t no_type) h) e
  where
    rest : (b : Bool) → Fills (cond b None (Some (ty_at ts t)) ∷ context ts names) (τ ∷ Θ) → Fills (context ts names) Θ
    rest true h' = h'
    rest false h' = h'.1

pub at : {Γ : List Ty} {e : Term} {σ τ : Ty} → σ ≡ τ → Γ ⊢ e ∶ σ → Γ ⊢ e ∶ τ
at {Γ} {e} q h = subst (λ τ. Γ ⊢ e ∶ τ) q h

-- ---- forms

-- a row's term by the terms of its parts
abbrev pub term_form : List TypeRow → (ℕ → Term) → TermRow → Term
term_form ts g r =
    cond (eqb r.kind 0) (num r.number)
    (cond (eqb r.kind 1) (name r.number)
    (built (form_at r.kind) (get_or (types_from [] ts) r.ty nat ∷ []) (g r.a ∷ g r.b ∷ g r.c ∷ [])))

-- what is known of a part: a type that was found is one by the judgement
abbrev pub Knows : List TypeRow → (List ℕ → Found) → Term → Type 0
Knows ts f e = (l : List ℕ) (q : ℕ) → f l ≡ Ok q → HasType (context ts l) e (ty_at ts q)

module _ (ts : List TypeRow) (nat_is : ty_at ts 0 ≡ nat)
    (to_is : (q : ℕ) → is_to ts q ≡ true → ty_at ts q ≡ to (ty_at ts (row_of ts q).left) (ty_at ts (row_of ts q).right))
    (both_is : (q : ℕ) → is_both ts q ≡ true → ty_at ts q ≡ both (ty_at ts (row_of ts q).left) (ty_at ts (row_of ts q).right))
    (f : ℕ → List ℕ → Found) (g : ℕ → Term) (t n x y z : ℕ) (names : List ℕ) (p : ℕ) where
  abbrev SoundAt : ℕ → Type 0
  SoundAt k =
      (ltb 0 (arity k) ≡ true → Knows ts (f x) (g x)) → (ltb 1 (arity k) ≡ true → Knows ts (f y) (g y)) → (ltb 2 (arity k) ≡ true → Knows ts (f z) (g z))
      → (ltb k 2 ≡ true → n ≤ top)
      → Parts (cond (ltb 0 (arity k)) (f x (under (bound ts (row k t n x y z)) names)) (Ok 0)) (cond (ltb 1 (arity k)) (f y names) (Ok 0)) (cond (ltb 2 (arity k)) (f z (0 ∷ names)) (Ok 0)) (own_type ts (row k t n x y z) (slice_get names n)) p
      → HasType (context ts names) (term_form ts g (row k t n x y z)) (ty_at ts p)

  nat_of : (q : ℕ) → eqb q 0 ≡ true → ty_at ts q ≡ nat
  nat_of q e = ap (ty_at ts) (eqb-true q 0 e) ∙ nat_is

  is_nat : ◌≡◌ {A = ℕ} 0 p → nat ≡ ty_at ts p
  is_nat e = sym nat_is ∙ ap (ty_at ts) e

  calc_case : (o : Op) → (ltb 0 2 ≡ true → Knows ts (f x) (g x)) → (ltb 1 2 ≡ true → Knows ts (f y) (g y)) → (px py : ℕ) → f x names ≡ Ok px → f y names ≡ Ok py → need (eqb px 0 && eqb py 0) 0 ≡ Some p → HasType (context ts names) (two (calc o) (g x) (g y)) (ty_at ts p)
  calc_case o ia ib px py ex ey er Θ h =
      let q = needed (eqb px 0 && eqb py 0) 0 p er in
      let b = and_parts (eqb px 0) (eqb py 0) q.0 in
      at (is_nat q.1) (⊢two of_calc (at (nat_of px b.0) (ia refl names px ex Θ h)) (at (nat_of py b.1) (ib refl names py ey Θ h)))

  pub sound_at : (k : ℕ) → k ≤ 15 → SoundAt k
  sound_at =
      kinds SoundAt
      (λ ia ib ic io w Θ h. at (is_nat (some_same w.rule_is)) (⊢num (io refl)))
      (λ ia ib ic io w Θ h. ⊢name (sees ts names Θ n p h w.rule_is))
      (λ ia ib ic io w Θ h.
      let q = needed (eqb w.px 0) 0 p w.rule_is in
      at (is_nat q.1) (⊢one of_succ (at (nat_of w.px q.0) (ia refl names w.px w.x-is Θ h))))
      (λ ia ib ic io w Θ h.
      let q = needed (eqb w.px 0 && eqb w.py w.pz) w.py p w.rule_is in
      let b = and_parts (eqb w.px 0) (eqb w.py w.pz) q.0 in
      at (ap (ty_at ts) q.1)
      (⊢ifz (at (nat_of w.px b.0) (ia refl names w.px w.x-is Θ h)) (ib refl names w.py w.y-is Θ h)
      (at (ap (ty_at ts) (sym (eqb-true w.py w.pz b.1))) (ic refl (0 ∷ names) w.pz w.z-is (nat ∷ Θ) (fill_more ts 0 names nat Θ nat_is h)))))
      (λ ia ib ic io w Θ h.
      let l = (row_of ts t).left in
      let q = needed (is_to ts t && eqb w.px (row_of ts t).right) t p w.rule_is in
      let b = and_parts (is_to ts t) (eqb w.px (row_of ts t).right) q.0 in
      let x-is : f x (l ∷ names) ≡ Ok w.px = ap (λ u. f x (u ∷ names)) (sym (cond-true (is_to ts t) l no_type b.0)) ∙ w.x-is in
      let body = at (ap (ty_at ts) (eqb-true w.px (row_of ts t).right b.1)) (ia refl (l ∷ names) w.px x-is (ty_at ts l ∷ Θ) (fill_more ts l names (ty_at ts l) Θ refl h)) in
      at (ap (ty_at ts) q.1) (subst (λ T. Θ ⊢ lam T (g x) ∶ T) (sym (to_is t b.0)) (⊢lam body)))
      (λ ia ib ic io w Θ h.
      let q = needed (is_to ts w.px && eqb w.py (row_of ts w.px).left) (row_of ts w.px).right p w.rule_is in
      let b = and_parts (is_to ts w.px) (eqb w.py (row_of ts w.px).left) q.0 in
      at (ap (ty_at ts) q.1)
      (⊢app (at (to_is w.px b.0) (ia refl names w.px w.x-is Θ h)) (at (ap (ty_at ts) (eqb-true w.py (row_of ts w.px).left b.1)) (ib refl names w.py w.y-is Θ h))))
      (λ ia ib ic io w Θ h.
      let q = needed (eqb w.px t) t p w.rule_is in
      at (ap (ty_at ts) q.1) (⊢fix (at (ap (ty_at ts) (eqb-true w.px t q.0)) (ia refl (t ∷ names) w.px w.x-is (ty_at ts t ∷ Θ) (fill_more ts t names (ty_at ts t) Θ refl h)))))
      (λ ia ib ic io w Θ h.
      let q = needed (is_both ts t && (eqb w.px (row_of ts t).left && eqb w.py (row_of ts t).right)) t p w.rule_is in
      let b = and_parts (is_both ts t) (eqb w.px (row_of ts t).left && eqb w.py (row_of ts t).right) q.0 in
      let d = and_parts (eqb w.px (row_of ts t).left) (eqb w.py (row_of ts t).right) b.1 in
      let made = ⊢two of_pair (at (ap (ty_at ts) (eqb-true w.px (row_of ts t).left d.0)) (ia refl names w.px w.x-is Θ h)) (at (ap (ty_at ts) (eqb-true w.py (row_of ts t).right d.1)) (ib refl names w.py w.y-is Θ h)) in
      at (ap (ty_at ts) q.1) (subst (λ T. Θ ⊢ two (pair T) (g x) (g y) ∶ T) (sym (both_is t b.0)) made))
      (λ ia ib ic io w Θ h.
      let q = needed (is_both ts w.px) (row_of ts w.px).left p w.rule_is in
      at (ap (ty_at ts) q.1) (⊢one of_fst (at (both_is w.px q.0) (ia refl names w.px w.x-is Θ h))))
      (λ ia ib ic io w Θ h.
      let q = needed (is_both ts w.px) (row_of ts w.px).right p w.rule_is in
      at (ap (ty_at ts) q.1) (⊢one of_snd (at (both_is w.px q.0) (ia refl names w.px w.x-is Θ h))))
      (λ ia ib ic io w. calc_case add ia ib w.px w.py w.x-is w.y-is w.rule_is)
      (λ ia ib ic io w. calc_case sub ia ib w.px w.py w.x-is w.y-is w.rule_is)
      (λ ia ib ic io w. calc_case mul ia ib w.px w.py w.x-is w.y-is w.rule_is)
      (λ ia ib ic io w Θ h.
      let q = needed (eqb w.px 0) 0 p w.rule_is in
      at (is_nat q.1) (⊢one of_get (at (nat_of w.px q.0) (ia refl names w.px w.x-is Θ h))))
      (λ ia ib ic io w Θ h. at (ap (ty_at ts) (some_same w.rule_is)) ⊢fail)
      (λ ia ib ic io w Θ h.
      let q = needed (eqb w.px w.py) w.px p w.rule_is in
      at (ap (ty_at ts) q.1) (⊢catch (ia refl names w.px w.x-is Θ h) (at (ap (ty_at ts) (sym (eqb-true w.px w.py q.0))) (ib refl names w.py w.y-is Θ h))))
