-- The types of the rows of lawful tables are those of their terms.
use Rattle.std.proofs.Common.{◌≡◌, ℕ, zero, suc, ◌<◌, ◌≤◌, true, cond, eqb, ltb, List, [], ◌∷◌, ◌++◌, length, get_or, take, Ok, sym, refl, ap, ◌∙◌, subst, arith}
use Rattle.std.specs.List.{slice_get}
use Rattle.std.proofs.lemmas.List.{get_or-take}
use Rattle.std.proofs.lemmas.Bool.{leb-true, ltb-true, cond-true}
use Rattle.rows.specs.Limits.{top}
use Rattle.rows.specs.declared.tables.TypeRow.{TypeRow}
use Rattle.rows.specs.declared.tables.TermRow.{TermRow}
use Rattle.theory.specs.Syntax.{Ty, nat, add, sub, mul, calc, pair, succ, fst, snd, get, Term, num, one, two, ifz, lam, app, fix, catch}
use Rattle.theory.specs.Emit.{Tables}
use Rattle.theory.specs.Stands.{types_from, term_of_row, terms_from, term_at}
use Rattle.checker.specs.Descents.{rows_as}
use Rattle.checker.specs.RowTests.{no_row, arity, typed, good_term}
use Rattle.checker.specs.Types.{bound, under, own_type, type_at}
use Rattle.checker.specs.Contexts.{HasType}
use Rattle.checker.proofs.ByKind.{kinds}
use Rattle.checker.proofs.Lows.{lowest_good}
use Rattle.checker.proofs.Folding.{row_at}
use Rattle.checker.proofs.Placing.{a_below, b_below, c_below}
use Rattle.checker.proofs.Sheets.{Good, good, Kept, kept_placed}
use Rattle.checker.proofs.TermLaws.{row}
use Rattle.checker.proofs.TypeRows.{ty_at, nat_at, to_row, both_row, one_place, to_place, both_place}
use Rattle.checker.proofs.Typings.{type_step}
use Rattle.checker.proofs.Sound.{inverted, context, Knows, term_form, sound_at}
use Rattle.theory.specs.Typing.{◌⊢◌∶◌}
use Rattle.checker.proofs.Complete.{Outcome, Finds, fill, H, complete_at}

-- ---- the term of a row by the terms of its parts

module _ (ts : List TypeRow) (f g : ℕ → Term) (t n x y z : ℕ) where
  abbrev Alike : ℕ → Type 0
  Alike k = (ltb 0 (arity k) ≡ true → f x ≡ g x) → (ltb 1 (arity k) ≡ true → f y ≡ g y) → (ltb 2 (arity k) ≡ true → f z ≡ g z) → term_form ts f (row k t n x y z) ≡ term_form ts g (row k t n x y z)

  of_two : (h : Term → Term → Term) → f x ≡ g x → f y ≡ g y → h (f x) (f y) ≡ h (g x) (g y)
  of_two h a b = λ i. h (a i) (b i)

  alike : (k : ℕ) → k ≤ 15 → Alike k
  alike =
      kinds Alike
      (λ a b c. refl) (λ a b c. refl)
      (λ a b c. ap (one succ) (a refl))
      (λ a b c. let p = a refl in let q = b refl in let r = c refl in λ i. ifz (p i) (q i) (r i))
      (λ a b c. ap (lam (ty_at ts t)) (a refl))
      (λ a b c. of_two app (a refl) (b refl))
      (λ a b c. ap (fix (ty_at ts t)) (a refl))
      (λ a b c. of_two (two (pair (ty_at ts t))) (a refl) (b refl))
      (λ a b c. ap (one fst) (a refl))
      (λ a b c. ap (one snd) (a refl))
      (λ a b c. of_two (two (calc add)) (a refl) (b refl))
      (λ a b c. of_two (two (calc sub)) (a refl) (b refl))
      (λ a b c. of_two (two (calc mul)) (a refl) (b refl))
      (λ a b c. ap (one get) (a refl))
      (λ a b c. refl)
      (λ a b c. of_two catch (a refl) (b refl))

terms_are : (Ts : List Ty) (es : List Term) (rs : List TermRow) → terms_from Ts es rs ≡ rows_as (term_of_row Ts) es rs
terms_are Ts es [] = refl
terms_are Ts es (r ∷ rs) = terms_are Ts (es ++ term_of_row Ts es r ∷ []) rs

-- what a row of lawful tables keeps
pub good_at : (s : Tables) → Kept s → (p : ℕ) → p < length s.1 → Good (length s.0) p (get_or s.1 p no_row)
good_at s k p lt = good (length s.0) s.1 p (lowest_good (good_term (length s.0) s.1) (length s.1) k.terms p lt)

pub term_step : (s : Tables) → Kept s → (p : ℕ) → p < length s.1 → term_at s p ≡ term_form s.0 (term_at s) (get_or s.1 p no_row)
term_step s k p lt =
    let r = get_or s.1 p no_row in
    let Ts = types_from [] s.0 in
    let all = rows_as (term_of_row Ts) [] s.1 in
    let g = good_at s k p lt in
    let part : (q : ℕ) → q < p → get_or (take p all) q (num 0) ≡ term_at s q = λ q h. get_or-take p all q (num 0) h ∙ ap (λ l. get_or l q (num 0)) (sym (terms_are Ts [] s.1)) in
    ap (λ l. get_or l p (num 0)) (terms_are Ts [] s.1)
    ∙ row_at (term_of_row Ts) s.1 p (num 0) no_row lt
    ∙ alike s.0 (λ q. get_or (take p all) q (num 0)) (term_at s) r.ty r.number r.a r.b r.c r.kind (leb-true r.kind 15 g.kind)
    (λ u. part r.a (a_below p r g.parts u)) (λ u. part r.b (b_below p r g.parts u)) (λ u. part r.c (c_below p r g.parts u))

number_small : (n p : ℕ) (r : TermRow) → Good n p r → ltb r.kind 2 ≡ true → r.number ≤ top
number_small n p r g u = let h = ltb-true r.number (suc top) (sym (cond-true (ltb r.kind 2) (ltb r.number (suc top)) (eqb r.number 0) u) ∙ g.number) in omega arith

-- ---- what is found is a type by the judgement

pub sound : (s : Tables) → Kept s → (m p : ℕ) → p < m → p < length s.1 → Knows s.0 (type_at s.0 s.1 p) (term_at s p)
sound s k zero p h lt names q e = absurd (omega arith)
sound s k (suc m) p h lt names q e =
    let ts = s.0 in
    let es = s.1 in
    let r = get_or es p no_row in
    let g = good_at s k p lt in
    let parts = inverted p
    (cond (ltb 0 (arity r.kind)) (type_at ts es r.a (under (bound ts r) names)) (Ok 0))
    (cond (ltb 1 (arity r.kind)) (type_at ts es r.b names) (Ok 0))
    (cond (ltb 2 (arity r.kind)) (type_at ts es r.c (0 ∷ names)) (Ok 0))
    (own_type ts r (slice_get names r.number)) q (sym (type_step ts es (kept_placed s k) p names lt) ∙ e) in
    subst (λ x. HasType (context ts names) x (ty_at ts q)) (sym (term_step s k p lt))
    (sound_at ts (nat_at ts k.types k.some_types) (to_row ts k.types) (both_row ts k.types) (type_at ts es) (term_at s)
    r.ty r.number r.a r.b r.c names q r.kind (leb-true r.kind 15 g.kind)
    (λ u. let b = a_below p r g.parts u in sound s k m r.a (omega arith) (omega arith))
    (λ u. let b = b_below p r g.parts u in sound s k m r.b (omega arith) (omega arith))
    (λ u. let b = c_below p r g.parts u in sound s k m r.c (omega arith) (omega arith))
    (number_small (length ts) p r g)
    parts)

-- ---- and a type by the judgement is found

pub type_placed : (n p : ℕ) (r : TermRow) → Good n p r → typed r.kind ≡ true → r.ty < n
type_placed n p r g u = ltb-true r.ty n (sym (cond-true (typed r.kind) (ltb r.ty n) (eqb r.ty 0) u) ∙ g.type)

pub complete : (s : Tables) → Kept s → (m p : ℕ) → p < m → p < length s.1 → Finds s.0 (type_at s.0 s.1 p) (term_at s p)
complete s k zero p h lt names v σ τ a b = absurd (omega arith)
complete s k (suc m) p h lt names v σ τ a b =
    let ts = s.0 in
    let es = s.1 in
    let r = get_or es p no_row in
    let g = good_at s k p lt in
    let term_is = term_step s k p lt in
    subst (λ o. Outcome ts o σ τ) (sym (type_step ts es (kept_placed s k) p names lt))
    (complete_at ts k.some_types k.few_types (nat_at ts k.types k.some_types)
    (λ q q' hq hq'. one_place ts k.types k.some_types (length ts) q q' hq hq hq')
    (to_place ts k.types k.some_types) (both_place ts k.types k.some_types)
    (type_at ts es) (term_at s) p r.ty r.number r.a r.b r.c names v σ τ r.kind (leb-true r.kind 15 g.kind)
    (λ u. let b = a_below p r g.parts u in complete s k m r.a (omega arith) (omega arith))
    (λ u. let b = b_below p r g.parts u in complete s k m r.b (omega arith) (omega arith))
    (λ u. let b = c_below p r g.parts u in complete s k m r.c (omega arith) (omega arith))
    (type_placed (length ts) p r g)
    (subst (λ e. fill ts nat names ⊢ e ∶ σ) term_is a)
    (subst (λ e. fill ts H names ⊢ e ∶ τ) term_is b))
