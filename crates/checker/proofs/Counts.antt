-- Counting how often each row is a part.
use Rattle.std.proofs.Common.{◌≡◌, ℕ, zero, suc, ◌+◌, ◌*◌, ◌<◌, ◌≤◌, Bool, true, false, cond, ◌&&◌, eqb, ltb, List, [], ◌∷◌, length, get_or, set, take, replicate, sum_by, sym, refl, ap, ◌∙◌, ⊎_elim, add-zero, add-one, arith}
use Rattle.std.specs.List.{AllByRecursion as All}
use Rattle.std.proofs.lemmas.Bool.{eq-eqb, ne_eqb, eqb-true, eqb-false, cases_Bool}
use Rattle.std.proofs.lemmas.List.Sums.{sum_by-cons, sum_by_more}
use Rattle.std.proofs.ByRecursion.{sum_by_le}
use Rattle.std.proofs.lemmas.List.{length-take-le, take_all, get_or-set_same, get_or-set_other}
use Rattle.rows.specs.declared.tables.TermRow.{TermRow}
use Rattle.rows.specs.declared.forms.Form.{Form}
use Rattle.rows.specs.declared.forms.Form.TheVariants.{Succ, Ifz, Lam, Ap, Fix, Pair, Fst, Snd, Add, Sub, Mul, Get, Fail, Catch}
use Rattle.rows.specs.Forms.{parts, form_at}
use Rattle.theory.specs.Laws.{parts_of, times, uses}
use Rattle.checker.specs.RowTests.{arity, used_once}

pub zero_count : (n j : ℕ) → ◌≡◌ {A = ℕ} (get_or (replicate n 0) j 0) 0
zero_count zero j = refl
zero_count (suc n) zero = refl
zero_count (suc n) (suc j) = zero_count n j

pub few_parts : (f : Form) → parts f ≤ 3
few_parts Succ = omega arith
few_parts Ifz = omega arith
few_parts Lam = omega arith
few_parts Ap = omega arith
few_parts Fix = omega arith
few_parts Pair = omega arith
few_parts Fst = omega arith
few_parts Snd = omega arith
few_parts Add = omega arith
few_parts Sub = omega arith
few_parts Mul = omega arith
few_parts Get = omega arith
few_parts Fail = omega arith
few_parts Catch = omega arith

-- a row's parts are as many as its kind has
pub arity_small : (k : ℕ) → arity k ≤ 3
arity_small k = go (ltb k 2)
  where
    go : (b : Bool) → cond b 0 (parts (form_at k)) ≤ 3
    go true = omega arith
    go false = few_parts (form_at k)

pub parts_are : (r : TermRow) → parts_of r ≡ take (arity r.kind) (r.a ∷ r.b ∷ r.c ∷ [])
parts_are r = go (ltb r.kind 2)
  where
    go : (b : Bool) → cond b [] (take (parts (form_at r.kind)) (r.a ∷ r.b ∷ r.c ∷ [])) ≡ take (cond b 0 (parts (form_at r.kind))) (r.a ∷ r.b ∷ r.c ∷ [])
    go true = refl
    go false = refl

-- how often a place is among the first m of three
marked_in : (j m a b c : ℕ) → m ≤ 3 → times j (take m (a ∷ b ∷ c ∷ [])) ≡ cond (ltb 0 m && eqb j a) 1 0 + (cond (ltb 1 m && eqb j b) 1 0 + cond (ltb 2 m && eqb j c) 1 0)
marked_in j zero a b c h = refl
marked_in j (suc zero) a b c h = refl
marked_in j (suc (suc zero)) a b c h = omega arith
marked_in j (suc (suc (suc zero))) a b c h = omega arith
marked_in j (suc (suc (suc (suc m)))) a b c h = absurd (omega arith)

pub marked : (j m : ℕ) (r : TermRow) → m ≡ arity r.kind → times j (parts_of r) ≡ cond (ltb 0 m && eqb j r.a) 1 0 + (cond (ltb 1 m && eqb j r.b) 1 0 + cond (ltb 2 m && eqb j r.c) 1 0)
marked j m r e =
    ap (times j) (parts_are r ∙ ap (λ n. take n (r.a ∷ r.b ∷ r.c ∷ [])) (sym e)) ∙ marked_in j m r.a r.b r.c (omega (arith, arity_small r.kind, e))

pub one_small : (b : Bool) → ◌≤◌ (cond b 1 0) 1
one_small true = omega arith
one_small false = omega arith

all_times_small : (j : ℕ) (es : List TermRow) → All (λ r. times j (parts_of r) ≤ 3) es
all_times_small j [] = tt
all_times_small j (r ∷ rs) =
    (omega (arith, marked j (arity r.kind) r refl, one_small (ltb 0 (arity r.kind) && eqb j r.a), one_small (ltb 1 (arity r.kind) && eqb j r.b), one_small (ltb 2 (arity r.kind) && eqb j r.c)), all_times_small j rs)

uses_sum : (j : ℕ) (es : List TermRow) → uses j es ≡ sum_by (λ r. times j (parts_of r)) es
uses_sum j [] = refl
uses_sum j (r ∷ rs) = ap (λ n. times j (parts_of r) + n) (uses_sum j rs) ∙ sym (sum_by-cons (λ r'. times j (parts_of r')) r rs)

pub uses_more : (es : List TermRow) (i : ℕ) (d : TermRow) → i < length es → (j : ℕ) → uses j (take (i + 1) es) ≡ uses j (take i es) + times j (parts_of (get_or es i d))
uses_more es i d h j =
    uses_sum j (take (i + 1) es) ∙ sum_by_more (λ r. times j (parts_of r)) es i d h ∙ ap (λ n. n + times j (parts_of (get_or es i d))) (sym (uses_sum j (take i es)))

pub uses_small : (es : List TermRow) (i : ℕ) → i ≤ length es → (j : ℕ) → uses j (take i es) ≤ i * 3
uses_small es i h j =
    omega (arith, uses_sum j (take i es), sum_by_le (λ r. times j (parts_of r)) 3 (take i es) (all_times_small j (take i es)), length-take-le i es h)

-- the count at the end of the pass tells whether a row is a part exactly once
pub once_yes : (es : List TermRow) (i j x : ℕ) → length es ≤ i → x ≡ uses j (take i es) → x ≡ 1 → used_once es j ≡ true
once_yes es i j x h e o = eq-eqb (uses j es) 1 (sym (ap (uses j) (take_all i es h)) ∙ sym e ∙ o)

pub once_no : (es : List TermRow) (i j x : ℕ) → length es ≤ i → x ≡ uses j (take i es) → (x ≡ 1 → ⊥) → used_once es j ≡ false
once_no es i j x h e o = ne_eqb (uses j es) 1 (λ f. o (e ∙ ap (uses j) (take_all i es h) ∙ f))

pub times_small : (j : ℕ) (xs : List ℕ) → times j xs ≤ length xs
times_small j [] = omega arith
times_small j (x ∷ xs) = omega (arith, one_small (eqb j x), times_small j xs)

pub times_more : (j : ℕ) (xs : List ℕ) (k : ℕ) → k < length xs → times j (take (k + 1) xs) ≡ times j (take k xs) + cond (eqb j (get_or xs k 0)) 1 0
times_more j [] k h = absurd (omega arith)
times_more j (x ∷ xs) zero h = omega arith
times_more j (x ∷ xs) (suc k) h =
    let e : times j (take (suc k) xs) ≡ times j (take k xs) + cond (eqb j (get_or xs k 0)) 1 0 = ap (λ n. times j (take n xs)) (sym (add-one k)) ∙ times_more j xs k (omega arith) in
    let more : cond (eqb j x) 1 0 + times j (take (suc k) xs) ≡ cond (eqb j x) 1 0 + times j (take k xs) + cond (eqb j (get_or xs k 0)) 1 0 = omega (arith, e) in
    ap (λ n. times j (take n (x ∷ xs))) (add-one (suc k)) ∙ more

-- one more at a place
pub marked_here : (cs : List ℕ) (q : ℕ) → q < length cs → (j : ℕ) → get_or (set cs q (get_or cs q 0 + 1)) j 0 ≡ get_or cs j 0 + cond (eqb j q) 1 0
marked_here cs q h j =
    ⊎_elim
    (λ (e : eqb j q ≡ true).
    let z = eqb-true j q e in
    ap (λ k. get_or (set cs q (get_or cs q 0 + 1)) k 0) z ∙ get_or-set_same cs q _ 0 h ∙ (λ i. get_or cs (sym z i) 0 + cond (sym e i) 1 0))
    (λ (e : eqb j q ≡ false). get_or-set_other cs q j _ 0 (eqb-false j q e) ∙ sym (add-zero (get_or cs j 0)) ∙ ap (λ b. get_or cs j 0 + cond b 1 0) (sym e))
    (cases_Bool (eqb j q))

-- the uses before a row and its own parts, all of them counted, are the uses up to it
pub uses_row : (es : List TermRow) (i : ℕ) (d : TermRow) → i < length es → (n : ℕ) → n ≡ arity (get_or es i d).kind
    → (k : ℕ) → length (take n ((get_or es i d).a ∷ (get_or es i d).b ∷ (get_or es i d).c ∷ [])) ≤ k
    → (j : ℕ) → uses j (take i es) + times j (take k (take n ((get_or es i d).a ∷ (get_or es i d).b ∷ (get_or es i d).c ∷ []))) ≡ uses j (take (i + 1) es)
uses_row es i d lt n e k h j =
    let r = get_or es i d in
    ap (λ xs. uses j (take i es) + times j xs) (take_all k _ h ∙ ap (λ m. take m (r.a ∷ r.b ∷ r.c ∷ [])) e ∙ sym (parts_are r)) ∙ sym (uses_more es i d lt j)
