-- The computed step is the step of the rules.
use Rattle.std.proofs.Common.{◌≡◌, ℕ, zero, suc, ◌+◌, ◌<◌, ◌≤◌, [], ◌∷◌, Some, None, Option, sym, refl, ap, ◌∙◌, subst, add-one, arith}
use mathlib.Core.Logic.{ite, if_pos, if_neg}
use native.Mathlib.Decide.{dec_le}
use Rattle.rows.specs.Limits.{top}
use Rattle.theory.specs.Syntax.{succ, fst, snd, get, Op, pair, calc, num, name, one, two, ifz, lam, app, fix, fail, catch}
use Rattle.machine.specs.Values.{Value, amount, function, couple}
use Rattle.rows.specs.Meanings.{Meaning}
use Rattle.machine.specs.States.{Frame, in_one, in_first, in_second, in_ifz, in_app, in_catch, Stack, State, ◌▷◌, ◌◁◌, ◌◂}
use Rattle.machine.specs.Steps.{result, Dropped, one_dropped, first_dropped, second_dropped, ifz_dropped, app_dropped, Step, num_returns, lam_returns, one_opens, two_opens, ifz_opens, app_opens, catch_opens, fix_unrolls, fail_fails, succ_counts, succ_overflows, ifz_zero, ifz_above, app_enters, first_done, pair_made, calc_result, calc_overflows, get_answers, get_misses, fst_takes, snd_takes, catch_passes, catch_catches, frame_drops, Steps, at_start, then_step}
use Rattle.machine.specs.Next.{Taken, limited, answered, returned, failed, next, onward, after}
use Rattle.machine.proofs.Lists.{came}

within : (k : Stack) (n : ℕ) → n ≤ top → limited k n ≡ (k ◁ amount n)
within k n h = if_pos (dec_le n top) h (k ◁ amount n) (k ◂)

beyond : (k : Stack) (n : ℕ) → top < n → limited k n ≡ (k ◂)
beyond k n h = if_neg (dec_le n top) (omega arith) (k ◁ amount n) (k ◂)

-- One move, no cell.
moved : {p q : State} → p ≡ q → ◌≡◌ {A = Option Taken} (Some (1, 0, p)) (Some (1, 0, q))
moved e = λ i. Some (1, 0, e i)

dropped_next : {f : Frame} (k : Stack) → Dropped f → failed f k ≡ (1, 0, k ◂)
dropped_next k one_dropped = refl
dropped_next k first_dropped = refl
dropped_next k second_dropped = refl
dropped_next k ifz_dropped = refl
dropped_next k app_dropped = refl

pub step_next : {M : Meaning} {m c : ℕ} {p q : State} → Step M m c p q → next M p ≡ Some (m, c, q)
step_next num_returns = refl
step_next lam_returns = refl
step_next one_opens = refl
step_next two_opens = refl
step_next ifz_opens = refl
step_next app_opens = refl
step_next catch_opens = refl
step_next fix_unrolls = refl
step_next fail_fails = refl
step_next (succ_counts {k = k} {n = n} h) = moved (within k (n + 1) (omega arith))
step_next (succ_overflows {k = k} {n = n} h) = moved (beyond k (n + 1) (omega arith))
step_next ifz_zero = refl
step_next ifz_above = refl
step_next app_enters = refl
step_next first_done = refl
step_next pair_made = refl
step_next (calc_result {k = k} {o = o} {n = n} {m = m} h) = moved (within k (result o n m) h)
step_next (calc_overflows {k = k} {o = o} {n = n} {m = m} h) = moved (beyond k (result o n m) h)
step_next (get_answers {k = k} h) = moved (ap (answered k) h)
step_next (get_misses {k = k} h) = moved (ap (answered k) h)
step_next fst_takes = refl
step_next snd_takes = refl
step_next catch_passes = refl
step_next catch_catches = refl
step_next (frame_drops {k = k} d) = ap Some (dropped_next k d)

-- What holds of the value, if there is one.
abbrev Of : {X : Type 0} → (X → Type 0) → Option X → Type 0
Of P (Some x) = P x
Of P None = Unit {0}

of_some : {X : Type 0} (P : X → Type 0) (o : Option X) (x : X) → o ≡ Some x → Of P o → P x
of_some P o x e h = subst (Of P) e h

abbrev By : Meaning → State → Taken → Type 0
By M p t = Step M t.0 t.1 p t.2

succ_by : (M : Meaning) (k : Stack) (n : ℕ) (d : Dec (n + 1 ≤ top)) → Step M 1 0 ((in_one succ ∷ k) ◁ amount n) (ite d (k ◁ amount (n + 1)) (k ◂))
succ_by M k n (yes h) = succ_counts (omega arith)
succ_by M k n (no h) = succ_overflows (omega arith)

calc_by : (M : Meaning) (k : Stack) (o : Op) (n m : ℕ) (d : Dec (result o n m ≤ top)) → Step M 1 0 ((in_second (calc o) (amount n) ∷ k) ◁ amount m) (ite d (k ◁ amount (result o n m)) (k ◂))
calc_by M k o n m (yes h) = calc_result h
calc_by M k o n m (no h) = calc_overflows (omega arith)

get_by : (M : Meaning) (k : Stack) (n : ℕ) (o : Option ℕ) → M n ≡ o → Step M 1 0 ((in_one get ∷ k) ◁ amount n) (answered k o)
get_by M k n (Some a) e = get_answers e
get_by M k n None e = get_misses e

returned_by : (M : Meaning) (f : Frame) (k : Stack) (v : Value) → Of (By M ((f ∷ k) ◁ v)) (returned M f k v)
returned_by M (in_one succ) k (amount n) = succ_by M k n (dec_le (n + 1) top)
returned_by M (in_one succ) k (function T A) = tt
returned_by M (in_one succ) k (couple T v w) = tt
returned_by M (in_one get) k (amount n) = get_by M k n (M n) refl
returned_by M (in_one get) k (function T A) = tt
returned_by M (in_one get) k (couple T v w) = tt
returned_by M (in_one fst) k (amount n) = tt
returned_by M (in_one fst) k (function T A) = tt
returned_by M (in_one fst) k (couple T v w) = fst_takes
returned_by M (in_one snd) k (amount n) = tt
returned_by M (in_one snd) k (function T A) = tt
returned_by M (in_one snd) k (couple T v w) = snd_takes
returned_by M (in_first g B) k v = first_done
returned_by M (in_second (pair T) v) k w = pair_made
returned_by M (in_second (calc o) (amount n)) k (amount m) = calc_by M k o n m (dec_le (result o n m) top)
returned_by M (in_second (calc o) (amount n)) k (function T A) = tt
returned_by M (in_second (calc o) (amount n)) k (couple T v w) = tt
returned_by M (in_second (calc o) (function T A)) k w = tt
returned_by M (in_second (calc o) (couple T u v)) k w = tt
returned_by M (in_ifz B C) k (amount zero) = ifz_zero
returned_by M (in_ifz B C) k (amount (suc n)) = ifz_above
returned_by M (in_ifz B C) k (function T A) = tt
returned_by M (in_ifz B C) k (couple T v w) = tt
returned_by M (in_app B) k (amount n) = tt
returned_by M (in_app B) k (function T A) = app_enters
returned_by M (in_app B) k (couple T v w) = tt
returned_by M (in_catch B) k v = catch_passes

failed_by : (M : Meaning) (f : Frame) (k : Stack) → By M ((f ∷ k) ◂) (failed f k)
failed_by M (in_one g) k = frame_drops one_dropped
failed_by M (in_first g B) k = frame_drops first_dropped
failed_by M (in_second g v) k = frame_drops second_dropped
failed_by M (in_ifz B C) k = frame_drops ifz_dropped
failed_by M (in_app B) k = frame_drops app_dropped
failed_by M (in_catch B) k = catch_catches

next_by : (M : Meaning) (p : State) → Of (By M p) (next M p)
next_by M (k ▷ num n) = num_returns
next_by M (k ▷ name i) = tt
next_by M (k ▷ one g A) = one_opens
next_by M (k ▷ two g A B) = two_opens
next_by M (k ▷ ifz A B C) = ifz_opens
next_by M (k ▷ lam T A) = lam_returns
next_by M (k ▷ app A B) = app_opens
next_by M (k ▷ fix T A) = fix_unrolls
next_by M (k ▷ fail T) = fail_fails
next_by M (k ▷ catch A B) = catch_opens
next_by M ([] ◁ v) = tt
next_by M ((f ∷ k) ◁ v) = returned_by M f k v
next_by M ([] ◂) = tt
next_by M ((f ∷ k) ◂) = failed_by M f k

pub next_step : {M : Meaning} {m c : ℕ} {p q : State} → next M p ≡ Some (m, c, q) → Step M m c p q
next_step {M} {m} {c} {p} {q} e = of_some (By M p) (next M p) (m, c, q) e (next_by M p)

-- At most one step leads on.
pub step_unique : {M : Meaning} {m m' c c' : ℕ} {p q q' : State} → Step M m c p q → Step M m' c' p q' → (m ≡ m') × (c ≡ c') × (q ≡ q')
step_unique {m} {m'} {c} {c'} {p} {q} {q'} a b =
    let e : ◌≡◌ {A = Option Taken} (Some (m, c, q)) (Some (m', c', q')) = sym (step_next a) ∙ step_next b in
    let t : ◌≡◌ {A = Taken} (m, c, q) (m', c', q') = cc in
    (ap (λ x. x.0) t, ap (λ x. x.1) t, ap (λ x. x.2) t)

-- n steps from p lead to the moves, cells and state that `after` computes.
pub steps_after : {M : Meaning} {n m c : ℕ} {p q : State} → Steps M n m c p q → after M n p ≡ Some (m, c, q)
steps_after at_start = refl
steps_after {M} (then_step {n = n} {p = p} ss step) = rw add-one (rw (steps_after ss, step_next step) refl)

pub after_steps : (M : Meaning) (n : ℕ) (p : State) (t : Taken) → after M n p ≡ Some t → Steps M n t.0 t.1 p t.2
after_steps M zero p t e = let f : ◌≡◌ {A = Taken} (0, 0, p) t = cc in subst (λ (x : Taken). Steps M 0 x.0 x.1 p x.2) f at_start
after_steps M (suc n) p t e =
    let (u, a, b) = came (after M n p) (onward M) t e in
    let (v, f, g) = came (next M u.2) (λ v. Some (u.0 + v.0, u.1 + v.1, v.2)) t b in
    let h : ◌≡◌ {A = Taken} (u.0 + v.0, u.1 + v.1, v.2) t = cc in
    rw (← add-one) (subst (λ (x : Taken). Steps M (n + 1) x.0 x.1 p x.2) h (then_step (after_steps M n p u a) (next_step f)))

-- The moves, the cells and the state are settled by the number of steps.
pub steps_unique : {M : Meaning} {n m m' c c' : ℕ} {p q q' : State} → Steps M n m c p q → Steps M n m' c' p q' → (m ≡ m') × (c ≡ c') × (q ≡ q')
steps_unique {m} {m'} {c} {c'} {p} {q} {q'} a b =
    let e : ◌≡◌ {A = Option Taken} (Some (m, c, q)) (Some (m', c', q')) = sym (steps_after a) ∙ steps_after b in
    let t : ◌≡◌ {A = Taken} (m, c, q) (m', c', q') = cc in
    (ap (λ x. x.0) t, ap (λ x. x.1) t, ap (λ x. x.2) t)
