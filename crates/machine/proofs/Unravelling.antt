-- A machine step of m moves is m structural steps of what it unravels to.
use Rattle.std.proofs.Common.{◌≡◌, ℕ, zero, suc, ◌+◌, ◌-◌, ◌<◌, List, [], ◌∷◌, length, sym, refl, ap, ◌∙◌, subst, subst₂, arith}
use mathlib.Core.Logic.{ite}
use native.Mathlib.Decide.{dec_lt}
use Rattle.theory.specs.Syntax.{nat, Term, num, name, one, two, ifz, lam, app, fix, fail, catch}
use Rattle.std.specs.List.{slice_get}
use Rattle.machine.specs.Substitution.{or_else, named, close, inst}
use Rattle.machine.specs.Values.{Value, amount, function, couple, term}
use Rattle.rows.specs.Meanings.{Meaning}
use Rattle.machine.specs.States.{Frame, in_one, in_first, in_second, in_ifz, in_app, in_catch, Stack, State}
use Rattle.machine.specs.Steps.{Dropped, one_dropped, first_dropped, second_dropped, ifz_dropped, app_dropped, Step, num_returns, lam_returns, one_opens, two_opens, ifz_opens, app_opens, catch_opens, fix_unrolls, fail_fails, succ_counts, succ_overflows, ifz_zero, ifz_above, app_enters, first_done, pair_made, calc_result, calc_overflows, get_answers, get_misses, fst_takes, snd_takes, catch_passes, catch_catches, frame_drops, Steps, at_start, then_step}
use Rattle.machine.specs.Structural.{bare, IsValue, num_value, lam_value, pair_value, fill, refill, unravel, Reduces, inside_one, inside_first, inside_second, inside_ifz, inside_app, inside_catch, unroll, count, count_over, on_zero, on_above, enter, calculate, calculate_over, answer, no_answer, first_half, second_half, pass, rescue, fail_one, fail_first, fail_second, fail_ifz, fail_app, ReducesIn, nowhere, then_reduces}

-- Bare terms put for names.
abbrev bares : List Term → List Term
bares [] = []
bares (e ∷ ρ) = bare e ∷ bares ρ

bares_length : (ρ : List Term) → length (bares ρ) ≡ length ρ
bares_length [] = refl
bares_length (e ∷ ρ) = ap suc (bares_length ρ)

bare_entry : (ρ : List Term) (j m : ℕ) → bare (or_else (slice_get ρ j) (name m)) ≡ or_else (slice_get (bares ρ) j) (name m)
bare_entry [] j m = refl
bare_entry (e ∷ ρ) zero m = refl
bare_entry (e ∷ ρ) (suc j) m = bare_entry ρ j m

bare_named : (d : ℕ) (ρ : List Term) (i : ℕ) → bare (named d ρ i) ≡ named d (bares ρ) i
bare_named d ρ i = go (dec_lt i d)
  where
    go : (q : Dec (i < d)) → bare (ite q (name i) (or_else (slice_get ρ (i - d)) (name (i - length ρ)))) ≡ ite q (name i) (or_else (slice_get (bares ρ) (i - d)) (name (i - length (bares ρ))))
    go (yes p) = refl
    go (no p) = bare_entry ρ (i - d) (i - length ρ) ∙ ap (λ x. or_else (slice_get (bares ρ) (i - d)) (name (i - x))) (sym (bares_length ρ))

pub bare_close : (d : ℕ) (ρ : List Term) (t : Term) → bare (close d ρ t) ≡ close d (bares ρ) (bare t)
bare_close d ρ (num n) = refl
bare_close d ρ (name i) = bare_named d ρ i
bare_close d ρ (one g A) = λ i. one g (bare_close d ρ A i)
bare_close d ρ (two g A B) = λ i. two g (bare_close d ρ A i) (bare_close d ρ B i)
bare_close d ρ (ifz A B C) = λ i. ifz (bare_close d ρ A i) (bare_close d ρ B i) (bare_close (suc d) ρ C i)
bare_close d ρ (lam T A) = λ i. lam T (bare_close (suc d) ρ A i)
bare_close d ρ (app A B) = λ i. app (bare_close d ρ A i) (bare_close d ρ B i)
bare_close d ρ (fix T A) = λ i. fix T (bare_close (suc d) ρ A i)
bare_close d ρ (fail T) = refl
bare_close d ρ (catch A B) = λ i. catch (bare_close d ρ A i) (bare_close d ρ B i)

pub bare_inst : (A e : Term) → bare (inst A e) ≡ inst (bare A) (bare e)
bare_inst A e = bare_close 0 (e ∷ []) A

pub bare_value : (v : Value) → IsValue (bare (term v))
bare_value (amount n) = num_value
bare_value (function T A) = lam_value
bare_value (couple T v w) = pair_value (bare_value v) (bare_value w)

-- A step of the expression is a step of the frame around it,
in_frame : {M : Meaning} (f : Frame) (e e' : Term) → Reduces M (bare e) (bare e') → Reduces M (bare (fill f e)) (bare (fill f e'))
in_frame (in_one g) e e' r = inside_one r
in_frame (in_first g B) e e' r = inside_first r
in_frame (in_second g v) e e' r = inside_second (bare_value v) r
in_frame (in_ifz B C) e e' r = inside_ifz r
in_frame (in_app B) e e' r = inside_app r
in_frame (in_catch B) e e' r = inside_catch r

-- and of the whole stack.
in_stack : {M : Meaning} (k : Stack) (e e' : Term) → Reduces M (bare e) (bare e') → Reduces M (bare (refill k e)) (bare (refill k e'))
in_stack [] e e' r = r
in_stack (f ∷ k) e e' r = in_stack k (fill f e) (fill f e') (in_frame f e e' r)

same_in_frame : (f : Frame) (e e' : Term) → bare e ≡ bare e' → bare (fill f e) ≡ bare (fill f e')
same_in_frame (in_one g) e e' r = λ i. one g (r i)
same_in_frame (in_first g B) e e' r = λ i. two g (r i) (bare B)
same_in_frame (in_second g v) e e' r = λ i. two g (bare (term v)) (r i)
same_in_frame (in_ifz B C) e e' r = λ i. ifz (r i) (bare B) (bare C)
same_in_frame (in_app B) e e' r = λ i. app (r i) (bare B)
same_in_frame (in_catch B) e e' r = λ i. catch (r i) (bare B)

same_in_stack : (k : Stack) (e e' : Term) → bare e ≡ bare e' → bare (refill k e) ≡ bare (refill k e')
same_in_stack [] e e' r = r
same_in_stack (f ∷ k) e e' r = same_in_stack k (fill f e) (fill f e') (same_in_frame f e e' r)

-- The same where the result was put together from bare parts.
in_stack_inst : {M : Meaning} (k : Stack) (e A B : Term) → Reduces M (bare e) (inst (bare A) (bare B)) → Reduces M (bare (refill k e)) (bare (refill k (inst A B)))
in_stack_inst k e A B r = in_stack k e (inst A B) (rw (bare_inst A B) r)

dropped_fails : {M : Meaning} {f : Frame} → Dropped f → Reduces M (bare (fill f (fail nat))) (fail nat)
dropped_fails one_dropped = fail_one
dropped_fails first_dropped = fail_first
dropped_fails (second_dropped {v = v}) = fail_second (bare_value v)
dropped_fails ifz_dropped = fail_ifz
dropped_fails app_dropped = fail_app

-- No move: the same term; one move: one structural step.
abbrev pub Follows : Meaning → ℕ → Term → Term → Type 0
Follows M zero e e' = e ≡ e'
Follows M (suc m) e e' = (m ≡ 0) × Reduces M e e'

pub step_follows : {M : Meaning} {m c : ℕ} {p q : State} → Step M m c p q → Follows M m (unravel p) (unravel q)
step_follows num_returns = refl
step_follows lam_returns = refl
step_follows one_opens = refl
step_follows two_opens = refl
step_follows ifz_opens = refl
step_follows app_opens = refl
step_follows catch_opens = refl
step_follows (fix_unrolls {k = k} {T = T} {A = A}) = (refl, in_stack_inst k (fix T A) A (fix T A) unroll)
step_follows (fail_fails {k = k} {T = T}) = same_in_stack k (fail T) (fail nat) refl
step_follows (succ_counts {k = k} h) = (refl, in_stack k _ _ (count h))
step_follows (succ_overflows {k = k} h) = (refl, in_stack k _ _ (count_over h))
step_follows (ifz_zero {k = k}) = (refl, in_stack k _ _ on_zero)
step_follows (ifz_above {k = k} {B = B} {C = C} {n = n}) = (refl, in_stack_inst k (ifz (num (suc n)) B C) C (num n) on_above)
step_follows (app_enters {k = k} {A = A} {B = B} {T = T}) = (refl, in_stack_inst k (app (lam T A) B) A B enter)
step_follows first_done = refl
step_follows pair_made = refl
step_follows (calc_result {k = k} h) = (refl, in_stack k _ _ (calculate h))
step_follows (calc_overflows {k = k} h) = (refl, in_stack k _ _ (calculate_over h))
step_follows (get_answers {k = k} h) = (refl, in_stack k _ _ (answer h))
step_follows (get_misses {k = k} h) = (refl, in_stack k _ _ (no_answer h))
step_follows (fst_takes {k = k} {v = v} {w = w}) = (refl, in_stack k _ _ (first_half (bare_value v) (bare_value w)))
step_follows (snd_takes {k = k} {v = v} {w = w}) = (refl, in_stack k _ _ (second_half (bare_value v) (bare_value w)))
step_follows (catch_passes {k = k} {v = v}) = (refl, in_stack k _ _ (pass (bare_value v)))
step_follows (catch_catches {k = k}) = (refl, in_stack k _ _ rescue)
step_follows (frame_drops {k = k} d) = (refl, in_stack k _ _ (dropped_fails d))

follow : {M : Meaning} (m m₁ : ℕ) (e e' e'' : Term) → ReducesIn M m e e' → Follows M m₁ e' e'' → ReducesIn M (m + m₁) e e''
follow {M} m zero e e' e'' rs f = subst₂ (λ n x. ReducesIn M n e x) (omega arith) f rs
follow {M} m (suc m₁) e e' e'' rs f = subst (λ n. ReducesIn M n e e'') (omega (arith, f.0)) (then_reduces rs f.1)

-- After n machine steps that make m moves, m structural steps have led to what the state unravels to.
pub steps_follow : {M : Meaning} {n m c : ℕ} {p q : State} → Steps M n m c p q → ReducesIn M m (unravel p) (unravel q)
steps_follow at_start = nowhere
steps_follow (then_step {m = m} {m₁ = m₁} {p = p} {q = q} {r = r} ss s) = follow m m₁ (unravel p) (unravel q) (unravel r) (steps_follow ss) (step_follows s)
