-- A step keeps a state well typed, and a well typed state is an end or has a step.
use Rattle.std.proofs.Common.{◌≡◌, ℕ, zero, suc, ◌<◌, ◌≤◌, ◌⊎◌, [], ◌∷◌, Some, None, Option, refl, inl, inr, arith}
use native.Mathlib.Decide.{dec_lt, dec_le}
use Rattle.rows.specs.Limits.{top}
use Rattle.theory.specs.Syntax.{Ty, nat, to, both, succ, get, Op, calc, Term}
use Rattle.std.specs.List.{slice_get}
use Rattle.machine.specs.Values.{Value, amount, function, couple, term}
use Rattle.theory.specs.Typing.{◌⊢◌∶◌, ⊢num, ⊢name, ⊢one, ⊢two, ⊢ifz, ⊢lam, ⊢app, ⊢fix, ⊢fail, ⊢catch, of_succ, of_get, of_fst, of_snd, of_pair, of_calc}
use Rattle.rows.specs.Meanings.{Meaning, Lawful}
use Rattle.machine.specs.States.{Frame, in_one, in_first, in_second, in_ifz, in_app, in_catch, Stack, State, ◌▷◌, ◌◁◌, ◌◂}
use Rattle.machine.specs.Steps.{result, one_dropped, first_dropped, second_dropped, ifz_dropped, app_dropped, Step, num_returns, lam_returns, one_opens, two_opens, ifz_opens, app_opens, catch_opens, fix_unrolls, fail_fails, succ_counts, succ_overflows, ifz_zero, ifz_above, app_enters, first_done, pair_made, calc_result, calc_overflows, get_answers, get_misses, fst_takes, snd_takes, catch_passes, catch_catches, frame_drops, Final, number_end, failed_end}
use Rattle.machine.specs.StateTyping.{Takes, one_takes, first_takes, second_takes, ifz_takes, app_takes, catch_takes, none_expects, frame_expects, WellTyped, well_▷, well_◁, well_◂}
use Rattle.machine.proofs.Lists.{clash}
use Rattle.machine.proofs.Closing.{inst_typed}

pub step_keeps : {M : Meaning} {m c : ℕ} {p q : State} → Lawful M → Step M m c p q → WellTyped p → WellTyped q
step_keeps law num_returns (well_▷ x a) = well_◁ x a
step_keeps law lam_returns (well_▷ x a) = well_◁ x a
step_keeps law one_opens (well_▷ x (⊢one g a)) = well_▷ (frame_expects (one_takes g) x) a
step_keeps law two_opens (well_▷ x (⊢two g a b)) = well_▷ (frame_expects (first_takes g b) x) a
step_keeps law ifz_opens (well_▷ x (⊢ifz a b c)) = well_▷ (frame_expects (ifz_takes b c) x) a
step_keeps law app_opens (well_▷ x (⊢app a b)) = well_▷ (frame_expects (app_takes b) x) a
step_keeps law catch_opens (well_▷ x (⊢catch a b)) = well_▷ (frame_expects (catch_takes b) x) a
step_keeps law fix_unrolls (well_▷ x (⊢fix a)) = well_▷ x (inst_typed a (⊢fix a))
step_keeps law fail_fails (well_▷ x a) = well_◂ x
step_keeps law (succ_counts h) (well_◁ (frame_expects (one_takes of_succ) x) a) = well_◁ x (⊢num (omega arith))
step_keeps law (succ_overflows h) (well_◁ (frame_expects t x) a) = well_◂ x
step_keeps law ifz_zero (well_◁ (frame_expects (ifz_takes b c) x) a) = well_▷ x b
step_keeps law ifz_above (well_◁ (frame_expects (ifz_takes b c) x) (⊢num h)) = well_▷ x (inst_typed c (⊢num (omega arith)))
step_keeps law app_enters (well_◁ (frame_expects (app_takes b) x) (⊢lam a)) = well_▷ x (inst_typed a b)
step_keeps law first_done (well_◁ (frame_expects (first_takes g b) x) a) = well_▷ (frame_expects (second_takes g a) x) b
step_keeps law pair_made (well_◁ (frame_expects (second_takes of_pair b) x) a) = well_◁ x (⊢two of_pair b a)
step_keeps law (calc_result h) (well_◁ (frame_expects (second_takes of_calc b) x) a) = well_◁ x (⊢num h)
step_keeps law (calc_overflows h) (well_◁ (frame_expects t x) a) = well_◂ x
step_keeps law (get_answers {q = q} {a = n} h) (well_◁ (frame_expects (one_takes of_get) x) a) = well_◁ x (⊢num (law.amounts q n h))
step_keeps law (get_misses h) (well_◁ (frame_expects t x) a) = well_◂ x
step_keeps law fst_takes (well_◁ (frame_expects (one_takes of_fst) x) (⊢two of_pair a b)) = well_◁ x a
step_keeps law snd_takes (well_◁ (frame_expects (one_takes of_snd) x) (⊢two of_pair a b)) = well_◁ x b
step_keeps law catch_passes (well_◁ (frame_expects (catch_takes b) x) a) = well_◁ x a
step_keeps law catch_catches (well_◂ (frame_expects (catch_takes b) x)) = well_▷ x b
step_keeps law (frame_drops d) (well_◂ (frame_expects t x)) = well_◂ x

-- Some step leads on from p.
abbrev pub Goes : Meaning → State → Type 0
Goes M p = (m : ℕ) × (c : ℕ) × (q : State) × Step M m c p q

nothing_in_sight : (d : ℕ) {τ : Ty} → slice_get [] d ≡ Some τ → ⊥
nothing_in_sight d e = clash (cc)

-- The values of each type.
data Canonical : Value → Ty → Type 0 where
  is_amount : {n : ℕ} → Canonical (amount n) nat
  is_function : {T : Ty} {A : Term} {σ τ : Ty} → Canonical (function T A) (to σ τ)
  is_couple : {T : Ty} {v w : Value} {σ τ : Ty} → Canonical (couple T v w) (both σ τ)

canonical : (v : Value) {τ : Ty} → [] ⊢ term v ∶ τ → Canonical v τ
canonical (amount n) (⊢num h) = is_amount
canonical (function T A) (⊢lam a) = is_function
canonical (couple T v w) (⊢two of_pair a b) = is_couple

▷-goes : {M : Meaning} {τ : Ty} (k : Stack) {e : Term} → [] ⊢ e ∶ τ → Goes M (k ▷ e)
▷-goes k (⊢num h) = (_, _, _, num_returns)
▷-goes k (⊢name {d = d} h) = absurd (nothing_in_sight d h)
▷-goes k (⊢one g a) = (_, _, _, one_opens)
▷-goes k (⊢two g a b) = (_, _, _, two_opens)
▷-goes k (⊢ifz a b c) = (_, _, _, ifz_opens)
▷-goes k (⊢lam a) = (_, _, _, lam_returns)
▷-goes k (⊢app a b) = (_, _, _, app_opens)
▷-goes k (⊢fix a) = (_, _, _, fix_unrolls)
▷-goes k ⊢fail = (_, _, _, fail_fails)
▷-goes k (⊢catch a b) = (_, _, _, catch_opens)

succ_goes : {M : Meaning} (k : Stack) (n : ℕ) → Dec (n < top) → Goes M ((in_one succ ∷ k) ◁ amount n)
succ_goes k n (yes h) = (_, _, _, succ_counts h)
succ_goes k n (no h) = (_, _, _, succ_overflows (omega arith))

get_goes : {M : Meaning} (k : Stack) (q : ℕ) (o : Option ℕ) → M q ≡ o → Goes M ((in_one get ∷ k) ◁ amount q)
get_goes k q (Some a) h = (_, _, _, get_answers h)
get_goes k q None h = (_, _, _, get_misses h)

calc_goes : {M : Meaning} (k : Stack) (o : Op) (n m : ℕ) → Dec (result o n m ≤ top) → Goes M ((in_second (calc o) (amount n) ∷ k) ◁ amount m)
calc_goes k o n m (yes h) = (_, _, _, calc_result h)
calc_goes k o n m (no h) = (_, _, _, calc_overflows (omega arith))

both_amounts : {M : Meaning} (k : Stack) (o : Op) {v w : Value} → Canonical v nat → Canonical w nat → Goes M ((in_second (calc o) v ∷ k) ◁ w)
both_amounts k o (is_amount {n = n}) (is_amount {n = m}) = calc_goes k o n m (dec_le (result o n m) top)

ifz_goes : {M : Meaning} (k : Stack) (B C : Term) (n : ℕ) → Goes M ((in_ifz B C ∷ k) ◁ amount n)
ifz_goes k B C zero = (_, _, _, ifz_zero)
ifz_goes k B C (suc n) = (_, _, _, ifz_above)

◁-goes : {M : Meaning} {σ τ : Ty} (k : Stack) {f : Frame} → Takes f σ τ → {v : Value} → Canonical v σ → Goes M ((f ∷ k) ◁ v)
◁-goes k (one_takes of_succ) (is_amount {n = n}) = succ_goes k n (dec_lt n top)
◁-goes {M} k (one_takes of_get) (is_amount {n = n}) = get_goes k n (M n) refl
◁-goes k (one_takes of_fst) is_couple = (_, _, _, fst_takes)
◁-goes k (one_takes of_snd) is_couple = (_, _, _, snd_takes)
◁-goes k (first_takes g b) a = (_, _, _, first_done)
◁-goes k (second_takes of_pair b) a = (_, _, _, pair_made)
◁-goes k (second_takes {v = v} (of_calc {o = o}) b) a = both_amounts k o (canonical v b) a
◁-goes k (ifz_takes {B = B} {C = C} b c) (is_amount {n = n}) = ifz_goes k B C n
◁-goes k (app_takes b) is_function = (_, _, _, app_enters)
◁-goes k (catch_takes b) a = (_, _, _, catch_passes)

◂-goes : {M : Meaning} (f : Frame) (k : Stack) → Goes M ((f ∷ k) ◂)
◂-goes (in_one g) k = (_, _, _, frame_drops one_dropped)
◂-goes (in_first g B) k = (_, _, _, frame_drops first_dropped)
◂-goes (in_second g v) k = (_, _, _, frame_drops second_dropped)
◂-goes (in_ifz B C) k = (_, _, _, frame_drops ifz_dropped)
◂-goes (in_app B) k = (_, _, _, frame_drops app_dropped)
◂-goes (in_catch B) k = (_, _, _, catch_catches)

ends : {v : Value} → Canonical v nat → Final ([] ◁ v)
ends is_amount = number_end

pub ends_or_goes : {M : Meaning} {p : State} → WellTyped p → Final p ⊎ Goes M p
ends_or_goes (well_▷ {k = k} x a) = inr (▷-goes k a)
ends_or_goes (well_◁ {v = v} none_expects a) = inl (ends (canonical v a))
ends_or_goes (well_◁ {v = v} (frame_expects {k = k} t x) a) = inr (◁-goes k t (canonical v a))
ends_or_goes (well_◂ none_expects) = inl failed_end
ends_or_goes (well_◂ (frame_expects {f = f} {k = k} t x)) = inr (◂-goes f k)
