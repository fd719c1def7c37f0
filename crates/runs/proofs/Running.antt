-- An advance makes the steps that its count and the limits allow, all of them and no more.
use Rattle.std.proofs.Common.{◌≡◌, ℕ, zero, suc, ◌+◌, ◌-◌, ◌<◌, ◌≤◌, ◌≢◌, ◌⊎◌, [], ◌∷◌, Some, sym, refl, ap, ◌∙◌, subst, inl, inr, add-zero, add-suc, add-one, arith}
use mathlib.Core.Logic.{ite}
use native.Mathlib.Decide.{dec_le, dec_lt}
use Rattle.machine.specs.Values.{amount, function, couple}
use Rattle.rows.specs.Meanings.{Meaning, Lawful}
use Rattle.machine.specs.States.{State, ◌▷◌, ◌◁◌, ◌◂}
use Rattle.machine.specs.Steps.{Step, num_returns, lam_returns, one_opens, two_opens, ifz_opens, app_opens, catch_opens, fix_unrolls, fail_fails, succ_counts, succ_overflows, ifz_zero, ifz_above, app_enters, first_done, pair_made, calc_result, calc_overflows, get_answers, get_misses, fst_takes, snd_takes, catch_passes, catch_catches, frame_drops, Steps, at_start, then_step, Final, number_end, failed_end}
use Rattle.machine.specs.StateTyping.{WellTyped}
use Rattle.machine.specs.Next.{Taken, next}
use Rattle.runs.specs.Standings.{Limits, Standing, Status, number, failed, spent, tall, full, going, height, adds, makes, held, ended_or, status, onto}
use Rattle.runs.specs.Advances.{Goes, stays, goes, Within, Advances, stepped, if-going, once, advanced}
use Rattle.runs.proofs.Lists.{clash}
use Rattle.machine.specs.Laws.{Laws}
use Rattle.runs.proofs.Machine.{ends_or_goes, step_keeps, step_next}

-- The state says how many cells its step makes, and how many frames it adds.
pub step_costs : {M : Meaning} {m c : ℕ} {p q : State} → Step M m c p q → (c ≡ makes p) × (height q - height p ≡ adds p)
step_costs num_returns = (refl, omega arith)
step_costs lam_returns = (refl, omega arith)
step_costs one_opens = (refl, omega arith)
step_costs two_opens = (refl, omega arith)
step_costs ifz_opens = (refl, omega arith)
step_costs app_opens = (refl, omega arith)
step_costs catch_opens = (refl, omega arith)
step_costs fix_unrolls = (refl, omega arith)
step_costs fail_fails = (refl, omega arith)
step_costs (succ_counts h) = (refl, omega arith)
step_costs (succ_overflows h) = (refl, omega arith)
step_costs ifz_zero = (refl, omega arith)
step_costs ifz_above = (refl, omega arith)
step_costs app_enters = (refl, omega arith)
step_costs first_done = (refl, omega arith)
step_costs pair_made = (refl, omega arith)
step_costs (calc_result h) = (refl, omega arith)
step_costs (calc_overflows h) = (refl, omega arith)
step_costs (get_answers h) = (refl, omega arith)
step_costs (get_misses h) = (refl, omega arith)
step_costs fst_takes = (refl, omega arith)
step_costs snd_takes = (refl, omega arith)
step_costs catch_passes = (refl, omega arith)
step_costs catch_catches = (refl, omega arith)
step_costs (frame_drops d) = (refl, omega arith)

-- No limit holds a run that is going,
not_ended : (p : State) (t : Status) → ended_or p t ≡ going → t ≡ going
not_ended (k ▷ e) t h = h
not_ended ([] ◁ amount n) t h = clash (cc)
not_ended ([] ◁ function T A) t h = h
not_ended ([] ◁ couple T v w) t h = h
not_ended ((f ∷ k) ◁ v) t h = h
not_ended ([] ◂) t h = clash (cc)
not_ended ((f ∷ k) ◂) t h = h

pub allowed : (L : Limits) (r : Standing) → status L r ≡ going → (r.steps < L.fuel) × (height r.state + adds r.state ≤ L.frames) × (r.cells + makes r.state ≤ L.cells)
allowed L r h = go (dec_le L.fuel r.steps) (dec_lt L.frames (height r.state + adds r.state)) (dec_lt L.cells (r.cells + makes r.state)) (not_ended r.state (held L r) h)
  where
    go : (a : Dec (L.fuel ≤ r.steps)) (b : Dec (L.frames < height r.state + adds r.state)) (c : Dec (L.cells < r.cells + makes r.state)) → ite a spent (ite b tall (ite c full going)) ≡ going → (r.steps < L.fuel) × (height r.state + adds r.state ≤ L.frames) × (r.cells + makes r.state ≤ L.cells)
    go (yes a) b c e = clash (cc)
    go (no a) (yes b) c e = clash (cc)
    go (no a) (no b) (yes c) e = clash (cc)
    go (no a) (no b) (no c) e = (omega arith, omega arith, omega arith)

-- so that its next step keeps it within them.
pub goes_within : {M : Meaning} {L : Limits} {j : ℕ} {r q : Standing} → Goes M L j r q → Within L r → Within L q
goes_within stays w = w
goes_within {L = L} (goes {q = q} gs g st) w =
    let (a, b, d) = allowed L q g in
    let (e, f) = step_costs st in
    record { fuel_lasts = omega arith; frames_fit = omega arith; cells_fit = omega arith }

-- The steps under limits are steps of the machine.
pub goes_steps : {M : Meaning} {L : Limits} {j : ℕ} {r q : Standing} → Goes M L j r q → (m : ℕ) × (c : ℕ) × Steps M j m c r.state q.state × (q.steps ≡ r.steps + j) × (q.moves ≡ r.moves + m) × (q.cells ≡ r.cells + c)
goes_steps stays = (0, 0, at_start, omega arith, omega arith, omega arith)
goes_steps (goes {m = m} {c = c} gs g st) =
    let (m₀, c₀, ss, a, b, d) = goes_steps gs in
    (m₀ + m, c₀ + c, then_step ss st, omega arith, omega arith, omega arith)

is_going : (t : Status) → Dec (t ≡ going)
is_going (number n) = no (λ e. clash (cc))
is_going failed = no (λ e. clash (cc))
is_going spent = no (λ e. clash (cc))
is_going tall = no (λ e. clash (cc))
is_going full = no (λ e. clash (cc))
is_going going = yes refl

halted_stays : (t : Status) (r q : Standing) → t ≢ going → if-going t r q ≡ r
halted_stays (number n) r q h = refl
halted_stays failed r q h = refl
halted_stays spent r q h = refl
halted_stays tall r q h = refl
halted_stays full r q h = refl
halted_stays going r q h = absurd (h refl)

once_goes : (M : Meaning) (L : Limits) (q : Standing) (t : Taken) → status L q ≡ going → next M q.state ≡ Some t → once M L q ≡ onto q t
once_goes M L q t g e = ap (λ x. if-going x q (stepped q (next M q.state))) g ∙ ap (stepped q) e

once_halts : (M : Meaning) (L : Limits) (q : Standing) → status L q ≢ going → once M L q ≡ q
once_halts M L q h = halted_stays (status L q) q (stepped q (next M q.state)) h

pub ended_not_going : {p : State} (t : Status) → Final p → ended_or p t ≡ going → ⊥
ended_not_going t number_end e = clash (cc)
ended_not_going t failed_end e = clash (cc)

pub rests : (M : Meaning) (L : Limits) (j k : ℕ) (r q : Standing) → advanced M L j r ≡ q → status L q ≢ going → advanced M L (j + k) r ≡ q
rests M L j zero r q e h = rw add-zero e
rests M L j (suc k) r q e h = rw add-suc (ap (once M L) (rests M L j k r q e h) ∙ once_halts M L q h)

-- Two advances are one.
pub advanced_twice : (M : Meaning) (L : Limits) (a b : ℕ) (r : Standing) → advanced M L (a + b) r ≡ advanced M L b (advanced M L a r)
advanced_twice M L a zero r = rw add-zero
advanced_twice M L a (suc b) r = rw add-suc (ap (once M L) (advanced_twice M L a b r))

module _ (laws : Laws) where
  pub goes_typed : {M : Meaning} {L : Limits} {j : ℕ} {r q : Standing} → Lawful M → Goes M L j r q → WellTyped r.state → WellTyped q.state
  goes_typed law stays w = w
  goes_typed law (goes gs g st) w = step_keeps laws law st (goes_typed law gs w)

  -- The computed advance is an advance,
  more : (M : Meaning) (L : Limits) (n : ℕ) (r q : Standing) → WellTyped q.state → Advances M L n r q → Advances M L (suc n) r (once M L q)
  more M L n r q w (j, gs, le, why) = go (is_going (status L q))
    where
      full_count : status L q ≡ going → (j ≡ n) ⊎ (status L q ≢ going) → j ≡ n
      full_count g (inl e) = e
      full_count g (inr h) = absurd (h g)

      on : status L q ≡ going → Final q.state ⊎ ((m : ℕ) × (c : ℕ) × (p : State) × Step M m c q.state p) → Advances M L (suc n) r (once M L q)
      on g (inl f) = absurd (ended_not_going (held L q) f g)
      on g (inr (m, c, p, st)) =
          let e = full_count g why in
          subst (Advances M L (suc n) r) (sym (once_goes M L q (m, c, p) g (step_next laws st))) (j + 1, goes gs g st, omega arith, inl (omega arith))

      go : Dec (status L q ≡ going) → Advances M L (suc n) r (once M L q)
      go (yes g) = on g (ends_or_goes laws w)
      go (no h) = subst (Advances M L (suc n) r) (sym (once_halts M L q h)) (j, gs, omega arith, inr h)

  pub advances : (M : Meaning) (L : Limits) → Lawful M → (n : ℕ) (r : Standing) → WellTyped r.state → Advances M L n r (advanced M L n r)
  advances M L law zero r w = (0, stays, omega arith, inl refl)
  advances M L law (suc n) r w =
      let a = advances M L law n r w in
      more M L n r (advanced M L n r) (goes_typed law a.1 w) a

  -- and there is no other.
  goes_computed : {M : Meaning} {L : Limits} {j : ℕ} {r q : Standing} → Goes M L j r q → advanced M L j r ≡ q
  goes_computed stays = refl
  goes_computed {M} {L} (goes {j = j} {m = m} {c = c} {r = r} {q = q} {p = p} gs g st) = rw add-one (ap (once M L) (goes_computed gs) ∙ once_goes M L q (m, c, p) g (step_next laws st))

  pub advances_unique : {M : Meaning} {L : Limits} (n : ℕ) {r q : Standing} → Advances M L n r q → q ≡ advanced M L n r
  advances_unique {M} {L} n {r} {q} (j, gs, le, inl e) = sym (goes_computed gs) ∙ ap (λ x. advanced M L x r) e
  advances_unique {M} {L} n {r} {q} (j, gs, le, inr h) =
      let e : j + (n - j) ≡ n = omega arith in
      sym (rests M L j (n - j) r q (goes_computed gs) h) ∙ ap (λ x. advanced M L x r) e
