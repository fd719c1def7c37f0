-- Engines that break the promise are shut out.
use Rattle.std.proofs.Common.{◌≡◌, ℕ, ◌+◌, ◌-◌, ◌<◌, ◌≤◌, List, [], Some, None, Option, sym, refl, ap, ◌∙◌, subst, arith}
use mathlib.Core.Logic.{ite}
use native.Mathlib.Decide.{dec_le, dec_lt, ℕ_discrete}
use Rattle.rows.specs.Limits.{top}
use Rattle.theory.specs.Syntax.{Ty, nat, Term, num, one, get}
use Rattle.theory.specs.Typing.{of_succ, of_get, of_calc, ◌⊢◌∶◌, ⊢num, ⊢one, ⊢two, ⊢ifz}
use Rattle.rows.specs.Meanings.{Meaning, Lawful}
use Rattle.machine.specs.States.{State, ◌▷◌}
use Rattle.machine.specs.Steps.{Steps, at_start, then_step, Final}
use Rattle.runs.specs.Standings.{Limits, Standing, Status, number, failed, spent, tall, full, going, height, opening, onto}
use Rattle.runs.proofs.Lists.{clash}
use Rattle.runs.specs.Calls.{start, Call, Report, report, Answer, answers, after, all_taken, all_counts, AllMean}
use Rattle.runs.specs.Promise.{Onward, Going, Kept}
use Rattle.runs.specs.WrongEngines.{rolls, dozen, ShutOut, NeverSo}
use Rattle.runs.proofs.Places.{place_unique, Split, split}
use Rattle.runs.proofs.Whole.{carry, keeps}
use Rattle.runs.proofs.Twice.{determined, fewest_fuel}
use Rattle.machine.specs.Laws.{Laws}
use Rattle.runs.proofs.Machine.{end_rests, step_unique, steps_cast, steps_unique}

dozen_lawful : Lawful dozen
dozen_lawful = record { amounts = λ q a. low q a (ℕ_discrete q 7); above = λ q. none q (ℕ_discrete q 7) }
  where
    low : (q a : ℕ) (d : Dec (q ≡ 7)) → ite d (Some 12) None ≡ Some a → a ≤ top
    low q a (yes e) h = let b : 12 ≡ a = cc in omega arith
    low q a (no e) h = clash (cc)

    none : (q : ℕ) (d : Dec (q ≡ 7)) → top < q → ite {C = Option ℕ} d (Some 12) None ≡ None
    none q (yes e) big = absurd (omega arith)
    none q (no e) big = refl

-- Numbers, and the question about rolls.
num_typed : {Γ : List Ty} (n : ℕ) → n ≤ top → Γ ⊢ num n ∶ nat
num_typed n h = ⊢num h

ask_typed : {Γ : List Ty} → Γ ⊢ one get (num 7) ∶ nat
ask_typed = ⊢one of_get (num_typed 7 (omega arith))

rolls_pass : [] ⊢ rolls ∶ nat
rolls_pass = ⊢ifz (⊢two of_calc (num_typed 12 (omega arith)) ask_typed) (⊢two of_calc ask_typed (num_typed 35 (omega arith))) (⊢two of_calc ask_typed (num_typed 40 (omega arith)))

one_mean : (q : ℕ) → dozen q ≡ dozen q
one_mean q = refl

-- Statuses told apart.
abbrev mark : Status → ℕ
mark failed = 0
mark spent = 1
mark tall = 2
mark full = 3
mark going = 4
mark (number n) = n + 5

abbrev marked : Report → ℕ
marked r = mark r.status

-- The place after the step,
abbrev next_place : {M : Meaning} {e : Term} {i : ℕ} → Split M e i → Standing
next_place x = onto x.before (x.moves, x.cells, x.state)

-- which the limits allow if the one before it was going.
allowed : {M : Meaning} {e : Term} {i : ℕ} {L : Limits} (x : Split M e i) → Going M L x.before → (height (next_place x).state ≤ L.frames) × ((next_place x).cells ≤ L.cells)
allowed {M} {L} x g = go (dec_lt L.frames (height x.state)) (dec_lt L.cells (x.before.cells + x.cells))
  where
    on : Onward M x.before
    on = record { moves = x.moves; cells = x.cells; state = x.state; step = x.step }

    go : Dec (L.frames < height x.state) → Dec (L.cells < x.before.cells + x.cells) → (height x.state ≤ L.frames) × (x.before.cells + x.cells ≤ L.cells)
    go (yes h) d = absurd (g.2 (on, h))
    go (no h) (yes d) = absurd (g.3 (on, d))
    go (no h) (no d) = (omega arith, omega arith)

module _ (laws : Laws) where
  -- What keeps the promise reports what is computed.
  only_this : (e : Term) → [] ⊢ e ∶ nat → (L : Limits) (calls : List Call) → AllMean dozen calls → (told : List Answer) (s : Standing) (r : Report) → Kept dozen e L calls told s r → (s ≡ (after (start L e) calls).standing) × (r ≡ report (after (start L e) calls)) × (all_taken told ≡ all_taken (answers (start L e) calls))
  only_this e t L calls all told s r k = determined laws dozen e L calls told _ s _ r _ k (keeps laws dozen dozen_lawful e t L calls all)

  -- So does a number read off the report.
  tells : (f : Report → ℕ) {e : Term} {L : Limits} {calls : List Call} {told : List Answer} {s : Standing} {r : Report} → [] ⊢ e ∶ nat → AllMean dozen calls → Kept dozen e L calls told s r → f r ≡ f (report (after (start L e) calls))
  tells f {e} {L} {calls} {told} {s} {r} t all k = ap f (only_this e t L calls all told s r k).1

  rolls_tell : (f : Report → ℕ) {L : Limits} {calls : List Call} {told : List Answer} {s : Standing} {r : Report} → AllMean dozen calls → Kept dozen rolls L calls told s r → f r ≡ f (report (after (start L rolls) calls))
  rolls_tell f all k = tells f rolls_pass all k

  pub shut_out : ShutOut
  unfolding dec_le dec_lt ℕ_discrete
  shut_out = record {
    spent_early = λ m f c told p k. let x : ◌≡◌ {A = ℕ} 1 425 = rolls_tell marked (one_mean, tt) k in absurd (omega arith);
    spent_at_end = λ m f c told p k. let x : ◌≡◌ {A = ℕ} 1 12 = tells marked (num_typed 7 (omega arith)) (one_mean, tt) k in absurd (omega arith);
    tall_early = λ n m f c told p k. let x : ◌≡◌ {A = ℕ} 2 425 = rolls_tell marked (one_mean, tt) k in absurd (omega arith);
    tall_for_spent = λ m f c told p k. let x : ◌≡◌ {A = ℕ} 2 1 = tells marked (⊢one of_succ (num_typed 1 (omega arith))) (one_mean, tt) k in absurd (omega arith);
    full_early = λ n m f c told p k. let x : ◌≡◌ {A = ℕ} 3 425 = rolls_tell marked (one_mean, tt) k in absurd (omega arith);
    counts_the_rest = λ told s r e k. let h = (only_this rolls rolls_pass _ _ (one_mean, tt) told s r k).0 in let x : ◌≡◌ {A = ℕ} 1 0 = ap height (sym e) ∙ ap (λ u. height u.state) h in absurd (omega arith);
    invented_moves = λ f c told p k. let x : ◌≡◌ {A = ℕ} 6 5 = rolls_tell (λ y. y.moves) (one_mean, tt) k in absurd (omega arith);
    asks_no_counter = λ n m f c told p k. let x : ◌≡◌ {A = ℕ} 0 425 = rolls_tell marked (one_mean, tt) k in absurd (omega arith);
    other_number = λ n m f c told p k. let x : ◌≡◌ {A = ℕ} 485 425 = rolls_tell marked (one_mean, tt) k in absurd (omega arith);
    frames_off_by_one = λ t n m c told p k. let x : ◌≡◌ {A = ℕ} 0 1 = rolls_tell (λ y. y.frames) (one_mean, tt) k in absurd (omega arith);
    stale_steps = λ t m f c told p k. let x : ◌≡◌ {A = ℕ} 5 8 = rolls_tell (λ y. y.steps) (one_mean, (one_mean, tt)) k in absurd (omega arith);
    goes_on_after_halt = λ t m f c told p k. let x : ◌≡◌ {A = ℕ} 26 16 = rolls_tell (λ y. y.steps) (one_mean, (one_mean, tt)) k in absurd (omega arith);
    takes_fewer = λ t m f c told p k. let x : ◌≡◌ {A = ℕ} 9 10 = rolls_tell (λ y. y.steps) (one_mean, tt) k in absurd (omega arith);
    answers_the_total = λ t u p r k. let x : ◌≡◌ {A = ℕ} 13 8 = (only_this rolls rolls_pass _ _ (one_mean, (one_mean, tt)) _ p r k).2 in absurd (omega arith);
    answers_other_status = λ n p r k. let x : ◌≡◌ {A = ℕ} 4 425 = ap mark k.status_answered ∙ rolls_tell marked (one_mean, tt) k in absurd (omega arith);
  }

  pub never_so : NeverSo
  never_so M e L calls told s r k = record {
    spent_early = λ t h. let x = (k.status_right.spent_at.0 t).1 in omega (arith, k.steps_right);
    spent_at_end = λ t f. (k.status_right.spent_at.0 t).0 f;
    tall_early = λ t n h. tall_one n (k.status_right.tall_at.0 t).2 h;
    tall_for_spent = λ t h. (k.status_right.tall_at.0 t).1 (sym same ∙ h);
    full_early = λ t n h. full_one n (k.status_right.full_at.0 t).3 h;
    full_for_tall = λ t n h. (k.status_right.full_at.0 t).2 (n, h);
    going_too_long = λ t h. (k.status_right.going_at.0 t).1 (sym same ∙ h);
    other_place = λ m c p ss h. h (at m c p ss).2;
    other_moves = λ m c p ss h. h (k.moves_right ∙ (at m c p ss).0);
    other_cells = λ m c p ss h. h (k.cells_right ∙ (at m c p ss).1);
    past_the_end = λ i m c p ss f h. late i m c p ss f (omega (arith, same));
    stops_early = λ t h. stops t h;
    takes_more = λ h. let x = k.steps_lesser in omega arith;
    past_the_fuel = λ h. let x = k.steps_lesser in let y = fewest_fuel L k.fewest_right in omega arith;
    past_the_frames = λ h. let x = fits.0 in omega (arith, k.frames_right);
    past_the_cells = λ h. let x = fits.1 in omega (arith, k.cells_right);
  }
    where
      same : r.steps ≡ s.steps
      same = k.steps_right

      tall_one : (n : Onward M s) → (x : Onward M s) × (L.frames < height x.state) → height n.state ≤ L.frames → ⊥
      tall_one n (x, y) h = let e = ap height (step_unique laws n.step x.step).2 in omega arith

      full_one : (n : Onward M s) → (x : Onward M s) × (L.cells < s.cells + x.cells) → r.cells + n.cells ≤ L.cells → ⊥
      full_one n (x, y) h = let e = (step_unique laws n.step x.step).1 in omega (arith, k.cells_right)

      at : (m c : ℕ) (p : State) → Steps M r.steps m c ([] ▷ e) p → (s.moves ≡ m) × (s.cells ≡ c) × (s.state ≡ p)
      at m c p ss = steps_unique laws (steps_cast (sym same) refl refl k.stands) ss

      late : (i m c : ℕ) (p : State) → Steps M i m c ([] ▷ e) p → Final p → i < s.steps → ⊥
      late i m c p ss f h =
          let x : Split M e i = split e refl k.stands i h in
          let y = steps_unique laws ss (steps_cast x.count refl refl x.leads) in
          end_rests laws (subst Final y.2 f) x.step

      stops : r.status ≡ going → r.steps < all_counts calls → ⊥
      stops t h =
          let x = k.steps_lesser in
          let (u, a, b, not) = k.fewest_right.not_then in
          not (carry laws (Going M L) s u k.stands a (omega (arith, same)) (k.status_right.going_at.0 t))

      Fits : Standing → Type 0
      Fits u = (height u.state ≤ L.frames) × (u.cells ≤ L.cells)

      fits : Fits s
      fits = go (dec_lt 0 s.steps)
        where
          go : Dec (0 < s.steps) → Fits s
          go (no h) = subst Fits (place_unique laws (opening e) s at_start k.stands (omega arith)) (omega arith, omega arith)
          go (yes h) =
              let i : ℕ = s.steps - 1 in
              let x : Split M e i = split e refl k.stands i (omega arith) in
              let (u, a, b, g) = k.fewest_right.going_before i (omega (arith, k.steps_lesser, same)) in
              let y = place_unique laws (next_place x) s (then_step x.leads x.step) k.stands (omega (arith, x.count)) in
              subst Fits y (allowed x (carry laws (Going M L) u x.before a x.leads (b ∙ sym x.count) g))
