-- The laws of runs, from the laws of the machine.
use Rattle.std.proofs.Common.{◌≡◌, ℕ, ◌≤◌, [], None, sym, ap, subst, subst₂, arith}
use Rattle.rows.specs.Limits.{top}
use Rattle.machine.specs.StateTyping.{WellTyped}
use Rattle.machine.specs.Laws.{Laws as MachineLaws}
use Rattle.runs.specs.Standings.{Limits, Standing, number, status}
use Rattle.runs.specs.Advances.{Within, Advances}
use Rattle.runs.specs.Calls.{Running, start, report, all_taken, Said}
use Rattle.runs.specs.Promise.{Right}
use Rattle.runs.specs.Laws.{Laws, HeldRightly, AdvanceSound, AnyCounters}
use Rattle.runs.proofs.Machine.{steps_follow}
use Rattle.runs.proofs.Running.{allowed, step_costs, goes_steps, goes_typed, goes_within, advances, advances_unique, advanced_twice}
use Rattle.runs.proofs.Statuses.{has, has_right}
use Rattle.runs.proofs.Counting.{one_advance, steps_add, last_said, came_limits, came_within, came_typed, came_computed, advance_continues}
use Rattle.runs.proofs.Twice.{determined, calls_computed, whole_run, whole_run_from, second_run, halts_in_time}
use Rattle.runs.proofs.Programs.{begins, once_more, turn, finished, answers_so, continues, promised, step_counts, called_sound, fuel_enough}
use Rattle.runs.proofs.WrongEngines.{shut_out, never_so}

module _ (laws : MachineLaws) where
  held_rightly : HeldRightly
  held_rightly M L s w t = has_right (has laws M L s w t)

  advance_sound : AdvanceSound
  advance_sound M law L n r q t w (j, gs, le, why) =
      let (m, c, ss, x, y, z) = goes_steps gs in
      record {
        taken = j;
        moves_now = m;
        cells_now = c;
        run = ss;
        steps_add = x;
        moves_add = y;
        cells_add = z;
        moved = steps_follow laws ss;
        typed = goes_typed laws law gs t;
        within = goes_within gs w;
      }

  -- A number that a well typed run ends with is an amount.
  number_fits : (L : Limits) (s : Standing) → Within L s → WellTyped s.state → (n : ℕ) → status L s ≡ number n → n ≤ top
  number_fits L s i w n e =
      let at = ((held_rightly (λ q. None) L s i w).number_at n).0 e in
      laws.amounts_fit [] n (subst WellTyped at w)

  any_counters : AnyCounters
  any_counters e L calls told o c =
      let (x, y) = came_computed laws c in
      let i : Within L o.standing = subst (λ (l : Limits). Within l o.standing) (came_limits c) (came_within c) in
      let s = steps_add (start L e) calls in
      let u = ap all_taken x in
      let v = ap (λ (p : Running). p.standing.steps) y in
      record {
        limits_kept = came_limits c;
        typed = came_typed laws c;
        within = i;
        status_right = λ M. subst (λ (l : Limits). Right M L o.standing (status l o.standing)) (sym (came_limits c)) (held_rightly M L o.standing i (came_typed laws c));
        number_fits = subst (λ (l : Limits). (n : ℕ) → status l o.standing ≡ number n → n ≤ top) (sym (came_limits c)) (number_fits L o.standing i (came_typed laws c));
        steps_answered = omega arith;
        status_answered = subst₂ (λ a (p : Running). Said a (report p).status) (sym x) (sym y) (last_said (start L e) calls);
      }

  pub all_laws : Laws
  all_laws = record {
    costs_known = λ M m c p q st. step_costs st;
    held_rightly = held_rightly;
    advance_sound = advance_sound;
    advance_computed = λ M law L n r q w. (λ a. advances_unique laws n a, λ e. subst (Advances M L n r) (sym e) (advances laws M L law n r w));
    advances_join = advanced_twice;
    any_counters = any_counters;
    whole_run = whole_run laws;
    whole_run_from = whole_run_from laws;
    calls_computed = calls_computed laws;
    advance_continues = advance_continues laws;
    second_run = second_run laws;
    halts_in_time = halts_in_time laws;
    one_meaning = one_advance;
    determined = determined laws;
    shut_out = shut_out laws;
    never_so = never_so laws;
    begins = begins;
    going_allows = allowed;
    step_counts = step_counts laws;
    once_more = once_more;
    turn = turn;
    finished = finished;
    fuel_enough = fuel_enough laws;
    called_sound = called_sound laws;
    answers_so = answers_so;
    continues_so = continues laws;
    promised_so = promised laws;
  }
