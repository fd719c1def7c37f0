-- The sums of the answers and of the counts.
use Rattle.std.proofs.Common.{◌≡◌, ℕ, zero, suc, ◌+◌, ◌≤◌, List, [], ◌∷◌, Some, None, Option, sym, refl, ap, ◌∙◌, subst, arith}
use mathlib.Core.Path.{fun_ext}
use Rattle.rows.specs.Meanings.{Meaning, Lawful}
use Rattle.machine.specs.StateTyping.{WellTyped, well_▷, none_expects}
use Rattle.theory.specs.Syntax.{nat, Term}
use Rattle.theory.specs.Typing.{◌⊢◌∶◌}
use Rattle.machine.specs.Next.{Taken, next}
use Rattle.runs.specs.Standings.{Limits, Standing, Status, number, failed, spent, tall, full, going, status, opening}
use Rattle.runs.specs.Advances.{Within, stepped, if-going, advanced}
use Rattle.runs.proofs.Running.{advanced_twice, advances, advances_unique, goes_typed, goes_within}
use Rattle.runs.specs.Calls.{Running, start, now_at, Call, advance, look, report, called, after, Answer, answer, answers, all_taken, all_counts, Said, AllMean, Came, opened, looked, went}
use Rattle.runs.specs.Promise.{AdvanceContinues}
use Rattle.machine.specs.Laws.{Laws}

-- Calls over one meaning are one advance by the sum of their counts.
pub one_advance : (M : Meaning) (o : Running) (calls : List Call) → AllMean M calls → after o calls ≡ called o (advance M (all_counts calls))
one_advance M o [] a = refl
one_advance M o (advance N n ∷ calls) a =
    let e : N ≡ M = fun_ext a.0 in
    ap (λ x. called (after o calls) (advance x n)) e
    ∙ (ap (λ x. called x (advance M n)) (one_advance M o calls a.1)
    ∙ ap (now_at o) (sym (advanced_twice M o.limits (all_counts calls) n o.standing)))
one_advance M o (look ∷ calls) a = one_advance M o calls a

-- An advance never takes back a step,
stepped_more : (s : Standing) (o : Option Taken) → s.steps ≤ (stepped s o).steps
stepped_more s (Some t) = omega arith
stepped_more s None = omega arith

going_more : (t : Status) (s q : Standing) → s.steps ≤ q.steps → s.steps ≤ (if-going t s q).steps
going_more (number n) s q h = omega arith
going_more failed s q h = omega arith
going_more spent s q h = omega arith
going_more tall s q h = omega arith
going_more full s q h = omega arith
going_more going s q h = h

advanced_more : (M : Meaning) (L : Limits) (n : ℕ) (s : Standing) → s.steps ≤ (advanced M L n s).steps
advanced_more M L zero s = omega arith
advanced_more M L (suc n) s =
    let q : Standing = advanced M L n s in
    let a = advanced_more M L n s in
    let b = going_more (status L q) q (stepped q (next M q.state)) (stepped_more q (next M q.state)) in
    omega arith

-- so the answers add up to the steps,
pub steps_add : (o : Running) (calls : List Call) → (after o calls).standing.steps ≡ o.standing.steps + all_taken (answers o calls)
steps_add o [] = omega arith
steps_add o (advance N n ∷ calls) =
    let p : Running = after o calls in
    let a = advanced_more N p.limits n p.standing in
    let b = steps_add o calls in
    omega arith
steps_add o (look ∷ calls) = steps_add o calls

-- and the latest says where the run stands.
pub last_said : (o : Running) (calls : List Call) → Said (answers o calls) (report (after o calls)).status
last_said o [] = tt
last_said o (advance N n ∷ calls) = refl
last_said o (look ∷ calls) = last_said o calls

-- What comes of calls is a run of a rule, under its limits and within them,
pub came_rule : {e : Term} {L : Limits} {calls : List Call} {told : List Answer} {o : Running} → Came e L calls told o → [] ⊢ e ∶ nat
came_rule (opened t) = t
came_rule (looked c) = came_rule c
came_rule (went c law a) = came_rule c

lawful_as : {M N : Meaning} → ((q : ℕ) → N q ≡ M q) → Lawful M → Lawful N
lawful_as h law = subst Lawful (sym (fun_ext h)) law

pub came_limits : {e : Term} {L : Limits} {calls : List Call} {told : List Answer} {o : Running} → Came e L calls told o → o.limits ≡ L
came_limits (opened t) = refl
came_limits (looked c) = came_limits c
came_limits (went c law a) = came_limits c

pub at_opening : (L : Limits) (e : Term) → Within L (opening e)
at_opening L e = record { fuel_lasts = omega arith; frames_fit = omega arith; cells_fit = omega arith }

pub came_within : {e : Term} {L : Limits} {calls : List Call} {told : List Answer} {o : Running} → Came e L calls told o → Within o.limits o.standing
came_within {e} {L} (opened t) = at_opening L e
came_within (looked c) = came_within c
came_within (went c law a) = goes_within a.1 (came_within c)

module _ (laws : Laws) where
  -- is well typed, and is what is computed,
  pub came_typed : {e : Term} {L : Limits} {calls : List Call} {told : List Answer} {o : Running} → Came e L calls told o → WellTyped o.standing.state
  came_typed (opened t) = well_▷ none_expects t
  came_typed (looked c) = came_typed c
  came_typed (went c law a) = goes_typed laws law a.1 (came_typed c)

  pub came_computed : {e : Term} {L : Limits} {calls : List Call} {told : List Answer} {o : Running} → Came e L calls told o → (told ≡ answers (start L e) calls) × (o ≡ after (start L e) calls)
  came_computed (opened t) = (refl, refl)
  came_computed (looked c) = came_computed c
  came_computed {e} {L} (went {calls = calls} {told = told} {M = M} {n = n} {o = o} {s = s} c law a) =
      let (x, y) = came_computed c in
      let z : now_at o s ≡ called (after (start L e) calls) (advance M n) = ap (now_at o) (advances_unique laws n a) ∙ ap (λ p. called p (advance M n)) y in
      (λ i. answer (y i) (z i) ∷ x i, z)

  -- and what is computed comes.
  pub advance_continues : AdvanceContinues
  advance_continues M law n o e L calls told c = went c law (advances laws M o.limits law n o.standing (came_typed c))

  pub computed_came : (M : Meaning) → Lawful M → (e : Term) → [] ⊢ e ∶ nat → (L : Limits) (calls : List Call) → AllMean M calls → Came e L calls (answers (start L e) calls) (after (start L e) calls)
  computed_came M law e t L [] all = opened t
  computed_came M law e t L (advance N n ∷ calls) all =
      advance_continues N (lawful_as all.0 law) n (after (start L e) calls) e L calls (answers (start L e) calls) (computed_came M law e t L calls all.1)
  computed_came M law e t L (look ∷ calls) all = looked (computed_came M law e t L calls all)
