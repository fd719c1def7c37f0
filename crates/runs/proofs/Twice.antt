-- Two runs of one rule.
use Rattle.std.proofs.Common.{◌≡◌, ℕ, ◌<◌, ◌≤◌, min, ◌≢◌, List, [], sym, refl, ap, ◌∙◌, subst, subst₂, inl, inr, arith}
use native.Mathlib.Decide.{dec_lt}
use Rattle.theory.specs.Syntax.{nat, Term}
use Rattle.theory.specs.Typing.{◌⊢◌∶◌}
use Rattle.rows.specs.Meanings.{Meaning, Lawful}
use Rattle.machine.specs.Steps.{Final, number_end, failed_end}
use Rattle.runs.specs.Standings.{Limits, Standing, Status, number, failed, spent, tall, full, going, height}
use Rattle.runs.specs.Calls.{start, Call, Report, report, Answer, answers, after, all_counts, AllMean, Came}
use Rattle.runs.specs.Promise.{Going, Right, Fewest, Kept, Ended, NoSmaller, Same, Promise}
use Rattle.runs.specs.Promise.{WholeRun, WholeRunFrom, CallsComputed, SecondRun, HaltsInTime, Determined}
use Rattle.runs.proofs.Places.{place_unique, Split, split}
use Rattle.runs.proofs.Counting.{came_rule, came_computed, computed_came}
use Rattle.runs.proofs.Whole.{carry, keeps}
use Rattle.machine.specs.Laws.{Laws}
use Rattle.runs.proofs.Machine.{end_rests}

-- The right status is one.
pub right_unique : {M : Meaning} {L L' : Limits} {s : Standing} (t t' : Status) → L ≡ L' → Right M L s t → Right M L' s t' → t ≡ t'
right_unique {M} {L} {L'} {s} t t' e a b = go t a
  where
    b' : Right M L s t'
    b' = subst (λ x. Right M x s t') (sym e) b

    go : (t : Status) → Right M L s t → t ≡ t'
    go (number n) a = sym ((b'.number_at n).1 ((a.number_at n).0 refl))
    go failed a = sym (b'.failed_at.1 (a.failed_at.0 refl))
    go spent a = sym (b'.spent_at.1 (a.spent_at.0 refl))
    go tall a = sym (b'.tall_at.1 (a.tall_at.0 refl))
    go full a = sym (b'.full_at.1 (a.full_at.0 refl))
    go going a = sym (b'.going_at.1 (a.going_at.0 refl))

-- The fewest steps are at most the fuel.
pub fewest_fuel : {M : Meaning} {e : Term} (L : Limits) {h : ℕ} → Fewest M e L h → h ≤ L.fuel
fewest_fuel {M} {e} L {h} a = go (dec_lt L.fuel h)
  where
    go : Dec (L.fuel < h) → h ≤ L.fuel
    go (yes x) = let (s, y, z, g) = a.going_before L.fuel x in absurd (g.1 z)
    go (no x) = omega arith

report_path : (r r' : Report) → r.status ≡ r'.status → r.steps ≡ r'.steps → r.moves ≡ r'.moves → r.frames ≡ r'.frames → r.cells ≡ r'.cells → r ≡ r'
report_path r r' a b c d e = λ i. record { status = a i; steps = b i; moves = c i; frames = d i; cells = e i }

-- Where every limit allows a step, larger limits allow it.
still_going : {M : Meaning} {L L' : Limits} (s : Standing) → NoSmaller L L' → s.steps < L.fuel → Going M L s → Going M L' s
still_going s w lt g = (
  g.0,
  (λ x. omega (arith, w.fuel)),
  (λ x. g.2 (x.0, omega (arith, x.1, w.frames))),
  (λ x. g.3 (x.0, omega (arith, x.1, w.cells))),
)

ended_final : {M : Meaning} {L : Limits} {s : Standing} {t : Status} → Right M L s t → Ended t → Final s.state
ended_final r (inl (n, e)) = subst Final (sym ((r.number_at n).0 e)) number_end
ended_final r (inr e) = subst Final (sym (r.failed_at.0 e)) failed_end

-- An end's status does not depend on the limits.
ended_same : {M : Meaning} {L L' : Limits} {s : Standing} {t t' : Status} → Right M L s t → Right M L' s t' → Ended t → t' ≡ t
ended_same a b (inl (n, e)) = (b.number_at n).1 ((a.number_at n).0 e) ∙ sym e
ended_same a b (inr e) = b.failed_at.1 (a.failed_at.0 e) ∙ sym e

module _ (laws : Laws) where
  -- They are one number.
  fewest_least : {M : Meaning} {e : Term} {L : Limits} {h k : ℕ} → Fewest M e L h → Fewest M e L k → h < k → ⊥
  fewest_least {M} {e} {L} {h} a b lt =
      let (s, x, y, not) = a.not_then in
      let (t, z, w, g) = b.going_before h lt in
      not (carry laws (Going M L) t s z x (w ∙ sym y) g)

  fewest_unique : {M : Meaning} {e : Term} {L : Limits} {h k : ℕ} → Fewest M e L h → Fewest M e L k → h ≡ k
  fewest_unique {h} {k} a b = go (dec_lt h k) (dec_lt k h)
    where
      go : Dec (h < k) → Dec (k < h) → h ≡ k
      go (yes x) y = absurd (fewest_least a b x)
      go (no x) (yes y) = absurd (fewest_least b a y)
      go (no x) (no y) = omega arith

  pub determined : Determined
  determined M e L calls told told' s s' r r' a b =
      let f = fewest_unique a.fewest_right b.fewest_right in
      let n : r.steps ≡ r'.steps = a.steps_lesser ∙ (ap (min (all_counts calls)) f ∙ sym b.steps_lesser) in
      let x : s ≡ s' = place_unique laws s s' a.stands b.stands (sym a.steps_right ∙ (n ∙ b.steps_right)) in
      let t : r.status ≡ r'.status = right_unique r.status r'.status refl a.status_right (subst (λ u. Right M L u r'.status) (sym x) b.status_right) in (
        x,
        report_path r r' t n
            (a.moves_right ∙ (ap (λ u. u.moves) x ∙ sym b.moves_right))
            (a.frames_right ∙ (ap (λ u. height u.state) x ∙ sym b.frames_right))
            (a.cells_right ∙ (ap (λ u. u.cells) x ∙ sym b.cells_right)),
        sym a.steps_answered ∙ (n ∙ b.steps_answered),
      )

  pub ends_again : (M : Meaning) (e : Term) (L L' : Limits) (calls calls' : List Call) (told told' : List Answer) (s s' : Standing) (r r' : Report) → Kept M e L calls told s r → Ended r.status → NoSmaller L L' → Kept M e L' calls' told' s' r' → r'.status ≢ going → Same r r'
  ends_again M e L L' calls calls' told told' s s' r r' a end w b halted = go (dec_lt s'.steps s.steps) (dec_lt s.steps s'.steps)
    where
      final : Final s.state
      final = ended_final a.status_right end

      -- it cannot have halted earlier
      early : s'.steps < s.steps → ⊥
      early lt =
          let least = a.steps_lesser in
          let same = a.steps_right in
          let fuel = fewest_fuel L a.fewest_right in
          let (u, x, y, g) = a.fewest_right.going_before s'.steps (omega arith) in
          let g' : Going M L' u = still_going u w (omega arith) g in
          halted (b.status_right.going_at.1 (carry laws (Going M L') u s' x b.stands y g'))

      -- nor gone on
      late : s.steps < s'.steps → ⊥
      late lt =
          let x : Split M e s.steps = split e refl b.stands s.steps lt in
          let f : Final x.before.state = carry laws (λ v. Final v.state) s x.before a.stands x.leads (sym x.count) final in
          end_rests laws f x.step

      same : s.steps ≡ s'.steps → Same r r'
      same n =
          let x : s ≡ s' = place_unique laws s s' a.stands b.stands n in
          record {
            status = ended_same a.status_right (subst (λ v. Right M L' v r'.status) (sym x) b.status_right) end;
            steps = b.steps_right ∙ (sym n ∙ sym a.steps_right);
            moves = b.moves_right ∙ (sym (ap (λ v. v.moves) x) ∙ sym a.moves_right);
            frames = b.frames_right ∙ (sym (ap (λ v. height v.state) x) ∙ sym a.frames_right);
            cells = b.cells_right ∙ (sym (ap (λ v. v.cells) x) ∙ sym a.cells_right);
          }

      go : Dec (s'.steps < s.steps) → Dec (s.steps < s'.steps) → Same r r'
      go (yes x) y = absurd (early x)
      go (no x) (yes y) = absurd (late y)
      go (no x) (no y) = same (omega arith)

  promise : (M : Meaning) → Lawful M → (e : Term) → [] ⊢ e ∶ nat → (L : Limits) (calls : List Call) → AllMean M calls → Promise M e L calls (answers (start L e) calls) (after (start L e) calls).standing (report (after (start L e) calls))
  promise M law e t L calls all =
      let k = keeps laws M law e t L calls all in
      record { kept = k; again = λ end L' w calls' told' s' r' b halted. ends_again M e L L' calls calls' _ told' _ s' _ r' k end w b halted }

  pub calls_computed : CallsComputed
  calls_computed M law e t L calls all told o = (
    (λ c. came_computed laws c),
    (λ (x, y). subst₂ (Came e L calls) (sym x) (sym y) (computed_came laws M law e t L calls all)),
  )

  pub whole_run : WholeRun
  whole_run o M law e L calls told all c =
      let (x, y) = came_computed laws c in
      subst₂ (λ a b. Promise M e L calls a b.standing (report b)) (sym x) (sym y) (promise M law e (came_rule c) L calls all)

  pub whole_run_from : WholeRunFrom
  whole_run_from e t L o start_is M law calls all = subst (λ x. Promise M e L calls (answers x calls) (after x calls).standing (report (after x calls))) (sym start_is) (promise M law e t L calls all)

  pub second_run : SecondRun
  second_run M law e L L' w calls calls' all all' told told' o o' c c' end halted =
      ends_again M e L L' calls calls' _ _ _ _ _ _ (whole_run o M law e L calls told all c).kept end w (whole_run o' M law e L' calls' told' all' c').kept halted

  pub halts_in_time : HaltsInTime
  halts_in_time M e L calls told s r k enough g =
      let least = k.steps_lesser in
      let same = k.steps_right in
      let fuel = fewest_fuel L k.fewest_right in
      let (u, x, y, not) = k.fewest_right.not_then in
      not (carry laws (Going M L) s u k.stands x (omega arith) (k.status_right.going_at.0 g))
