-- The promise of whole runs is kept.
use Rattle.std.proofs.Common.{◌≡◌, ℕ, ◌<◌, ◌≤◌, min, ◌≢◌, ◌⊎◌, List, [], sym, refl, ap, ◌∙◌, subst, inl, inr, arith}
use native.Mathlib.Decide.{dec_lt}
use Rattle.theory.specs.Syntax.{nat, Term}
use Rattle.theory.specs.Typing.{◌⊢◌∶◌}
use Rattle.rows.specs.Meanings.{Meaning, Lawful}
use Rattle.machine.specs.States.{◌▷◌}
use Rattle.machine.specs.Steps.{Final, number_end, failed_end}
use Rattle.machine.specs.StateTyping.{WellTyped, well_▷, none_expects}
use Rattle.runs.specs.Standings.{Limits, Standing, Status, going, status, opening}
use Rattle.runs.specs.Advances.{Goes, stays, goes, Within, Advances}
use Rattle.runs.proofs.Running.{goes_steps, goes_typed, goes_within, advances}
use Rattle.runs.specs.Calls.{Running, start, Call, report, Answer, answers, all_taken, all_counts, Said, AllMean, after}
use Rattle.runs.specs.Promise.{Leads, Onward, NoFuel, NoFrames, NoCells, Short, Going, Right, After, Fewest, Kept}
use Rattle.runs.proofs.Places.{place_unique, split, split_single}
use Rattle.runs.proofs.Statuses.{Has, is_number, is_failed, is_spent, is_tall, is_full, is_going, has, has_right, onward}
use Rattle.runs.proofs.Counting.{at_opening, one_advance, steps_add, last_said}
use Rattle.machine.specs.Laws.{Laws}
use Rattle.runs.proofs.Machine.{end_rests, steps_cast, steps_follow}

-- A run that goes from the opening is on the machine's way, well typed, within its limits, and has the right status.
record StandingRight (M : Meaning) (e : Term) (L : Limits) (j : ℕ) (s : Standing) : Type 0 where
  leads : Leads M e s
  count : s.steps ≡ j
  typed : WellTyped s.state
  reason : Has M L s (status L s)
  right : Right M L s (status L s)

-- On the way there the run was going.
went : {M : Meaning} {L : Limits} {j : ℕ} {r q : Standing} → Goes M L j r q → (i : ℕ) → i < j → (s : Standing) × Goes M L i r s × (status L s ≡ going)
went stays i h = absurd (omega arith)
went {M} {L} (goes {j = j} {r = r} {q = q} gs g st) i h = go (dec_lt i j) (went gs i)
  where
    go : Dec (i < j) → (i < j → (s : Standing) × Goes M L i r s × (status L s ≡ going)) → (s : Standing) × Goes M L i r s × (status L s ≡ going)
    go (yes k) f = f k
    go (no k) f = (q, subst (λ x. Goes M L x r q) (omega arith) gs, g)

-- The fewest steps after which it is not going: fuel is an upper bound.
record FewestFound (M : Meaning) (e : Term) (L : Limits) : Type 0 where
  steps : ℕ
  found : Fewest M e L steps

held_short : {M : Meaning} {L : Limits} {s : Standing} {t : Status} → Has M L s t → t ≢ going → Short s → Final s.state ⊎ Onward M s → Onward M s × (NoFuel L s ⊎ (NoFrames M L s ⊎ NoCells M L s))
held_short h n k (inl f) = absurd (k f)
held_short (is_number e) n k (inr o) = absurd (k (subst Final (sym e) number_end))
held_short (is_failed e) n k (inr o) = absurd (k (subst Final (sym e) failed_end))
held_short (is_spent a b) n k (inr o) = (o, inl b)
held_short (is_tall a b c) n k (inr o) = (o, inr (inl c))
held_short (is_full a b c d) n k (inr o) = (o, inr (inr d))
held_short (is_going a b c d) n k (inr o) = absurd (n refl)

module _ (laws : Laws) where
  stands_right : {M : Meaning} {L : Limits} {j : ℕ} {s : Standing} (e : Term) → Lawful M → [] ⊢ e ∶ nat → Goes M L j (opening e) s → StandingRight M e L j s
  stands_right {M} {L} {j} {s} e law t gs =
      let (m, c, ss, x, y, z) = goes_steps gs in
      let w : WellTyped s.state = goes_typed laws law gs (well_▷ none_expects t) in
      let i : Within L s = goes_within gs (at_opening L e) in
      record {
        leads = steps_cast (omega arith) (omega arith) (omega arith) ss;
        count = omega arith;
        typed = w;
        reason = has laws M L s i w;
        right = has_right (has laws M L s i w);
      }

  fewest_of : {M : Meaning} {L : Limits} (e : Term) → Lawful M → [] ⊢ e ∶ nat → {q : Standing} → Advances M L L.fuel (opening e) q → FewestFound M e L
  fewest_of {M} {L} e law t {q} (j, gs, le, why) = record { steps = j; found = record { not_then = (q, x.leads, x.count, halts why); going_before = before } }
    where
      x : StandingRight M e L j q
      x = stands_right e law t gs

      halts : (j ≡ L.fuel) ⊎ (status L q ≢ going) → ¬ Going M L q
      halts (inl f) g = g.1 (x.count ∙ f)
      halts (inr f) g = f (x.right.going_at.1 g)

      before : (i : ℕ) → i < j → After M e i λ s. Going M L s
      before i h =
          let (s, hs, g) = went gs i h in
          let y = stands_right e law t hs in
          (s, y.leads, y.count, y.right.going_at.0 g)

  -- Two places after as many steps have the same of everything.
  pub carry : {M : Meaning} {e : Term} (P : Standing → Type 0) (s t : Standing) → Leads M e s → Leads M e t → s.steps ≡ t.steps → P s → P t
  carry P s t a b h x = subst P (place_unique laws s t a b h) x

  lesser : {M : Meaning} {L : Limits} {j : ℕ} {s : Standing} (e : Term) → Lawful M → [] ⊢ e ∶ nat → (n h : ℕ) → Goes M L j (opening e) s → j ≤ n → (j ≡ n) ⊎ (status L s ≢ going) → Fewest M e L h → j ≡ min n h
  lesser {M} {L} {j} {s} e law t n h gs le why f = go (dec_lt h j) (dec_lt j h)
    where
      x : StandingRight M e L j s
      x = stands_right e law t gs

      past : h < j → ⊥
      past k =
          let (u, us, g) = went gs h k in
          let y = stands_right e law t us in
          let (v, a, b, not) = f.not_then in
          not (carry (Going M L) u v y.leads a (y.count ∙ sym b) (y.right.going_at.0 g))

      still : j < h → status L s ≡ going
      still k =
          let (v, a, b, g) = f.going_before j k in
          x.right.going_at.1 (carry (Going M L) v s a x.leads (b ∙ sym x.count) g)

      all : status L s ≡ going → (j ≡ n) ⊎ (status L s ≢ going) → j ≡ n
      all g (inl q) = q
      all g (inr no_more) = absurd (no_more g)

      go : Dec (h < j) → Dec (j < h) → j ≡ min n h
      go (yes k) b = absurd (past k)
      go (no a) (yes k) = let q = all (still k) why in omega arith
      go (no a) (no b) = omega arith

  short_held : {M : Meaning} {L : Limits} {s : Standing} {t : Status} → Right M L s t → Onward M s × (NoFuel L s ⊎ (NoFrames M L s ⊎ NoCells M L s)) → (t ≢ going) × Short s
  short_held {M} {L} {s} {t} r (o, why) = (λ e. not why (r.going_at.0 e), λ f. end_rests laws f o.step)
    where
      not : NoFuel L s ⊎ (NoFrames M L s ⊎ NoCells M L s) → Going M L s → ⊥
      not (inl a) g = g.1 a
      not (inr (inl b)) g = g.2 b
      not (inr (inr c)) g = g.3 c

  kept_by : {M : Meaning} {L : Limits} {s : Standing} (e : Term) (calls : List Call) (told : List Answer) → Lawful M → [] ⊢ e ∶ nat → FewestFound M e L → Advances M L (all_counts calls) (opening e) s → s.steps ≡ all_taken told → Said told (status L s) → Kept M e L calls told s (report (record { limits = L; standing = s }))
  kept_by {M} {L} {s} e calls told law t f (j, gs, le, why) add last =
      let x = stands_right e law t gs in
      record {
        stands = x.leads;
        steps_right = refl;
        typed = x.typed;
        ends_or_goes = onward laws M s x.typed;
        status_right = x.right;
        moves_right = refl;
        frames_right = refl;
        cells_right = refl;
        halted_short = (λ (n, k). held_short x.reason n k (onward laws M s x.typed), short_held x.right);
        steps_answered = add;
        status_answered = last;
        fewest = f.steps;
        fewest_right = f.found;
        steps_lesser = x.count ∙ lesser e law t (all_counts calls) f.steps gs le why f.found;
        moves_single = λ i h. split_single laws (split e refl x.leads i h);
        moves_structural = steps_follow laws x.leads;
      }

  pub keeps : (M : Meaning) → Lawful M → (e : Term) → [] ⊢ e ∶ nat → (L : Limits) (calls : List Call) → AllMean M calls → Kept M e L calls (answers (start L e) calls) (after (start L e) calls).standing (report (after (start L e) calls))
  keeps M law e t L calls a =
      let w : WellTyped ([] ▷ e) = well_▷ none_expects t in
      let n : ℕ = all_counts calls in
      let told : List Answer = answers (start L e) calls in
      let y = one_advance M (start L e) calls a in
      let f = fewest_of e law t (advances laws M L law L.fuel (opening e) w) in
      let add = steps_add (start L e) calls in
      let move = ap (λ (o : Running). o.standing.steps) y in
      let said = subst (λ (o : Running). Said told (report o).status) y (last_said (start L e) calls) in
      subst (λ (o : Running). Kept M e L calls told o.standing (report o)) (sym y) (kept_by e calls told law t f (advances laws M L law n (opening e) w) (omega arith) said)
