-- The status is the first that fits.
use Rattle.std.proofs.Common.{◌≡◌, ℕ, ◌+◌, ◌<◌, ◌≤◌, ◌⊎◌, [], ◌∷◌, sym, refl, subst, inl, inr, arith}
use mathlib.Core.Logic.{ite}
use native.Mathlib.Decide.{dec_le, dec_lt}
use Rattle.machine.specs.Values.{amount, function, couple}
use Rattle.rows.specs.Meanings.{Meaning}
use Rattle.machine.specs.States.{State, ◌▷◌, ◌◁◌, ◌◂}
use Rattle.machine.specs.Steps.{Step, Final, number_end, failed_end}
use Rattle.machine.specs.StateTyping.{WellTyped}
use Rattle.runs.specs.Standings.{Limits, Standing, Status, number, failed, spent, tall, full, going, height, adds, makes, held, ended_or, status}
use Rattle.runs.specs.Advances.{Within}
use Rattle.runs.proofs.Lists.{clash}
use Rattle.runs.proofs.Running.{step_costs}
use Rattle.runs.specs.Promise.{Onward, NoFuel, NoFrames, NoCells, Short, Going, Right}
use Rattle.machine.specs.Laws.{Laws}
use Rattle.runs.proofs.Machine.{ends_or_goes}

-- Each status with its reason.
pub data Has (M : Meaning) (L : Limits) (s : Standing) : Status → Type 0 where
  is_number : {n : ℕ} → s.state ≡ ([] ◁ amount n) → Has M L s (number n)
  is_failed : s.state ≡ ([] ◂) → Has M L s failed
  is_spent : Short s → NoFuel L s → Has M L s spent
  is_tall : Short s → (¬ NoFuel L s) → NoFrames M L s → Has M L s tall
  is_full : Short s → (¬ NoFuel L s) → (¬ NoFrames M L s) → NoCells M L s → Has M L s full
  is_going : Short s → (¬ NoFuel L s) → (¬ NoFrames M L s) → (¬ NoCells M L s) → Has M L s going

at_number : {p : State} {n : ℕ} → p ≡ ([] ◁ amount n) → (¬ Final p) → ⊥
at_number e h = h (subst Final (sym e) number_end)

at_failure : {p : State} → p ≡ ([] ◂) → (¬ Final p) → ⊥
at_failure e h = h (subst Final (sym e) failed_end)

-- Only one fits.
pub has_unique : {M : Meaning} {L : Limits} {s : Standing} {t u : Status} → Has M L s t → Has M L s u → t ≡ u
has_unique (is_number a) (is_number a') = cc
has_unique (is_number a) (is_failed a') = clash (cc)
has_unique (is_number a) (is_spent a' b') = absurd (at_number a a')
has_unique (is_number a) (is_tall a' b' c') = absurd (at_number a a')
has_unique (is_number a) (is_full a' b' c' d') = absurd (at_number a a')
has_unique (is_number a) (is_going a' b' c' d') = absurd (at_number a a')
has_unique (is_failed a) (is_number a') = clash (cc)
has_unique (is_failed a) (is_failed a') = refl
has_unique (is_failed a) (is_spent a' b') = absurd (at_failure a a')
has_unique (is_failed a) (is_tall a' b' c') = absurd (at_failure a a')
has_unique (is_failed a) (is_full a' b' c' d') = absurd (at_failure a a')
has_unique (is_failed a) (is_going a' b' c' d') = absurd (at_failure a a')
has_unique (is_spent a b) (is_number a') = absurd (at_number a' a)
has_unique (is_spent a b) (is_failed a') = absurd (at_failure a' a)
has_unique (is_spent a b) (is_spent a' b') = refl
has_unique (is_spent a b) (is_tall a' b' c') = absurd (b' b)
has_unique (is_spent a b) (is_full a' b' c' d') = absurd (b' b)
has_unique (is_spent a b) (is_going a' b' c' d') = absurd (b' b)
has_unique (is_tall a b c) (is_number a') = absurd (at_number a' a)
has_unique (is_tall a b c) (is_failed a') = absurd (at_failure a' a)
has_unique (is_tall a b c) (is_spent a' b') = absurd (b b')
has_unique (is_tall a b c) (is_tall a' b' c') = refl
has_unique (is_tall a b c) (is_full a' b' c' d') = absurd (c' c)
has_unique (is_tall a b c) (is_going a' b' c' d') = absurd (c' c)
has_unique (is_full a b c d) (is_number a') = absurd (at_number a' a)
has_unique (is_full a b c d) (is_failed a') = absurd (at_failure a' a)
has_unique (is_full a b c d) (is_spent a' b') = absurd (b b')
has_unique (is_full a b c d) (is_tall a' b' c') = absurd (c c')
has_unique (is_full a b c d) (is_full a' b' c' d') = refl
has_unique (is_full a b c d) (is_going a' b' c' d') = absurd (d' d)
has_unique (is_going a b c d) (is_number a') = absurd (at_number a' a)
has_unique (is_going a b c d) (is_failed a') = absurd (at_failure a' a)
has_unique (is_going a b c d) (is_spent a' b') = absurd (b b')
has_unique (is_going a b c d) (is_tall a' b' c') = absurd (c c')
has_unique (is_going a b c d) (is_full a' b' c' d') = absurd (d d')
has_unique (is_going a b c d) (is_going a' b' c' d') = refl

from_number : {M : Meaning} {L : Limits} {s : Standing} {n : ℕ} → Has M L s (number n) → s.state ≡ ([] ◁ amount n)
from_number (is_number a) = a

from_failed : {M : Meaning} {L : Limits} {s : Standing} → Has M L s failed → s.state ≡ ([] ◂)
from_failed (is_failed a) = a

from_spent : {M : Meaning} {L : Limits} {s : Standing} → Has M L s spent → Short s × NoFuel L s
from_spent (is_spent a b) = (a, b)

from_tall : {M : Meaning} {L : Limits} {s : Standing} → Has M L s tall → Short s × (¬ NoFuel L s) × NoFrames M L s
from_tall (is_tall a b c) = (a, b, c)

from_full : {M : Meaning} {L : Limits} {s : Standing} → Has M L s full → Short s × (¬ NoFuel L s) × (¬ NoFrames M L s) × NoCells M L s
from_full (is_full a b c d) = (a, b, c, d)

from_going : {M : Meaning} {L : Limits} {s : Standing} → Has M L s going → Going M L s
from_going (is_going a b c d) = (a, b, c, d)

pub has_right : {M : Meaning} {L : Limits} {s : Standing} {t : Status} → Has M L s t → Right M L s t
has_right {M} {L} {s} {t} h = record {
  number_at = λ n. (λ e. from_number (at e), λ x. has_unique h (is_number x));
  failed_at = (λ e. from_failed (at e), λ x. has_unique h (is_failed x));
  spent_at = (λ e. from_spent (at e), λ x. has_unique h (is_spent x.0 x.1));
  tall_at = (λ e. from_tall (at e), λ x. has_unique h (is_tall x.0 x.1 x.2));
  full_at = (λ e. from_full (at e), λ x. has_unique h (is_full x.0 x.1 x.2 x.3));
  going_at = (λ e. from_going (at e), λ x. has_unique h (is_going x.0 x.1 x.2 x.3));
}
  where
    at : {u : Status} → t ≡ u → Has M L s u
    at e = subst (Has M L s) e h

-- What the limits say short of an end.
limits_say : (M : Meaning) (L : Limits) (s : Standing) → Within L s → Short s → Onward M s → Has M L s (held L s)
limits_say M L s w h o = go (dec_le L.fuel s.steps) (dec_lt L.frames (height s.state + adds s.state)) (dec_lt L.cells (s.cells + makes s.state))
  where
    frames_allow : height s.state + adds s.state ≤ L.frames → ¬ NoFrames M L s
    frames_allow a (n, b) = let k = (step_costs n.step).1 in absurd (omega arith)

    cells_allow : s.cells + makes s.state ≤ L.cells → ¬ NoCells M L s
    cells_allow a (n, b) = let k = (step_costs n.step).0 in absurd (omega arith)

    go : (a : Dec (L.fuel ≤ s.steps)) (b : Dec (L.frames < height s.state + adds s.state)) (c : Dec (L.cells < s.cells + makes s.state)) → Has M L s (ite a spent (ite b tall (ite c full going)))
    go (yes a) b c = is_spent h (omega arith)
    go (no a) (yes b) c = is_tall h (λ e. a (omega arith)) (o, (let k = (step_costs o.step).1 in omega arith))
    go (no a) (no b) (yes c) = is_full h (λ e. a (omega arith)) (frames_allow (omega arith)) (o, (let k = (step_costs o.step).0 in omega arith))
    go (no a) (no b) (no c) = is_going h (λ e. a (omega arith)) (frames_allow (omega arith)) (cells_allow (omega arith))

module _ (laws : Laws) where
  pub onward : (M : Meaning) (s : Standing) → WellTyped s.state → Final s.state ⊎ Onward M s
  onward M s w = go (ends_or_goes laws w)
    where
      go : Final s.state ⊎ ((m : ℕ) × (c : ℕ) × (q : State) × Step M m c s.state q) → Final s.state ⊎ Onward M s
      go (inl f) = inl f
      go (inr (m, c, q, st)) = inr (record { moves = m; cells = c; state = q; step = st })

  pub has : (M : Meaning) (L : Limits) (s : Standing) → Within L s → WellTyped s.state → Has M L s (status L s)
  has M L s w t = go s.state refl (onward M s t)
    where
      not_here : {p : State} → s.state ≡ p → (¬ Final p) → Final s.state ⊎ Onward M s → Has M L s (held L s)
      not_here e h (inl f) = absurd (h (subst Final e f))
      not_here e h (inr o) = limits_say M L s w (λ f. h (subst Final e f)) o

      go : (p : State) → s.state ≡ p → Final s.state ⊎ Onward M s → Has M L s (ended_or p (held L s))
      go (k ▷ x) e o = not_here e (λ f. elim f [ ]) o
      go ([] ◁ amount n) e o = is_number e
      go ([] ◁ function T A) e o = not_here e (λ f. elim f [ ]) o
      go ([] ◁ couple T v u) e o = not_here e (λ f. elim f [ ]) o
      go ((f ∷ k) ◁ v) e o = not_here e (λ f. elim f [ ]) o
      go ([] ◂) e o = is_failed e
      go ((f ∷ k) ◂) e o = not_here e (λ f. elim f [ ]) o
