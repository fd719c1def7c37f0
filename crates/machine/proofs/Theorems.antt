-- The laws of the machine.
use Rattle.std.proofs.Common.{◌≡◌, ℕ, zero, suc, ◌⊎◌, length, refl, inl, inr, arith}
use Rattle.rows.specs.Meanings.{Meaning}
use Rattle.theory.specs.Syntax.{Term}
use Rattle.theory.specs.Typing.{⊢num}
use Rattle.machine.specs.Steps.{number_end, failed_end}
use Rattle.machine.specs.StateTyping.{well_◁}
use Rattle.machine.specs.Structural.{unravel, Reduces}
use Rattle.machine.specs.Laws.{Laws, AmountsFit, EndsRest}
use Rattle.machine.proofs.Closing.{typed_below, close_stays, named_at, close_close, close_closed}
use Rattle.machine.proofs.Stepping.{step_next, next_step, steps_after, after_steps}
use Rattle.machine.proofs.Safety.{step_keeps, ends_or_goes}
use Rattle.machine.proofs.Unravelling.{Follows, step_follows, steps_follow}
use Rattle.machine.proofs.Determined.{reduces_unique}

amounts_fit : AmountsFit
amounts_fit k n (well_◁ x (⊢num h)) = h

ends_rest : EndsRest
ends_rest M m c p q number_end s = elim s [ ]
ends_rest M m c p q failed_end s = elim s [ ]

-- no move or one, from the number of moves
by_moves : {M : Meaning} (m : ℕ) (e e' : Term) → Follows M m e e' → ((m ≡ 0) × (e ≡ e')) ⊎ ((m ≡ 1) × Reduces M e e')
by_moves zero e e' f = inl (refl, f)
by_moves (suc m) e e' f = inr (omega (arith, f.0), f.1)

pub laws : Laws
laws = record {
  step_computed = λ M m c p q. (λ a. step_next a, λ h. next_step h);
  steps_computed = λ M n m c p q. (λ a. steps_after a, λ h. after_steps M n p (m, c, q) h);
  stays_typed = λ M law m c p q st t. step_keeps law st t;
  ends_or_goes = λ M p w. ends_or_goes w;
  ends_rest = ends_rest;
  amounts_fit = amounts_fit;
  step_unravels = λ M m c p q st. by_moves m (unravel p) (unravel q) (step_follows st);
  moves_structural = λ M e n m c q ss. steps_follow ss;
  structural_determined = λ M e e₁ e₂ a b. reduces_unique a b;
  put_at_once = λ e ρ t c. close_close 0 e ρ t c;
  typed_below = λ Γ e τ a. typed_below a;
  closed_stays = λ ρ t b. close_stays 0 0 ρ t (omega arith) b;
  put_closes = λ ρ t c b. close_closed 0 (length ρ) ρ t (omega arith) c b;
  name_put = λ ρ i. named_at 0 ρ i i (omega arith);
}
