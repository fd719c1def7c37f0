-- Runs from what a struct can keep.
use Rattle.std.proofs.Common.{◌≡◌, true, List, ap}
use mathlib.Core.Bool.{Bool-set}
use mathlib.Core.Logic.{∥∥₁_elim, ∥∥₁_map}
use mathlib.Core.HLevel.{hedberg}
use mathlib.Core.List.{List-discrete}
use native.Mathlib.Decide.{ℕ_discrete}
use Rattle.theory.specs.Syntax.{discrete_ty, discrete_one, discrete_op, Two, discrete_two, Term, discrete_term}
use Rattle.machine.specs.Values.{Value, discrete_value}
use Rattle.machine.specs.States.{discrete_frame, State, discrete_state}
use Rattle.machine.specs.Laws.{Laws}
use Rattle.runs.specs.Standings.{Standing as Standing'}
use Rattle.environments.specs.Nodes.{Node}
use Rattle.environments.specs.NodeTerms.{terms_of}
use Rattle.environments.specs.Fits.{fits}
use Rattle.environments.specs.Runs.{Standing, standing}
use Rattle.environments.specs.Laws.{StandsFor, KeptFor, OpensKept, OnceKept, RunsKept}
use Rattle.environments.proofs.Running.{runs_open, once_agrees, runs_agree}

two_discrete : Discrete Two
two_discrete = discrete_two discrete_ty discrete_op

term_discrete : Discrete Term
term_discrete = discrete_term ℕ_discrete discrete_one two_discrete discrete_ty

value_discrete : Discrete Value
value_discrete = discrete_value ℕ_discrete discrete_ty term_discrete

state_discrete : Discrete State
state_discrete =
    discrete_state (List-discrete (discrete_frame discrete_one two_discrete term_discrete value_discrete))
    term_discrete value_discrete

standing_discrete : Discrete Standing'
standing_discrete r q =
    go (ℕ_discrete r.steps q.steps) (ℕ_discrete r.moves q.moves) (ℕ_discrete r.cells q.cells)
    (state_discrete r.state q.state)
  where
    go : Dec (r.steps ≡ q.steps) → Dec (r.moves ≡ q.moves) → Dec (r.cells ≡ q.cells) → Dec (r.state ≡ q.state)
        → Dec (r ≡ q)
    go (yes a) (yes b) (yes c) (yes d) = yes (λ i. record { steps = a i; moves = b i; cells = c i; state = d i })
    go (yes a) (yes b) (yes c) (no d) = no (λ e. d (ap (λ x. x.state) e))
    go (yes a) (yes b) (no c) d = no (λ e. c (ap (λ x. x.cells) e))
    go (yes a) (no b) c d = no (λ e. b (ap (λ x. x.moves) e))
    go (no a) b c d = no (λ e. a (ap (λ x. x.steps) e))

-- What holds for every typing can be kept where there is one.
kept : {A : Type 0} (nodes : List Node) (r : Standing) (p : Standing') → ∥ A ∥₁ → (A → StandsFor nodes r p)
    → KeptFor nodes r p
kept nodes r p w f = record {
  agrees = ∥∥₁_elim w (hedberg standing_discrete (standing (terms_of nodes) r) p) (λ t. (f t).agrees);
  holds = ∥∥₁_elim w (Bool-set (fits (terms_of nodes) nodes r.state) true) (λ t. (f t).holds);
  typed = ∥∥₁_map w (λ t. (f t).typed);
}

module _ (laws : Laws) where
  pub opens_kept : OpensKept
  opens_kept nodes h l w = kept nodes _ _ w (λ a. runs_open laws nodes h l a)

  pub once_kept : OnceKept
  once_kept nodes h M ok L r f w = kept nodes _ _ w (λ t. once_agrees laws nodes h M ok L r f t)

  pub runs_kept : RunsKept
  runs_kept nodes h M ok L n r f w = kept nodes _ _ w (λ t. runs_agree laws nodes h M ok L n r f t)
