-- What is proved of runs.
use Rattle.std.specs.Prelude.{◌≡◌, ℕ, ◌+◌, ◌-◌, ◌≤◌, ◌↔◌, List}
use Rattle.rows.specs.Limits.{top}
use Rattle.rows.specs.Meanings.{Meaning, Lawful}
use Rattle.theory.specs.Syntax.{Term}
use Rattle.machine.specs.States.{State}
use Rattle.machine.specs.Steps.{Step, Steps}
use Rattle.machine.specs.StateTyping.{WellTyped}
use Rattle.machine.specs.Structural.{unravel, ReducesIn}
use Rattle.runs.specs.Standings.{Limits, Standing, number, height, adds, makes, status}
use Rattle.runs.specs.Advances.{Within, Advances, advanced}
use Rattle.runs.specs.Calls.{Running, Call, Answer, report, all_taken, Said, Came}
use Rattle.runs.specs.Promise.{Right, WholeRun, WholeRunFrom, CallsComputed, AdvanceContinues, SecondRun}
use Rattle.runs.specs.Promise.{HaltsInTime, OneMeaning, Determined}
use Rattle.runs.specs.Programs.{Begins, GoingAllows, StepCounts, OnceMore, Turn, Finished, FuelEnough, CalledSound}
use Rattle.runs.specs.Programs.{AnswersSo, ContinuesSo, PromisedSo}
use Rattle.runs.specs.WrongEngines.{ShutOut, NeverSo}

-- The state alone says how many cells its next step makes, and how many frames it adds.
abbrev pub CostsKnown : Type 0
CostsKnown =
    (M : Meaning) (m c : ℕ) (p q : State) → Step M m c p q → (c ≡ makes p) × (height q - height p ≡ adds p)

-- The status is right wherever a run stands well typed and within its limits, so none is told too early.
abbrev pub HeldRightly : Type 0
HeldRightly = (M : Meaning) (L : Limits) (s : Standing) → Within L s → WellTyped s.state → Right M L s (status L s)

-- What one advance from r to q does, over the counter that it was given.
pub record AdvanceLaw (M : Meaning) (L : Limits) (r q : Standing) : Type 0 where
  pub taken : ℕ
  pub moves_now : ℕ
  pub cells_now : ℕ
  -- The machine leads from r to q, and the counts grow by what these steps make.
  pub run : Steps M taken moves_now cells_now r.state q.state
  pub steps_add : q.steps ≡ r.steps + taken
  pub moves_add : q.moves ≡ r.moves + moves_now
  pub cells_add : q.cells ≡ r.cells + cells_now
  -- The moves are structural steps between the two states unravelled.
  pub moved : ReducesIn M moves_now (unravel r.state) (unravel q.state)
  pub typed : WellTyped q.state
  pub within : Within L q

-- It does so from any well typed standing within its limits, so also where earlier advances had other counters.
abbrev pub AdvanceSound : Type 0
AdvanceSound =
    (M : Meaning) → Lawful M → (L : Limits) (n : ℕ) (r q : Standing)
    → WellTyped r.state → Within L r → Advances M L n r q → AdvanceLaw M L r q

-- An advance makes the steps that its count and the limits allow, all of them and no more.
abbrev pub AdvanceComputed : Type 0
AdvanceComputed =
    (M : Meaning) → Lawful M → (L : Limits) (n : ℕ) (r q : Standing)
    → WellTyped r.state → Advances M L n r q ↔ (q ≡ advanced M L n r)

-- Two advances with one counter are one.
abbrev pub AdvancesJoin : Type 0
AdvancesJoin =
    (M : Meaning) (L : Limits) (a b : ℕ) (r : Standing) → advanced M L (a + b) r ≡ advanced M L b (advanced M L a r)

-- What holds of a run o whatever its counters mean.
pub record Sound (L : Limits) (told : List Answer) (o : Running) : Type 0 where
  pub limits_kept : o.limits ≡ L
  pub typed : WellTyped o.standing.state
  pub within : Within L o.standing
  pub status_right : (M : Meaning) → Right M L o.standing (report o).status
  pub number_fits : (n : ℕ) → (report o).status ≡ number n → n ≤ top
  pub steps_answered : (report o).steps ≡ all_taken told
  pub status_answered : Said told (report o).status

-- So every run stands, also one whose advances brought counters of several meanings.
abbrev pub AnyCounters : Type 0
AnyCounters =
    (e : Term) (L : Limits) (calls : List Call) (told : List Answer) (o : Running)
    → Came e L calls told o → Sound L told o

-- All of them.
pub record Laws : Type 0 where
  pub costs_known : CostsKnown
  pub held_rightly : HeldRightly
  pub advance_sound : AdvanceSound
  pub advance_computed : AdvanceComputed
  pub advances_join : AdvancesJoin
  pub any_counters : AnyCounters
  pub whole_run : WholeRun
  pub whole_run_from : WholeRunFrom
  pub calls_computed : CallsComputed
  pub advance_continues : AdvanceContinues
  pub second_run : SecondRun
  pub halts_in_time : HaltsInTime
  pub one_meaning : OneMeaning
  pub determined : Determined
  pub shut_out : ShutOut
  pub never_so : NeverSo
  -- for programs
  pub begins : Begins
  pub going_allows : GoingAllows
  pub step_counts : StepCounts
  pub once_more : OnceMore
  pub turn : Turn
  pub finished : Finished
  pub fuel_enough : FuelEnough
  pub called_sound : CalledSound
  pub answers_so : AnswersSo
  pub continues_so : ContinuesSo
  pub promised_so : PromisedSo
