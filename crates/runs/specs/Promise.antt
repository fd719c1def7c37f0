-- The promise of whole runs.
use Rattle.std.specs.Prelude.{◌≡◌, ℕ, ◌+◌, ◌<◌, ◌≤◌, min, ◌≢◌, ◌⊎◌, ◌↔◌, List, [], ◌∷◌}
use Rattle.rows.specs.Meanings.{Meaning, Lawful}
use Rattle.theory.specs.Syntax.{nat, Term}
use Rattle.theory.specs.Typing.{◌⊢◌∶◌}
use Rattle.machine.specs.Values.{amount}
use Rattle.machine.specs.States.{State, ◌▷◌, ◌◁◌, ◌◂}
use Rattle.machine.specs.Steps.{Step, Steps, Final}
use Rattle.machine.specs.StateTyping.{WellTyped}
use Rattle.machine.specs.Structural.{bare, unravel, ReducesIn}
use Rattle.runs.specs.Standings.{Limits, Standing, Status, number, failed, spent, tall, full, going, height}
use Rattle.runs.specs.Calls.{Running, start, Call, advance, Report, report, Answer, answer, all_taken, all_counts, Said}
use Rattle.runs.specs.Calls.{AllMean, Came, called, after, answers}

-- The machine leads from the rule e to s, in the steps and with the moves and cells of s.
abbrev pub Leads : Meaning → Term → Standing → Type 0
Leads M e s = Steps M s.steps s.moves s.cells ([] ▷ e) s.state

-- The machine's next step from s.
pub record Onward (M : Meaning) (s : Standing) : Type 0 where
  pub moves : ℕ
  pub cells : ℕ
  pub state : State
  pub step : Step M moves cells s.state state

-- Fuel does not allow the next step: all of it is used.
abbrev pub NoFuel : Limits → Standing → Type 0
NoFuel L s = s.steps ≡ L.fuel

-- Frames do not allow the next step: it leads to more frames than the limit.
abbrev pub NoFrames : Meaning → Limits → Standing → Type 0
NoFrames M L s = (n : Onward M s) × (L.frames < height n.state)

-- Cells do not allow the next step: with it there are more cells than the limit.
abbrev pub NoCells : Meaning → Limits → Standing → Type 0
NoCells M L s = (n : Onward M s) × (L.cells < s.cells + n.cells)

-- s is short of an end.
abbrev pub Short : Standing → Type 0
Short s = ¬ Final s.state

-- s is short of an end, and every limit allows the next step.
abbrev pub Going : Meaning → Limits → Standing → Type 0
Going M L s = Short s × (¬ NoFuel L s) × (¬ NoFrames M L s) × (¬ NoCells M L s)

-- t is the status at s: the first that fits.
pub record Right (M : Meaning) (L : Limits) (s : Standing) (t : Status) : Type 0 where
  pub number_at : (n : ℕ) → (t ≡ number n) ↔ (s.state ≡ ([] ◁ amount n))
  pub failed_at : (t ≡ failed) ↔ (s.state ≡ ([] ◂))
  pub spent_at : (t ≡ spent) ↔ (Short s × NoFuel L s)
  pub tall_at : (t ≡ tall) ↔ (Short s × (¬ NoFuel L s) × NoFrames M L s)
  pub full_at : (t ≡ full) ↔ (Short s × (¬ NoFuel L s) × (¬ NoFrames M L s) × NoCells M L s)
  pub going_at : (t ≡ going) ↔ Going M L s

-- After n steps from the rule e the machine is at a place that has P.
abbrev pub After : Meaning → Term → ℕ → (Standing → Type 0) → Type 0
After M e n P = (s : Standing) × Leads M e s × (s.steps ≡ n) × P s

-- n is the fewest machine steps after which a run of e is not going.
pub record Fewest (M : Meaning) (e : Term) (L : Limits) (n : ℕ) : Type 0 where
  pub not_then : After M e n λ s. ¬ Going M L s
  pub going_before : (i : ℕ) → i < n → After M e i λ s. Going M L s

-- Step i + 1 from the rule e adds no move or one.
abbrev pub OneMove : Meaning → Term → ℕ → Type 0
OneMove M e i = After M e i λ s. After M e (i + 1) λ t. (t.moves ≡ s.moves) ⊎ (t.moves ≡ s.moves + 1)

-- A run of the rule e under the limits L, over counters that mean M, was opened and then called. Its advances answered
-- told. It stands, or stood at its close, at s, and reports r.
pub record Kept (M : Meaning) (e : Term) (L : Limits) (calls : List Call) (told : List Answer) (s : Standing) (r : Report) : Type 0 where
  -- As many machine steps as it reports lead from the rule to where it stands.
  pub stands : Leads M e s
  pub steps_right : r.steps ≡ s.steps
  -- The state is well typed, and an end or with a next step.
  pub typed : WellTyped s.state
  pub ends_or_goes : Final s.state ⊎ Onward M s
  -- It reports the status, moves, frames and cells for these steps.
  pub status_right : Right M L s r.status
  pub moves_right : r.moves ≡ s.moves
  pub frames_right : r.frames ≡ height s.state
  pub cells_right : r.cells ≡ s.cells
  -- It has halted short of an end exactly when fuel, frames or cells do not allow the next step.
  pub halted_short : ((r.status ≢ going) × Short s) ↔ (Onward M s × (NoFuel L s ⊎ (NoFrames M L s ⊎ NoCells M L s)))
  -- Its steps are the sum of what its advances answered, and the last of them answered its status.
  pub steps_answered : r.steps ≡ all_taken told
  pub status_answered : Said told r.status
  -- Its steps are the lesser of the sum of the counts and the fewest machine steps after which it is not going.
  pub fewest : ℕ
  pub fewest_right : Fewest M e L fewest
  pub steps_lesser : r.steps ≡ min (all_counts calls) fewest
  -- Each step adds no move or one. As many structural steps as it reports moves lead from the rule to the state unravelled.
  pub moves_single : (i : ℕ) → i < r.steps → OneMove M e i
  pub moves_structural : ReducesIn M r.moves (bare e) (unravel s.state)

-- A status of an end.
abbrev pub Ended : Status → Type 0
Ended t = ((n : ℕ) × (t ≡ number n)) ⊎ (t ≡ failed)

-- No limit of L' is smaller than that of L.
pub record NoSmaller (L L' : Limits) : Type 0 where
  pub fuel : L.fuel ≤ L'.fuel
  pub frames : L.frames ≤ L'.frames
  pub cells : L.cells ≤ L'.cells

-- Two reports agree.
pub record Same (r r' : Report) : Type 0 where
  pub status : r'.status ≡ r.status
  pub steps : r'.steps ≡ r.steps
  pub moves : r'.moves ≡ r.moves
  pub frames : r'.frames ≡ r.frames
  pub cells : r'.cells ≡ r.cells

-- The whole promise.
pub record Promise (M : Meaning) (e : Term) (L : Limits) (calls : List Call) (told : List Answer) (s : Standing) (r : Report) : Type 0 where
  pub kept : Kept M e L calls told s r
  -- If it has ended, every second run of e over M, under no smaller limits and by any calls, that has halted ended alike.
  pub again :
      Ended r.status → (L' : Limits) → NoSmaller L L'
      → (calls' : List Call) (told' : List Answer) (s' : Standing) (r' : Report)
      → Kept M e L' calls' told' s' r' → r'.status ≢ going → Same r r'

-- The promise of the report r of the run o: whatever calls it came by, over counters of one lawful meaning.
abbrev pub Promised : Running → Report → Type 0
Promised o r =
    (M : Meaning) → Lawful M → (e : Term) (L : Limits) (calls : List Call) (told : List Answer)
    → AllMean M calls → Came e L calls told o → Promise M e L calls told o.standing r

-- Every run keeps it.
abbrev pub WholeRun : Type 0
WholeRun = (o : Running) → Promised o (report o)

-- A call c that answered a made o' of the run o: whatever calls o came by, o' came by these and c.
abbrev pub Continues : Running → Call → Answer → Running → Type 0
Continues o c a o' =
    (e : Term) (L : Limits) (calls : List Call) (told : List Answer)
    → Came e L calls told o → Came e L (c ∷ calls) (a ∷ told) o'

-- An advance over a lawful counter continues any run.
abbrev pub AdvanceContinues : Type 0
AdvanceContinues =
    (M : Meaning) → Lawful M → (n : ℕ) (o : Running)
    → Continues o (advance M n) (answer o (called o (advance M n))) (called o (advance M n))

-- What comes of calls is what is computed for them, and nothing else: no list of calls is refused.
abbrev pub CallsComputed : Type 0
CallsComputed =
    (M : Meaning) → Lawful M → (e : Term) → [] ⊢ e ∶ nat → (L : Limits) (calls : List Call) → AllMean M calls
    → (told : List Answer) (o : Running)
    → Came e L calls told o ↔ ((told ≡ answers (start L e) calls) × (o ≡ after (start L e) calls))

-- The promise of what is computed, from a run that is a start of e.
abbrev pub WholeRunFrom : Type 0
WholeRunFrom =
    (e : Term) → [] ⊢ e ∶ nat → (L : Limits) (o : Running) → o ≡ start L e
    → (M : Meaning) → Lawful M → (calls : List Call) → AllMean M calls
    → Promise M e L calls (answers o calls) (after o calls).standing (report (after o calls))

-- If one run of a rule has ended, a second one under no smaller limits that has halted reports the same, by whatever calls.
abbrev pub SecondRun : Type 0
SecondRun =
    (M : Meaning) → Lawful M → (e : Term) (L L' : Limits) → NoSmaller L L'
    → (calls calls' : List Call) → AllMean M calls → AllMean M calls'
    → (told told' : List Answer) (o o' : Running) → Came e L calls told o → Came e L' calls' told' o'
    → Ended (report o).status → (report o').status ≢ going → Same (report o) (report o')

-- A run whose counts add up to its fuel, or more, has halted.
abbrev pub HaltsInTime : Type 0
HaltsInTime =
    (M : Meaning) (e : Term) (L : Limits) (calls : List Call) (told : List Answer) (s : Standing) (r : Report)
    → Kept M e L calls told s r → L.fuel ≤ all_counts calls → r.status ≢ going

-- Counters of one meaning are as one: the calls are one advance over it, by the sum of the counts.
abbrev pub OneMeaning : Type 0
OneMeaning =
    (M : Meaning) (o : Running) (calls : List Call) → AllMean M calls
    → after o calls ≡ called o (advance M (all_counts calls))

-- Nothing is left open: after the same calls, all that keeps the promise stands and reports alike.
abbrev pub Determined : Type 0
Determined =
    (M : Meaning) (e : Term) (L : Limits) (calls : List Call) (told told' : List Answer) (s s' : Standing) (r r' : Report)
    → Kept M e L calls told s r → Kept M e L calls told' s' r'
    → (s ≡ s') × (r ≡ r') × (all_taken told ≡ all_taken told')
