-- What a program takes from the theory for its calls, whatever it keeps of a run: it shows which run it stands for.
use Rattle.std.specs.Prelude.{◌≡◌, ℕ, ◌+◌, ◌<◌, ◌≤◌, ◌≢◌, ◌⊎◌}
use Rattle.rows.specs.Meanings.{Meaning, Lawful}
use Rattle.machine.specs.StateTyping.{WellTyped}
use Rattle.machine.specs.Next.{next}
use Rattle.runs.specs.Standings.{Limits, Standing, Status, going, height, adds, makes, status}
use Rattle.runs.specs.Advances.{Within, stepped, once}
use Rattle.runs.specs.Calls.{Running, now_at, advance, called, Report, report, Answer, answer}
use Rattle.runs.specs.Promise.{Promised, Continues}

-- Before its first step a program has made an advance by 0.
abbrev pub Begins : Type 0
Begins = (M : Meaning) (o : Running) → o ≡ called o (advance M 0)

-- While the status is going, the limits allow what the next step costs.
abbrev pub GoingAllows : Type 0
GoingAllows =
    (L : Limits) (s : Standing) → status L s ≡ going
    → (s.steps < L.fuel) × (height s.state + adds s.state ≤ L.frames) × (s.cells + makes s.state ≤ L.cells)

-- While the status is going, a well typed run has a next step, which is one step more.
abbrev pub StepCounts : Type 0
StepCounts =
    (M : Meaning) (L : Limits) (s : Standing) → WellTyped s.state → status L s ≡ going
    → (stepped s (next M s.state)).steps ≡ s.steps + 1

-- One step more from where an advance by k led, made only while the status is going, is an advance by k + 1.
abbrev pub OnceMore : Type 0
OnceMore =
    (M : Meaning) (k : ℕ) (o p q : Running) → p ≡ called o (advance M k)
    → q ≡ now_at p (once M p.limits p.standing) → q ≡ called o (advance M (k + 1))

-- The same for a program that has looked at the status before.
abbrev pub Turn : Type 0
Turn =
    (M : Meaning) (k : ℕ) (o p q : Running) → p ≡ called o (advance M k) → (report p).status ≡ going
    → q ≡ now_at p (stepped p.standing (next M p.standing.state)) → q ≡ called o (advance M (k + 1))

-- Where an advance by k led is where one by n leads, if the count is used up or the run has halted.
abbrev pub Finished : Type 0
Finished =
    (M : Meaning) (n k : ℕ) (o p : Running) → p ≡ called o (advance M k) → k ≤ n
    → (k ≡ n) ⊎ ((report p).status ≢ going) → p ≡ called o (advance M n)

-- An advance by what is left of the fuel leads where one by more leads.
abbrev pub FuelEnough : Type 0
FuelEnough =
    (M : Meaning) → Lawful M → (n k : ℕ) (o : Running) → WellTyped o.standing.state
    → k ≤ n → o.limits.fuel ≤ o.standing.steps + k → called o (advance M k) ≡ called o (advance M n)

-- An advance keeps a run well typed and within its limits.
abbrev pub CalledSound : Type 0
CalledSound =
    (M : Meaning) → Lawful M → (n : ℕ) (o : Running) → WellTyped o.standing.state → Within o.limits o.standing
    → WellTyped (called o (advance M n)).standing.state × Within o.limits (called o (advance M n)).standing

-- The steps counted and the status at the end are the answer.
abbrev pub AnswersSo : Type 0
AnswersSo =
    (o o' : Running) (k : ℕ) (t : Status) → o'.standing.steps ≡ o.standing.steps + k → t ≡ (report o').status
    → ◌≡◌ {A = Answer} (record { taken = k; status = t }) (answer o o')

-- A program whose advance leads where the computed one leads, and answers as it does, continues the run.
abbrev pub ContinuesSo : Type 0
ContinuesSo =
    (M : Meaning) → Lawful M → (n : ℕ) (o o' : Running) (a : Answer) → o' ≡ called o (advance M n) → a ≡ answer o o'
    → Continues o (advance M n) a o'

-- A program that reports what is computed keeps the promise.
abbrev pub PromisedSo : Type 0
PromisedSo = (o : Running) (r : Report) → r ≡ report o → Promised o r
