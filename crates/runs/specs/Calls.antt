-- The calls of an open run, and what they answer.
use Rattle.std.specs.Prelude.{◌≡◌, ℕ, ◌+◌, ◌-◌, List, [], ◌∷◌}
use Rattle.rows.specs.Meanings.{Meaning, Lawful}
use Rattle.theory.specs.Syntax.{nat, Term}
use Rattle.theory.specs.Typing.{◌⊢◌∶◌}
use Rattle.runs.specs.Standings.{Limits, Standing, Status, status, height, opening}
use Rattle.runs.specs.Advances.{Advances, advanced}

-- An open run: its limits, and where it stands.
pub record Running : Type 0 where
  pub limits : Limits
  pub standing : Standing

-- A run of the rule e, just opened.
abbrev pub start : Limits → Term → Running
start L e = record { limits = L; standing = opening e }

-- The run o, now at s.
abbrev pub now_at : Running → Standing → Running
now_at o s = record { limits = o.limits; standing = s }

-- A run is advanced, over a counter, here its meaning, and by a count; or it is looked at.
pub data Call : Type 0 where
  advance : Meaning → ℕ → Call
  look : Call

-- What an advance answers: the steps that it took now, and the status.
pub record Answer : Type 0 where
  pub taken : ℕ
  pub status : Status

-- An advance that made o' of o answers this.
abbrev pub answer : Running → Running → Answer
answer o o' = record { taken = o'.standing.steps - o.standing.steps; status = status o'.limits o'.standing }

-- What look and close answer.
pub record Report : Type 0 where
  pub status : Status
  pub steps : ℕ
  pub moves : ℕ
  pub frames : ℕ
  pub cells : ℕ

-- At o they answer this.
abbrev pub report : Running → Report
report o =
    let s = o.standing in
    record { status = status o.limits s; steps = s.steps; moves = s.moves; frames = height s.state; cells = s.cells }

-- Came e L calls told o: a run of the rule e was opened under the limits L and then called, over lawful counters; its
-- advances answered told, and it is now o. The latest call is the first of its list, and so is the latest answer.
pub data Came (e : Term) (L : Limits) : List Call → List Answer → Running → Type 0 where
  opened : [] ⊢ e ∶ nat → Came e L [] [] (start L e)
  looked : {calls : List Call} {told : List Answer} {o : Running} → Came e L calls told o → Came e L (look ∷ calls) told o
  went :
      {calls : List Call} {told : List Answer} {M : Meaning} {n : ℕ} {o : Running} {s : Standing}
      → Came e L calls told o → Lawful M → Advances M o.limits n o.standing s
      → Came e L (advance M n ∷ calls) (answer o (now_at o s) ∷ told) (now_at o s)

-- The sum of what the advances took.
abbrev pub all_taken : List Answer → ℕ
all_taken [] = 0
all_taken (a ∷ told) = all_taken told + a.taken

-- The sum of the counts.
abbrev pub all_counts : List Call → ℕ
all_counts [] = 0
all_counts (advance M n ∷ calls) = all_counts calls + n
all_counts (look ∷ calls) = all_counts calls

-- The latest answer, if there is one, said the status t.
abbrev pub Said : List Answer → Status → Type 0
Said [] t = Unit {0}
Said (a ∷ told) t = a.status ≡ t

-- Every counter that the calls bring means M.
abbrev pub AllMean : Meaning → List Call → Type 0
AllMean M [] = Unit {0}
AllMean M (advance N n ∷ calls) = ((q : ℕ) → N q ≡ M q) × AllMean M calls
AllMean M (look ∷ calls) = AllMean M calls

-- The run o after a call, computed.
abbrev pub called : Running → Call → Running
called o (advance M n) = now_at o (advanced M o.limits n o.standing)
called o look = o

-- The run o after calls.
abbrev pub after : Running → List Call → Running
after o [] = o
after o (c ∷ calls) = called (after o calls) c

-- What the advances among the calls answer.
abbrev pub answers : Running → List Call → List Answer
answers o [] = []
answers o (advance M n ∷ calls) = answer (after o calls) (called (after o calls) (advance M n)) ∷ answers o calls
answers o (look ∷ calls) = answers o calls
