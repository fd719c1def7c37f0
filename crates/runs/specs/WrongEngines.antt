-- What engines that break the promise report, and that the promise shuts it out.
use Rattle.std.specs.Prelude.{◌≡◌, ℕ, ◌+◌, ◌<◌, ◌≤◌, ◌≢◌, List, [], ◌∷◌, Some, None}
use Rattle.std.proofs.Math.Logic.{ite}
use Rattle.std.proofs.Math.Decide.{ℕ_discrete}
use Rattle.rows.specs.Meanings.{Meaning}
use Rattle.theory.specs.Syntax.{Term, num, one, two, ifz, succ, get, calc, sub, mul}
use Rattle.machine.specs.States.{State, ◌▷◌, in_ifz}
use Rattle.machine.specs.Steps.{Steps, Final}
use Rattle.runs.specs.Standings.{Limits, limits, Standing, Status, number, failed, spent, tall, full, going, height}
use Rattle.runs.specs.Calls.{Call, advance, look, Report, Answer, all_counts}
use Rattle.runs.specs.Promise.{Onward, Kept}

-- Forty a roll, thirty-five from a dozen on: (ifz (sub 12 (get 7)) (mul (get 7) 35) (mul (get 7) 40)).
abbrev pub rolls : Term
rolls =
    ifz (two (calc sub) (num 12) (one get (num 7)))
    (two (calc mul) (one get (num 7)) (num 35))
    (two (calc mul) (one get (num 7)) (num 40))

-- A counter that answers 12 to question 7, and nothing to any other.
abbrev pub dozen : Meaning
dozen q = ite (ℕ_discrete q 7) (Some 12) None

-- Limits that hold no run below.
abbrev pub wide : Limits
wide = limits 1000 64 256

-- An advance over that counter by the count n.
abbrev pub by : ℕ → Call
by n = advance dozen n

-- A report of a status, steps, moves, frames and cells.
abbrev pub reports : Status → ℕ → ℕ → ℕ → ℕ → Report
reports t n m f c = record { status = t; steps = n; moves = m; frames = f; cells = c }

-- An answer of the steps taken and a status.
abbrev pub took : ℕ → Status → Answer
took n t = record { taken = n; status = t }

-- No run keeps the promise with this report, whatever it answered and wherever it stands.
abbrev pub Shut : Term → Limits → List Call → Report → Type 0
Shut e L calls r = (told : List Answer) (s : Standing) → Kept dozen e L calls told s r → ⊥

-- The rolls after one step.
abbrev pub after_one : State
after_one =
    (in_ifz (two (calc mul) (one get (num 7)) (num 35)) (two (calc mul) (one get (num 7)) (num 40)) ∷ [])
    ▷ two (calc sub) (num 12) (one get (num 7))

-- The rolls end after 16 steps and 5 moves, at the number 420. What wrong engines report of them is shut out.
pub record ShutOut : Type 0 where
  -- spent though one step of the fuel is left
  pub spent_early : (m f c : ℕ) → Shut rolls (limits 16 64 256) (by 100 ∷ []) (reports spent 15 m f c)
  -- spent at an end
  pub spent_at_end : (m f c : ℕ) → Shut (num 7) (limits 1 64 256) (by 100 ∷ []) (reports spent 1 m f c)
  -- tall though the frames suffice
  pub tall_early : (n m f c : ℕ) → Shut rolls (limits 1000 3 256) (by 100 ∷ []) (reports tall n m f c)
  -- tall where spent comes first
  pub tall_for_spent : (m f c : ℕ) → Shut (one succ (num 1)) (limits 0 0 256) (by 100 ∷ []) (reports tall 0 m f c)
  -- full though no cell is made
  pub full_early : (n m f c : ℕ) → Shut rolls (limits 1000 64 0) (by 100 ∷ []) (reports full n m f c)
  -- the first step made and the rest only counted
  pub counts_the_rest :
      (told : List Answer) (s : Standing) (r : Report) → s.state ≡ after_one → Kept dozen rolls wide (by 100 ∷ []) told s r → ⊥
  -- a move too many
  pub invented_moves : (f c : ℕ) → Shut rolls wide (by 100 ∷ []) (reports (number 420) 16 6 f c)
  -- no counter asked, or always a failure
  pub asks_no_counter : (n m f c : ℕ) → Shut rolls wide (by 100 ∷ []) (reports failed n m f c)
  -- another number
  pub other_number : (n m f c : ℕ) → Shut rolls wide (by 100 ∷ []) (reports (number 480) n m f c)
  -- a frame too few
  pub frames_off_by_one : (t : Status) (n m c : ℕ) → Shut rolls wide (by 1 ∷ []) (reports t n m 0 c)
  -- steps counted from the latest advance
  pub stale_steps : (t : Status) (m f c : ℕ) → Shut rolls wide (look ∷ (by 3 ∷ (by 5 ∷ []))) (reports t 5 m f c)
  -- steps counted after a halt
  pub goes_on_after_halt : (t : Status) (m f c : ℕ) → Shut rolls wide (by 10 ∷ (by 100 ∷ [])) (reports t 26 m f c)
  -- a step fewer than the count
  pub takes_fewer : (t : Status) (m f c : ℕ) → Shut rolls wide (by 10 ∷ []) (reports t 9 m f c)
  -- an advance that answers all the steps since opening
  pub answers_the_total :
      (t u : Status) (s : Standing) (r : Report)
      → Kept dozen rolls wide (by 3 ∷ (by 5 ∷ [])) (took 8 t ∷ (took 5 u ∷ [])) s r → ⊥
  -- an advance that answers going at an end
  pub answers_other_status :
      (n : ℕ) (s : Standing) (r : Report) → Kept dozen rolls wide (by 100 ∷ []) (took n going ∷ []) s r → ⊥

-- The same of every run: what no run that keeps the promise does.
pub record Never (M : Meaning) (e : Term) (L : Limits) (calls : List Call) (told : List Answer) (s : Standing) (r : Report) : Type 0 where
  -- by status-right, with steps-right
  pub spent_early : r.status ≡ spent → r.steps < L.fuel → ⊥
  pub spent_at_end : r.status ≡ spent → Final s.state → ⊥
  pub tall_early : r.status ≡ tall → (n : Onward M s) → height n.state ≤ L.frames → ⊥
  pub tall_for_spent : r.status ≡ tall → r.steps ≢ L.fuel
  pub full_early : r.status ≡ full → (n : Onward M s) → r.cells + n.cells ≤ L.cells → ⊥
  pub full_for_tall : r.status ≡ full → (n : Onward M s) → L.frames < height n.state → ⊥
  pub going_too_long : r.status ≡ going → r.steps ≢ L.fuel
  -- by stands, with steps-right, moves-right and cells-right
  pub other_place : (m c : ℕ) (p : State) → Steps M r.steps m c ([] ▷ e) p → s.state ≢ p → ⊥
  pub other_moves : (m c : ℕ) (p : State) → Steps M r.steps m c ([] ▷ e) p → r.moves ≢ m → ⊥
  pub other_cells : (m c : ℕ) (p : State) → Steps M r.steps m c ([] ▷ e) p → r.cells ≢ c → ⊥
  pub past_the_end : (k m c : ℕ) (p : State) → Steps M k m c ([] ▷ e) p → Final p → k < r.steps → ⊥
  -- by steps-lesser
  pub stops_early : r.status ≡ going → r.steps < all_counts calls → ⊥
  pub takes_more : all_counts calls < r.steps → ⊥
  pub past_the_fuel : L.fuel < r.steps → ⊥
  -- by fewest-right, with frames-right and cells-right
  pub past_the_frames : L.frames < r.frames → ⊥
  pub past_the_cells : L.cells < r.cells → ⊥

-- No run that keeps the promise does any of it.
abbrev pub NeverSo : Type 0
NeverSo =
    (M : Meaning) (e : Term) (L : Limits) (calls : List Call) (told : List Answer) (s : Standing) (r : Report)
    → Kept M e L calls told s r → Never M e L calls told s r
