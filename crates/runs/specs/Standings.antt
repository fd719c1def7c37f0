-- Limits, where a run stands, and its status there.
use Rattle.std.proofs.Math.Logic.{ite}
use Rattle.std.specs.Prelude.{ℕ, zero, suc, ◌+◌, [], ◌∷◌, length}
use Rattle.std.proofs.Math.Decide.{dec_le, dec_lt}
use Rattle.theory.specs.Syntax.{pair, calc, Term, num, name, one, two, ifz, lam, app, fix, fail, catch}
use Rattle.machine.specs.Values.{Value, amount, function, couple}
use Rattle.machine.specs.States.{Frame, in_one, in_first, in_second, in_ifz, in_app, in_catch, State, ◌▷◌, ◌◁◌, ◌◂}
use Rattle.machine.specs.Next.{Taken}

-- The most steps, frames and cells of a run.
pub record Limits : Type 0 where
  pub fuel : ℕ
  pub frames : ℕ
  pub cells : ℕ

-- Limits of so much fuel, so many frames and so many cells.
abbrev pub limits : ℕ → ℕ → ℕ → Limits
limits f k c = record { fuel = f; frames = k; cells = c }

-- Where a run stands: the steps, moves and cells that it has made since it was opened, and its state.
pub record Standing : Type 0 where
  pub steps : ℕ
  pub moves : ℕ
  pub cells : ℕ
  pub state : State

-- How a run fares: it ended with a number or failed, fuel, frames or cells do not allow its next step, or it is going.
pub data Status : Type 0 where
  number : ℕ → Status
  failed spent tall full going : Status

-- The frames on a state's stack.
abbrev pub height : State → ℕ
height (k ▷ e) = length k
height (k ◁ v) = length k
height (k ◂) = length k

-- The frames that the step from k ▷ e adds.
abbrev pub opened : Term → ℕ
opened (num n) = 0
opened (name i) = 0
opened (one g A) = 1
opened (two g A B) = 1
opened (ifz A B C) = 1
opened (lam T A) = 0
opened (app A B) = 1
opened (fix T A) = 0
opened (fail T) = 0
opened (catch A B) = 1

-- The frames that the next step adds: the state alone says it.
abbrev pub adds : State → ℕ
adds (k ▷ e) = opened e
adds (k ◁ v) = 0
adds (k ◂) = 0

-- The cells that the step from k ▷ e makes.
abbrev pub unrolled : Term → ℕ
unrolled (num n) = 0
unrolled (name i) = 0
unrolled (one g A) = 0
unrolled (two g A B) = 0
unrolled (ifz A B C) = 0
unrolled (lam T A) = 0
unrolled (app A B) = 0
unrolled (fix T A) = 1
unrolled (fail T) = 0
unrolled (catch A B) = 0

-- The cells that the return of a value to a frame makes.
abbrev pub bound : Frame → Value → ℕ
bound (in_one g) v = 0
bound (in_first g B) v = 0
bound (in_second (pair T) u) v = 1
bound (in_second (calc o) u) v = 0
bound (in_ifz B C) (amount zero) = 0
bound (in_ifz B C) (amount (suc n)) = 1
bound (in_ifz B C) (function T A) = 0
bound (in_ifz B C) (couple T u v) = 0
bound (in_app B) v = 1
bound (in_catch B) v = 0

-- The cells that the next step makes: the state alone says it.
abbrev pub makes : State → ℕ
makes (k ▷ e) = unrolled e
makes ([] ◁ v) = 0
makes ((f ∷ k) ◁ v) = bound f v
makes (k ◂) = 0

-- The first limit that does not allow the next step; going, if all allow it.
abbrev pub held : Limits → Standing → Status
held L s =
    ite (dec_le L.fuel s.steps) spent
    (ite (dec_lt L.frames (height s.state + adds s.state)) tall
    (ite (dec_lt L.cells (s.cells + makes s.state)) full going))

-- The status of an end at an end, and t elsewhere.
abbrev pub ended_or : State → Status → Status
ended_or (k ▷ e) t = t
ended_or ([] ◁ amount n) t = number n
ended_or ([] ◁ function T A) t = t
ended_or ([] ◁ couple T v w) t = t
ended_or ((f ∷ k) ◁ v) t = t
ended_or ([] ◂) t = failed
ended_or ((f ∷ k) ◂) t = t

-- The status: the first that fits.
abbrev pub status : Limits → Standing → Status
status L s = ended_or s.state (held L s)

-- A run just opened at the rule e.
abbrev pub opening : Term → Standing
opening e = record { steps = 0; moves = 0; cells = 0; state = [] ▷ e }

-- Where the run stands after one more step.
abbrev pub onto : Standing → Taken → Standing
onto s t = record { steps = s.steps + 1; moves = s.moves + t.0; cells = s.cells + t.1; state = t.2 }
