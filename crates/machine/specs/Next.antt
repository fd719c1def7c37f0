-- The machine's step, computed.
use Rattle.std.proofs.Math.Logic.{ite}
use Rattle.std.specs.Prelude.{ℕ, zero, suc, ◌+◌, [], ◌∷◌, Some, None, Option}
use Rattle.std.proofs.Math.Decide.{dec_le}
use Rattle.rows.specs.Limits.{top}
use Rattle.theory.specs.Syntax.{succ, fst, snd, get, pair, calc, num, name, one, two, ifz, lam, app, fix, fail, catch}
use Rattle.machine.specs.Substitution.{inst}
use Rattle.machine.specs.Values.{Value, amount, function, couple}
use Rattle.rows.specs.Meanings.{Meaning}
use Rattle.machine.specs.States.{Frame, in_one, in_first, in_second, in_ifz, in_app, in_catch, Stack, State, ◌▷◌, ◌◁◌, ◌◂}
use Rattle.machine.specs.Steps.{result}

-- what f makes of the value, if there is one
infixl 50 ◌⨟◌
abbrev pub ◌⨟◌ : {X Y : Type 0} → Option X → (X → Option Y) → Option Y
Some x ⨟ f = f x
None ⨟ f = None

-- A step taken: its moves, its cells, and where it leads.
abbrev pub Taken : Type 0
Taken = ℕ × ℕ × State

-- a number as an amount, or a failure above top
abbrev pub limited : Stack → ℕ → State
limited k n = ite (dec_le n top) (k ◁ amount n) (k ◂)

-- an answer of the counter, or a failure where there is none
abbrev pub answered : Stack → Option ℕ → State
answered k (Some a) = k ◁ amount a
answered k None = k ◂

-- The value v returned to a frame.
abbrev pub returned : Meaning → Frame → Stack → Value → Option Taken
returned M (in_one succ) k (amount n) = Some (1, 0, limited k (n + 1))
returned M (in_one succ) k (function T A) = None
returned M (in_one succ) k (couple T v w) = None
returned M (in_one get) k (amount n) = Some (1, 0, answered k (M n))
returned M (in_one get) k (function T A) = None
returned M (in_one get) k (couple T v w) = None
returned M (in_one fst) k (amount n) = None
returned M (in_one fst) k (function T A) = None
returned M (in_one fst) k (couple T v w) = Some (1, 0, k ◁ v)
returned M (in_one snd) k (amount n) = None
returned M (in_one snd) k (function T A) = None
returned M (in_one snd) k (couple T v w) = Some (1, 0, k ◁ w)
returned M (in_first g B) k v = Some (0, 0, (in_second g v ∷ k) ▷ B)
returned M (in_second (pair T) v) k w = Some (0, 1, k ◁ couple T v w)
returned M (in_second (calc o) (amount n)) k (amount m) = Some (1, 0, limited k (result o n m))
returned M (in_second (calc o) (amount n)) k (function T A) = None
returned M (in_second (calc o) (amount n)) k (couple T v w) = None
returned M (in_second (calc o) (function T A)) k w = None
returned M (in_second (calc o) (couple T u v)) k w = None
returned M (in_ifz B C) k (amount zero) = Some (1, 0, k ▷ B)
returned M (in_ifz B C) k (amount (suc n)) = Some (1, 1, k ▷ inst C (num n))
returned M (in_ifz B C) k (function T A) = None
returned M (in_ifz B C) k (couple T v w) = None
returned M (in_app B) k (amount n) = None
returned M (in_app B) k (function T A) = Some (1, 1, k ▷ inst A B)
returned M (in_app B) k (couple T v w) = None
returned M (in_catch B) k v = Some (1, 0, k ◁ v)

-- A failure at a frame.
abbrev pub failed : Frame → Stack → Taken
failed (in_one g) k = (1, 0, k ◂)
failed (in_first g B) k = (1, 0, k ◂)
failed (in_second g v) k = (1, 0, k ◂)
failed (in_ifz B C) k = (1, 0, k ◂)
failed (in_app B) k = (1, 0, k ◂)
failed (in_catch B) k = (1, 0, k ▷ B)

-- the step from a state, if there is one
abbrev pub next : Meaning → State → Option Taken
next M (k ▷ num n) = Some (0, 0, k ◁ amount n)
next M (k ▷ name i) = None
next M (k ▷ one g A) = Some (0, 0, (in_one g ∷ k) ▷ A)
next M (k ▷ two g A B) = Some (0, 0, (in_first g B ∷ k) ▷ A)
next M (k ▷ ifz A B C) = Some (0, 0, (in_ifz B C ∷ k) ▷ A)
next M (k ▷ lam T A) = Some (0, 0, k ◁ function T A)
next M (k ▷ app A B) = Some (0, 0, (in_app B ∷ k) ▷ A)
next M (k ▷ fix T A) = Some (1, 1, k ▷ inst A (fix T A))
next M (k ▷ fail T) = Some (0, 0, k ◂)
next M (k ▷ catch A B) = Some (0, 0, (in_catch B ∷ k) ▷ A)
next M ([] ◁ v) = None
next M ((f ∷ k) ◁ v) = returned M f k v
next M ([] ◂) = None
next M ((f ∷ k) ◂) = Some (failed f k)

-- One more step after the moves and cells so far.
abbrev pub onward : Meaning → Taken → Option Taken
onward M t = next M t.2 ⨟ λ u. Some (t.0 + u.0, t.1 + u.1, u.2)

-- The moves and cells made, and the state reached, after n steps from p.
abbrev pub after : Meaning → ℕ → State → Option Taken
after M zero p = Some (0, 0, p)
after M (suc n) p = after M n p ⨟ onward M
