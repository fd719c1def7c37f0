-- The step relation of the control-stack machine: one rule for each way on, with its moves and its cells.
use Rattle.std.specs.Prelude.{◌≡◌, ℕ, suc, ◌+◌, ◌-◌, ◌*◌, ◌<◌, ◌≤◌, [], ◌∷◌, Some, None}
use Rattle.rows.specs.Limits.{top}
use Rattle.rows.specs.Meanings.{Meaning}
use Rattle.theory.specs.Syntax.{Ty, One, succ, fst, snd, get, Op, add, sub, mul, Two, pair, calc}
use Rattle.theory.specs.Syntax.{Term, num, one, two, ifz, lam, app, fix, fail, catch}
use Rattle.machine.specs.Values.{Value, amount, function, couple}
use Rattle.machine.specs.Substitution.{inst}
use Rattle.machine.specs.States.{Frame, in_one, in_first, in_second, in_ifz, in_app, in_catch, Stack, State, ◌▷◌, ◌◁◌, ◌◂}

-- what add, sub and mul give; sub stops at 0
abbrev pub result : Op → ℕ → ℕ → ℕ
result add n m = n + m
result sub n m = n - m
result mul n m = n * m

-- a failure drops every frame but a catch
pub data Dropped : Frame → Type 0 where
  one_dropped : {g : One} → Dropped (in_one g)
  first_dropped : {g : Two} {B : Term} → Dropped (in_first g B)
  second_dropped : {g : Two} {v : Value} → Dropped (in_second g v)
  ifz_dropped : {B C : Term} → Dropped (in_ifz B C)
  app_dropped : {B : Term} → Dropped (in_app B)

-- Step M m c p q: over the counter M the machine goes from p to q in one step, which makes m moves and c cells.
pub data Step (M : Meaning) : ℕ → ℕ → State → State → Type 0 where
  num_returns : {k : Stack} {n : ℕ} → Step M 0 0 (k ▷ num n) (k ◁ amount n)
  lam_returns : {k : Stack} {T : Ty} {A : Term} → Step M 0 0 (k ▷ lam T A) (k ◁ function T A)
  one_opens : {k : Stack} {g : One} {A : Term} → Step M 0 0 (k ▷ one g A) ((in_one g ∷ k) ▷ A)
  two_opens : {k : Stack} {g : Two} {A B : Term} → Step M 0 0 (k ▷ two g A B) ((in_first g B ∷ k) ▷ A)
  ifz_opens : {k : Stack} {A B C : Term} → Step M 0 0 (k ▷ ifz A B C) ((in_ifz B C ∷ k) ▷ A)
  app_opens : {k : Stack} {A B : Term} → Step M 0 0 (k ▷ app A B) ((in_app B ∷ k) ▷ A)
  catch_opens : {k : Stack} {A B : Term} → Step M 0 0 (k ▷ catch A B) ((in_catch B ∷ k) ▷ A)
  fix_unrolls : {k : Stack} {T : Ty} {A : Term} → Step M 1 1 (k ▷ fix T A) (k ▷ inst A (fix T A))
  fail_fails : {k : Stack} {T : Ty} → Step M 0 0 (k ▷ fail T) (k ◂)
  succ_counts : {k : Stack} {n : ℕ} → n < top → Step M 1 0 ((in_one succ ∷ k) ◁ amount n) (k ◁ amount (n + 1))
  succ_overflows : {k : Stack} {n : ℕ} → top ≤ n → Step M 1 0 ((in_one succ ∷ k) ◁ amount n) (k ◂)
  ifz_zero : {k : Stack} {B C : Term} → Step M 1 0 ((in_ifz B C ∷ k) ◁ amount 0) (k ▷ B)
  ifz_above : {k : Stack} {B C : Term} {n : ℕ} → Step M 1 1 ((in_ifz B C ∷ k) ◁ amount (suc n)) (k ▷ inst C (num n))
  app_enters : {k : Stack} {A B : Term} {T : Ty} → Step M 1 1 ((in_app B ∷ k) ◁ function T A) (k ▷ inst A B)
  first_done : {k : Stack} {g : Two} {B : Term} {v : Value} → Step M 0 0 ((in_first g B ∷ k) ◁ v) ((in_second g v ∷ k) ▷ B)
  pair_made : {k : Stack} {T : Ty} {v w : Value} → Step M 0 1 ((in_second (pair T) v ∷ k) ◁ w) (k ◁ couple T v w)
  calc_result : {k : Stack} {o : Op} {n m : ℕ} → result o n m ≤ top → Step M 1 0 ((in_second (calc o) (amount n) ∷ k) ◁ amount m) (k ◁ amount (result o n m))
  calc_overflows : {k : Stack} {o : Op} {n m : ℕ} → top < result o n m → Step M 1 0 ((in_second (calc o) (amount n) ∷ k) ◁ amount m) (k ◂)
  get_answers : {k : Stack} {q a : ℕ} → M q ≡ Some a → Step M 1 0 ((in_one get ∷ k) ◁ amount q) (k ◁ amount a)
  get_misses : {k : Stack} {q : ℕ} → M q ≡ None → Step M 1 0 ((in_one get ∷ k) ◁ amount q) (k ◂)
  fst_takes : {k : Stack} {T : Ty} {v w : Value} → Step M 1 0 ((in_one fst ∷ k) ◁ couple T v w) (k ◁ v)
  snd_takes : {k : Stack} {T : Ty} {v w : Value} → Step M 1 0 ((in_one snd ∷ k) ◁ couple T v w) (k ◁ w)
  catch_passes : {k : Stack} {B : Term} {v : Value} → Step M 1 0 ((in_catch B ∷ k) ◁ v) (k ◁ v)
  catch_catches : {k : Stack} {B : Term} → Step M 1 0 ((in_catch B ∷ k) ◂) (k ▷ B)
  frame_drops : {k : Stack} {f : Frame} → Dropped f → Step M 1 0 ((f ∷ k) ◂) (k ◂)

-- Steps M n m c p q: n steps lead from p to q, and make m moves and c cells.
pub data Steps (M : Meaning) : ℕ → ℕ → ℕ → State → State → Type 0 where
  at_start : {p : State} → Steps M 0 0 0 p p
  then_step : {n m c m₁ c₁ : ℕ} {p q r : State} → Steps M n m c p q → Step M m₁ c₁ q r → Steps M (n + 1) (m + m₁) (c + c₁) p r

-- The machine ends with a number or a failure, at the empty stack.
pub data Final : State → Type 0 where
  number_end : {n : ℕ} → Final ([] ◁ amount n)
  failed_end : Final ([] ◂)
