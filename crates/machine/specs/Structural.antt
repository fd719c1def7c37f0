-- Structural steps on terms, and unravelling.
use Rattle.std.specs.Prelude.{◌≡◌, ℕ, suc, ◌+◌, ◌<◌, ◌≤◌, [], ◌∷◌, Some, None}
use Rattle.rows.specs.Limits.{top}
use Rattle.theory.specs.Syntax.{Ty, nat, One, succ, fst, snd, get, Op, Two, pair, calc, Term, num, name, one, two, ifz, lam, app, fix, fail, catch}
use Rattle.machine.specs.Substitution.{inst}
use Rattle.machine.specs.Values.{term}
use Rattle.rows.specs.Meanings.{Meaning}
use Rattle.machine.specs.States.{Frame, in_one, in_first, in_second, in_ifz, in_app, in_catch, Stack, State, ◌▷◌, ◌◁◌, ◌◂}
use Rattle.machine.specs.Steps.{result}

-- Every fail written without its type, for which nat stands.
abbrev pub bare : Term → Term
bare (num n) = num n
bare (name i) = name i
bare (one g A) = one g (bare A)
bare (two g A B) = two g (bare A) (bare B)
bare (ifz A B C) = ifz (bare A) (bare B) (bare C)
bare (lam T A) = lam T (bare A)
bare (app A B) = app (bare A) (bare B)
bare (fix T A) = fix T (bare A)
bare (fail T) = fail nat
bare (catch A B) = catch (bare A) (bare B)

-- Numbers, lam forms and pairs of values are values.
pub data IsValue : Term → Type 0 where
  num_value : {n : ℕ} → IsValue (num n)
  lam_value : {T : Ty} {A : Term} → IsValue (lam T A)
  pair_value : {T : Ty} {A B : Term} → IsValue A → IsValue B → IsValue (two (pair T) A B)

-- e ⟶ e' in one structural step, over the counter M. A fail is written `fail nat`.
pub data Reduces (M : Meaning) : Term → Term → Type 0 where
  -- inside the open part
  inside_one : {g : One} {A A' : Term} → Reduces M A A' → Reduces M (one g A) (one g A')
  inside_first : {g : Two} {A A' B : Term} → Reduces M A A' → Reduces M (two g A B) (two g A' B)
  inside_second : {g : Two} {A B B' : Term} → IsValue A → Reduces M B B' → Reduces M (two g A B) (two g A B')
  inside_ifz : {A A' B C : Term} → Reduces M A A' → Reduces M (ifz A B C) (ifz A' B C)
  inside_app : {A A' B : Term} → Reduces M A A' → Reduces M (app A B) (app A' B)
  inside_catch : {A A' B : Term} → Reduces M A A' → Reduces M (catch A B) (catch A' B)
  -- the open part is a value
  unroll : {T : Ty} {A : Term} → Reduces M (fix T A) (inst A (fix T A))
  count : {n : ℕ} → n < top → Reduces M (one succ (num n)) (num (n + 1))
  count_over : {n : ℕ} → top ≤ n → Reduces M (one succ (num n)) (fail nat)
  on_zero : {B C : Term} → Reduces M (ifz (num 0) B C) B
  on_above : {n : ℕ} {B C : Term} → Reduces M (ifz (num (suc n)) B C) (inst C (num n))
  enter : {T : Ty} {A B : Term} → Reduces M (app (lam T A) B) (inst A B)
  calculate : {o : Op} {n m : ℕ} → result o n m ≤ top → Reduces M (two (calc o) (num n) (num m)) (num (result o n m))
  calculate_over : {o : Op} {n m : ℕ} → top < result o n m → Reduces M (two (calc o) (num n) (num m)) (fail nat)
  answer : {q a : ℕ} → M q ≡ Some a → Reduces M (one get (num q)) (num a)
  no_answer : {q : ℕ} → M q ≡ None → Reduces M (one get (num q)) (fail nat)
  first_half : {T : Ty} {A B : Term} → IsValue A → IsValue B → Reduces M (one fst (two (pair T) A B)) A
  second_half : {T : Ty} {A B : Term} → IsValue A → IsValue B → Reduces M (one snd (two (pair T) A B)) B
  pass : {A B : Term} → IsValue A → Reduces M (catch A B) A
  -- the open part is a fail
  rescue : {B : Term} → Reduces M (catch (fail nat) B) B
  fail_one : {g : One} → Reduces M (one g (fail nat)) (fail nat)
  fail_first : {g : Two} {B : Term} → Reduces M (two g (fail nat) B) (fail nat)
  fail_second : {g : Two} {A : Term} → IsValue A → Reduces M (two g A (fail nat)) (fail nat)
  fail_ifz : {B C : Term} → Reduces M (ifz (fail nat) B C) (fail nat)
  fail_app : {B : Term} → Reduces M (app (fail nat) B) (fail nat)

-- m structural steps lead from e to e'.
pub data ReducesIn (M : Meaning) : ℕ → Term → Term → Type 0 where
  nowhere : {e : Term} → ReducesIn M 0 e e
  then_reduces : {m : ℕ} {e e' e'' : Term} → ReducesIn M m e e' → Reduces M e' e'' → ReducesIn M (m + 1) e e''

-- A frame with e in its open place.
abbrev pub fill : Frame → Term → Term
fill (in_one g) e = one g e
fill (in_first g B) e = two g e B
fill (in_second g v) e = two g (term v) e
fill (in_ifz B C) e = ifz e B C
fill (in_app B) e = app e B
fill (in_catch B) e = catch e B

-- A stack with e in the open place of its top frame.
abbrev pub refill : Stack → Term → Term
refill [] e = e
refill (f ∷ k) e = refill k (fill f e)

-- The expression, or fail, back in the frames from the top down.
abbrev pub unravel : State → Term
unravel (k ▷ e) = bare (refill k e)
unravel (k ◁ v) = bare (refill k (term v))
unravel (k ◂) = bare (refill k (fail nat))
