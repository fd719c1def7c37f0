-- The types and the terms of rules.
use Rattle.std.specs.Prelude.{ℕ}

pub data Ty : Type 0 where
  nat : Ty
  to both : Ty → Ty → Ty
  deriving Discrete as discrete_ty

-- The forms with one part, which is run first.
pub data One : Type 0 where
  succ fst snd get : One
  deriving Discrete as discrete_one

pub data Op : Type 0 where
  add sub mul : Op
  deriving Discrete as discrete_op

-- The forms with two parts, both of which are run, the first one first.
pub data Two : Type 0 where
  pair : Ty → Two
  calc : Op → Two
  deriving Discrete as discrete_two

-- Name 0 is the nearest binder's, 1 the next outward. The last part of ifz, and the part of lam and fix, bind a name.
pub data Term : Type 0 where
  num : ℕ → Term
  name : ℕ → Term
  one : One → Term → Term
  two : Two → Term → Term → Term
  ifz : Term → Term → Term → Term
  lam : Ty → Term → Term
  app : Term → Term → Term
  fix : Ty → Term → Term
  fail : Ty → Term
  catch : Term → Term → Term
  deriving Discrete as discrete_term
