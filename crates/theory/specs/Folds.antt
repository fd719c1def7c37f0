-- Types and terms by their bracketed forms, so that what the forms share is said once.
use Rattle.std.specs.Prelude.{ℕ, max, List, [], ◌∷◌, slice_index_or}
use Rattle.theory.specs.Syntax.{Ty, nat, to, both, One, succ, fst, snd, get, Op, add, sub, mul, pair, calc, Term, num, name, one, two, ifz, lam, app, fix, fail, catch}
use Rattle.rows.specs.declared.forms.Form.{Form}
use Rattle.rows.specs.declared.forms.Form.TheVariants.{Succ, Ifz, Lam, Ap, Fix, Pair, Fst, Snd, Add, Sub, Mul, Get, Fail, Catch}
use Rattle.rows.specs.declared.forms.Shape.{Shape}
use Rattle.rows.specs.declared.forms.Shape.TheVariants.{To, Both}

-- the type of a shape with its two types
abbrev pub shaped : Shape → Ty → Ty → Ty
shaped To T U = to T U
shaped Both T U = both T U

-- the type and the parts of a form, where it has them
abbrev pub ty : List Ty → Ty
ty Ts = slice_index_or Ts 0 nat

abbrev pub part : List Term → ℕ → Term
part es i = slice_index_or es i (num 0)

-- the term of a form with its types and parts
abbrev pub built : Form → List Ty → List Term → Term
built Succ Ts es = one succ (part es 0)
built Ifz Ts es = ifz (part es 0) (part es 1) (part es 2)
built Lam Ts es = lam (ty Ts) (part es 0)
built Ap Ts es = app (part es 0) (part es 1)
built Fix Ts es = fix (ty Ts) (part es 0)
built Pair Ts es = two (pair (ty Ts)) (part es 0) (part es 1)
built Fst Ts es = one fst (part es 0)
built Snd Ts es = one snd (part es 0)
built Add Ts es = two (calc add) (part es 0) (part es 1)
built Sub Ts es = two (calc sub) (part es 0) (part es 1)
built Mul Ts es = two (calc mul) (part es 0) (part es 1)
built Get Ts es = one get (part es 0)
built Fail Ts es = fail (ty Ts)
built Catch Ts es = catch (part es 0) (part es 1)

abbrev pub one_form : One → Form
one_form succ = Succ
one_form fst = Fst
one_form snd = Snd
one_form get = Get

abbrev pub op_form : Op → Form
op_form add = Add
op_form sub = Sub
op_form mul = Mul

-- what a type becomes, by what nat and the two shapes become
pub record Types (R : Type 0) : Type 0 where
  pub natural : R
  pub shape : Shape → R → R → R

abbrev pub fold_type : {R : Type 0} → Types R → Ty → R
fold_type a nat = a.natural
fold_type a (to T U) = a.shape To (fold_type a T) (fold_type a U)
fold_type a (both T U) = a.shape Both (fold_type a T) (fold_type a U)

-- what a term becomes, by what numbers, names and the forms become
pub record Terms (R : Type 0) : Type 0 where
  pub number : ℕ → R
  pub called : ℕ → R
  pub form : Form → List Ty → List R → R

abbrev pub fold : {R : Type 0} → Terms R → Term → R
fold a (num n) = a.number n
fold a (name n) = a.called n
fold a (one g A) = a.form (one_form g) [] (fold a A ∷ [])
fold a (two (pair T) A B) = a.form Pair (T ∷ []) (fold a A ∷ fold a B ∷ [])
fold a (two (calc o) A B) = a.form (op_form o) [] (fold a A ∷ fold a B ∷ [])
fold a (ifz A B C) = a.form Ifz [] (fold a A ∷ fold a B ∷ fold a C ∷ [])
fold a (lam T A) = a.form Lam (T ∷ []) (fold a A ∷ [])
fold a (app A B) = a.form Ap [] (fold a A ∷ fold a B ∷ [])
fold a (fix T A) = a.form Fix (T ∷ []) (fold a A ∷ [])
fold a (fail T) = a.form Fail (T ∷ []) []
fold a (catch A B) = a.form Catch [] (fold a A ∷ fold a B ∷ [])

-- the greatest of some numbers
abbrev pub most : List ℕ → ℕ
most [] = 0
most (n ∷ ns) = max n (most ns)

-- the greatest number or distance of a name in a term
abbrev pub numbers_in : Terms ℕ
numbers_in = record { number = λ n. n; called = λ d. d; form = λ f Ts ns. most ns }

abbrev pub largest : Term → ℕ
largest e = fold numbers_in e
