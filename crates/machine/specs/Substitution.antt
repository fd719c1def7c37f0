-- Closed terms put for the names of a term.
use Rattle.std.specs.Prelude.{ℕ, suc, ◌-◌, ◌<◌, List, [], ◌∷◌, length, Some, None, Option}
use Rattle.std.proofs.Math.Logic.{ite}
use Rattle.std.proofs.Math.Decide.{dec_lt}
use Rattle.std.specs.List.{slice_get}
use Rattle.theory.specs.Syntax.{Term, num, name, one, two, ifz, lam, app, fix, fail, catch}

-- the value, if there is one, and else y
abbrev pub or_else : {X : Type 0} → Option X → X → X
or_else (Some x) y = x
or_else None y = y

-- What becomes of name i under d binders, when the closed terms ρ are put for the names outside: the d nearest stay, the
-- next become the terms of ρ, and those beyond move down by so many.
abbrev pub named : ℕ → List Term → ℕ → Term
named d ρ i = ite (dec_lt i d) (name i) (or_else (slice_get ρ (i - d)) (name (i - length ρ)))

-- the term under d binders, with the closed terms ρ put for the names outside
abbrev pub close : ℕ → List Term → Term → Term
close d ρ (num n) = num n
close d ρ (name i) = named d ρ i
close d ρ (one g A) = one g (close d ρ A)
close d ρ (two g A B) = two g (close d ρ A) (close d ρ B)
close d ρ (ifz A B C) = ifz (close d ρ A) (close d ρ B) (close (suc d) ρ C)
close d ρ (lam T A) = lam T (close (suc d) ρ A)
close d ρ (app A B) = app (close d ρ A) (close d ρ B)
close d ρ (fix T A) = fix T (close (suc d) ρ A)
close d ρ (fail T) = fail T
close d ρ (catch A B) = catch (close d ρ A) (close d ρ B)

-- A with the closed term e for its name
abbrev pub inst : Term → Term → Term
inst A e = close 0 (e ∷ []) A

-- every name of the term is below d
abbrev pub Below : ℕ → Term → Type 0
Below d (num n) = Unit {0}
Below d (name i) = i < d
Below d (one g A) = Below d A
Below d (two g A B) = Below d A × Below d B
Below d (ifz A B C) = Below d A × Below d B × Below (suc d) C
Below d (lam T A) = Below (suc d) A
Below d (app A B) = Below d A × Below d B
Below d (fix T A) = Below (suc d) A
Below d (fail T) = Unit {0}
Below d (catch A B) = Below d A × Below d B

-- every term of the list is closed
abbrev pub AllClosed : List Term → Type 0
AllClosed [] = Unit {0}
AllClosed (e ∷ ρ) = Below 0 e × AllClosed ρ
