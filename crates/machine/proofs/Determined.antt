-- At most one structural step leads on.
use Rattle.std.proofs.Common.{◌≡◌, ℕ, Some, None, Option, refl, subst, arith}
use Rattle.theory.specs.Syntax.{nat, Term, num, one, two, ifz, app, fail, catch}
use Rattle.rows.specs.Meanings.{Meaning}
use Rattle.machine.specs.Structural.{IsValue, num_value, lam_value, pair_value, Reduces, inside_one, inside_first, inside_second, inside_ifz, inside_app, inside_catch, unroll, count, count_over, on_zero, on_above, enter, calculate, calculate_over, answer, no_answer, first_half, second_half, pass, rescue, fail_one, fail_first, fail_second, fail_ifz, fail_app, ReducesIn, nowhere, then_reduces}
use Rattle.machine.proofs.Lists.{clash}

-- Values make no step.
pub value_rests : {M : Meaning} {A A' : Term} → IsValue A → Reduces M A A' → ⊥
value_rests num_value r = elim r [ ]
value_rests lam_value r = elim r [ ]
value_rests (pair_value v w) (inside_first r) = value_rests v r
value_rests (pair_value v w) (inside_second u r) = value_rests w r
value_rests (pair_value v w) fail_first = elim v [ ]
value_rests (pair_value v w) (fail_second u) = elim w [ ]

-- Nor does a failure.
pub fail_rests : {M : Meaning} {A : Term} → Reduces M (fail nat) A → ⊥
fail_rests r = elim r [ ]

one_answer : {a b : ℕ} (o : Option ℕ) → o ≡ Some a → o ≡ Some b → num a ≡ num b
one_answer o e f = cc

no_both : {a : ℕ} (o : Option ℕ) → o ≡ Some a → o ≡ None → ⊥
no_both o e f = clash (cc)

pub reduces_unique : {M : Meaning} {e e₁ e₂ : Term} → Reduces M e e₁ → Reduces M e e₂ → e₁ ≡ e₂
-- forms with one part
reduces_unique (inside_one {g = g} r) (inside_one t) = λ i. one g (reduces_unique r t i)
reduces_unique (inside_one r) (count h) = elim r [ ]
reduces_unique (inside_one r) (count_over h) = elim r [ ]
reduces_unique (inside_one r) (answer h) = elim r [ ]
reduces_unique (inside_one r) (no_answer h) = elim r [ ]
reduces_unique (inside_one r) (first_half v w) = absurd (value_rests (pair_value v w) r)
reduces_unique (inside_one r) (second_half v w) = absurd (value_rests (pair_value v w) r)
reduces_unique (inside_one r) fail_one = absurd (fail_rests r)
reduces_unique (count h) (inside_one t) = elim t [ ]
reduces_unique (count h) (count k) = refl
reduces_unique (count h) (count_over k) = absurd (omega arith)
reduces_unique (count_over h) (inside_one t) = elim t [ ]
reduces_unique (count_over h) (count k) = absurd (omega arith)
reduces_unique (count_over h) (count_over k) = refl
reduces_unique {M} (answer {q = q} h) (answer k) = one_answer (M q) h k
reduces_unique {M} (answer {q = q} h) (no_answer k) = absurd (no_both (M q) h k)
reduces_unique (answer h) (inside_one t) = elim t [ ]
reduces_unique {M} (no_answer {q = q} h) (answer k) = absurd (no_both (M q) k h)
reduces_unique (no_answer h) (no_answer k) = refl
reduces_unique (no_answer h) (inside_one t) = elim t [ ]
reduces_unique (first_half v w) (inside_one t) = absurd (value_rests (pair_value v w) t)
reduces_unique (first_half v w) (first_half x y) = refl
reduces_unique (second_half v w) (inside_one t) = absurd (value_rests (pair_value v w) t)
reduces_unique (second_half v w) (second_half x y) = refl
reduces_unique fail_one (inside_one t) = absurd (fail_rests t)
reduces_unique fail_one fail_one = refl
-- forms with two parts
reduces_unique (inside_first {g = g} {B = B} r) (inside_first t) = λ i. two g (reduces_unique r t i) B
reduces_unique (inside_first r) (inside_second v t) = absurd (value_rests v r)
reduces_unique (inside_first r) (calculate h) = elim r [ ]
reduces_unique (inside_first r) (calculate_over h) = elim r [ ]
reduces_unique (inside_first r) fail_first = absurd (fail_rests r)
reduces_unique (inside_first r) (fail_second v) = absurd (value_rests v r)
reduces_unique (inside_second v r) (inside_first t) = absurd (value_rests v t)
reduces_unique (inside_second {g = g} {A = A} v r) (inside_second u t) = λ i. two g A (reduces_unique r t i)
reduces_unique (inside_second v r) (calculate h) = elim r [ ]
reduces_unique (inside_second v r) (calculate_over h) = elim r [ ]
reduces_unique (inside_second v r) fail_first = elim v [ ]
reduces_unique (inside_second v r) (fail_second u) = absurd (fail_rests r)
reduces_unique (calculate h) (inside_first t) = elim t [ ]
reduces_unique (calculate h) (inside_second v t) = elim t [ ]
reduces_unique (calculate h) (calculate k) = refl
reduces_unique (calculate h) (calculate_over k) = absurd (omega arith)
reduces_unique (calculate_over h) (inside_first t) = elim t [ ]
reduces_unique (calculate_over h) (inside_second v t) = elim t [ ]
reduces_unique (calculate_over h) (calculate k) = absurd (omega arith)
reduces_unique (calculate_over h) (calculate_over k) = refl
reduces_unique fail_first (inside_first t) = absurd (fail_rests t)
reduces_unique fail_first (inside_second v t) = elim v [ ]
reduces_unique fail_first fail_first = refl
reduces_unique fail_first (fail_second v) = elim v [ ]
reduces_unique (fail_second v) (inside_first t) = absurd (value_rests v t)
reduces_unique (fail_second v) (inside_second u t) = absurd (fail_rests t)
reduces_unique (fail_second v) fail_first = elim v [ ]
reduces_unique (fail_second v) (fail_second u) = refl
-- ifz, app, catch, fix
reduces_unique (inside_ifz {B = B} {C = C} r) (inside_ifz t) = λ i. ifz (reduces_unique r t i) B C
reduces_unique (inside_ifz r) on_zero = elim r [ ]
reduces_unique (inside_ifz r) on_above = elim r [ ]
reduces_unique (inside_ifz r) fail_ifz = absurd (fail_rests r)
reduces_unique on_zero (inside_ifz t) = elim t [ ]
reduces_unique on_zero on_zero = refl
reduces_unique on_above (inside_ifz t) = elim t [ ]
reduces_unique on_above on_above = refl
reduces_unique fail_ifz (inside_ifz t) = absurd (fail_rests t)
reduces_unique fail_ifz fail_ifz = refl
reduces_unique (inside_app {B = B} r) (inside_app t) = λ i. app (reduces_unique r t i) B
reduces_unique (inside_app r) enter = elim r [ ]
reduces_unique (inside_app r) fail_app = absurd (fail_rests r)
reduces_unique enter (inside_app t) = elim t [ ]
reduces_unique enter enter = refl
reduces_unique fail_app (inside_app t) = absurd (fail_rests t)
reduces_unique fail_app fail_app = refl
reduces_unique (inside_catch {B = B} r) (inside_catch t) = λ i. catch (reduces_unique r t i) B
reduces_unique (inside_catch r) (pass v) = absurd (value_rests v r)
reduces_unique (inside_catch r) rescue = absurd (fail_rests r)
reduces_unique (pass v) (inside_catch t) = absurd (value_rests v t)
reduces_unique (pass v) (pass u) = refl
reduces_unique (pass v) rescue = elim v [ ]
reduces_unique rescue (inside_catch t) = absurd (fail_rests t)
reduces_unique rescue (pass v) = elim v [ ]
reduces_unique rescue rescue = refl
reduces_unique unroll unroll = refl

-- As many structural steps lead to one term.
many_unique : {M : Meaning} {m m' : ℕ} {e e₁ e₂ : Term} → ReducesIn M m e e₁ → ReducesIn M m' e e₂ → m ≡ m' → e₁ ≡ e₂
many_unique nowhere nowhere q = refl
many_unique nowhere (then_reduces ts t) q = absurd (omega arith)
many_unique (then_reduces rs r) nowhere q = absurd (omega arith)
many_unique {M} (then_reduces {e'' = e''} rs r) (then_reduces ts t) q = reduces_unique (subst (λ x. Reduces M x e'') (many_unique rs ts (omega arith)) r) t

pub reduces_in_unique : {M : Meaning} {m : ℕ} {e e₁ e₂ : Term} → ReducesIn M m e e₁ → ReducesIn M m e e₂ → e₁ ≡ e₂
reduces_in_unique rs ts = many_unique rs ts refl
