-- Making a term by any maker, and the machine over tokens alone.
use Rattle.std.proofs.Common.{◌≡◌, ℕ, suc, List, [], ◌∷◌, map, length, Some, None, Option, sym, refl, ap, ◌∙◌, arith}
use Rattle.grammar.specs.Tokens.{Tok}
use Rattle.theory.specs.Syntax.{Ty, Term}
use Rattle.grammar.specs.Reader.{Maker, Bracket, Turn, go, done, stop, turn}
use Rattle.theory.specs.Folds.{Types, fold_type, Terms, fold}

abbrev pub onward : {A B : Type 0} → Option A → (A → Option B) → Option B
onward None f = None
onward (Some x) f = f x

pub nothing : {A : Type 0} {x : A} → None ≡ Some x → ⊥
nothing h = let z : ◌≡◌ {A = ℕ} 0 1 = cc in omega arith

pub onward_some : {A B : Type 0} (o : Option A) (f : A → Option B) (z : B) → onward o f ≡ Some z → (x : A) × (o ≡ Some x) × (f x ≡ Some z)
onward_some None f z h = absurd (nothing h)
onward_some (Some x) f z h = (x, refl, h)

abbrev pub put : {S Z : Type 0} → Z → S × List Z → Option (S × List Z)
put z q = Some (q.0, z ∷ q.1)

-- one making after the other
abbrev pub each : {S Z : Type 0} → List (S → Option (S × Z)) → S → Option (S × List Z)
each [] s = Some (s, [])
each (g ∷ gs) s = onward (g s) (λ p. onward (each gs p.0) (put p.1))

pub each_some : {S Z : Type 0} (g : S → Option (S × Z)) (gs : List (S → Option (S × Z))) (s : S) (p : S × Z) (q : S × List Z) → g s ≡ Some p → each gs p.0 ≡ Some q → each (g ∷ gs) s ≡ Some (q.0, p.1 ∷ q.1)
each_some g gs s p q a b = ap (λ o. onward o (λ p. onward (each gs p.0) (put p.1))) a ∙ ap (λ o. onward o (put p.1)) b

pub each_length : {S Z : Type 0} (gs : List (S → Option (S × Z))) (s : S) (p : S × List Z) → each gs s ≡ Some p → length p.1 ≡ length gs
each_length [] s p h = let e : (s, []) ≡ p = cc in ap (λ q. length q.1) (sym e)
each_length (g ∷ gs) s p h =
    let a = onward_some (g s) (λ p. onward (each gs p.0) (put p.1)) p h in
    let b = onward_some (each gs a.0.0) (put a.0.1) p a.2 in
    let e : (b.0.0, a.0.1 ∷ b.0.1) ≡ p = cc b.2 in
    let l = each_length gs a.0.0 b.0 b.1 in
    ap (λ q. length q.1) (sym e) ∙ ap suc l

module _ {S X Y : Type 0} (m : Maker S X Y) where
  abbrev pub growing_types : Types (S → Option (S × X))
  growing_types = record { natural = λ s. Some (s, m.natural); shape = λ k t u s. onward (t s) (λ p. onward (u p.0) (λ q. m.shape k p.1 q.1 q.0)) }

  abbrev pub grow_type : Ty → S → Option (S × X)
  grow_type T = fold_type growing_types T

  abbrev pub growing : Terms (S → Option (S × Y))
  growing = record {
    number = λ n s. m.leaf 0 n s;
    called = λ n s. m.leaf 1 n s;
    form = λ f Ts gs s. onward (each (map grow_type Ts) s) (λ p. onward (each gs p.0) (λ q. m.form f p.1 q.1 q.0));
  }

  abbrev pub grow : Term → S → Option (S × Y)
  grow e = fold growing e

abbrev pub finished : {S Y : Type 0} → List Tok → S → Y → Option (S × Y)
finished [] s y = Some (s, y)
finished (t ∷ ts) s y = None

abbrev pub turned : {S X Y : Type 0} → List Tok → (S → List (Bracket X Y) → Option (S × Y)) → Turn S X Y → Option (S × Y)
turned ts on (go s fs) = on s fs
turned ts on (done s y) = finished ts s y
turned ts on (stop k) = None

-- the machine over a list of tokens: what it makes, if they are a whole rule
abbrev pub drive : {S X Y : Type 0} → Maker S X Y → ℕ → List Tok → S → List (Bracket X Y) → Option (S × Y)
drive m room [] s fs = None
drive m room (t ∷ ts) s fs = turned ts (drive m room ts) (turn m room t s fs)
