-- What a chain that ends in `reduce` asks and comes to.
use Rattle.std.proofs.Common.{◌≡◌, ℕ, ◌+◌, ◌<◌, Option, List, [], ◌∷◌, Some, None, sum_by, refl, ap, arith}
use denote.Param.Members.{Mut, Called}
use Rattle.std.specs.Fn.{Takes}
use Rattle.std.specs.List.{FoldsTo, reduce}
use Rattle.std.specs.Iterator.{AfterFirst, CallableInFold, FoldTurn, ReducesItems}
use Rattle.std.proofs.lemmas.Iterator.{YieldsList}
use Rattle.std.proofs.lemmas.Iterator.Adapters.{serves_from_total}
use Rattle.std.proofs.lemmas.Iterator.Consumers.{reduce_from_yields_List}
use Rattle.std.proofs.lemmas.List.Sums.{sum_by-cons}

-- Each call of f gives h of what it takes.
abbrev pub Computes : {A F : Type 0} → Mut F (A × (A × Unit {0})) A → F → (A → A → A) → Type 0
Computes {A} {F} g f h = (a x b : A) (q : F) → Called g f (a, (x, tt)) b q → (q ≡ f) × (b ≡ h a x)

turns : {A F : Type 0} (g : Mut F (A × (A × Unit {0})) A) (h : A → A → A) (f : F) → Computes g f h → (xs : List A) (p q : F) (a b : A) → p ≡ f → FoldsTo {P = F × A} (FoldTurn g) (p, a) xs (q, b) → FoldsTo (λ y x z. z ≡ h y x) a xs b
turns g h f computes [] p q a b same run = ap (λ z. z.1) run
turns g h f computes (x ∷ xs) p q a b same run =
    let step = computes a x run.0.1 run.0.0 (rw same at run.1) in
    (run.0.1, step.1, turns g h f computes xs run.0.0 q run.0.1 b step.0 run.2)

-- So does `reduce` over the list.
pub reduced : {S A F : Type 0} {steps : S → Option A → S → Type 0} {g : Mut F (A × (A × Unit {0})) A} {f : F} {s : S} (h : A → A → A) (all : List A) (r : Option A) → ReducesItems steps g s f r → YieldsList steps (λ x. x) s all → Computes g f h → r ≡ reduce h all
reduced {s = s} h all None ran road computes = reduce_from_yields_List h s None ran road
reduced {g = g} {f = f} {s = s} h all (Some y) ran road computes =
    reduce_from_yields_List h s (Some y) (ran.0, ran.1, ran.3, turns g h f computes ran.1 f ran.2 ran.0 y refl ran.4) road

-- Where each call adds, and may be made while the sum is below a bound, it may be made at each item of a list whose sum is below it.
pub adds_below : {S F : Type 0} {steps : S → Option ℕ → S → Type 0} {g : Mut F (ℕ × (ℕ × Unit {0})) ℕ} {f : F} {s : S} (top : ℕ) (all : List ℕ) → sum_by (λ n. n) all < top → YieldsList steps (λ x. x) s all → Computes g f (λ a b. a + b) → ((a x : ℕ) → a + x < top → Takes g f (a, (x, tt))) → AfterFirst steps s (λ x t. CallableInFold steps g t f x)
adds_below top [] small road computes takes x t step = absurd (road.runs x t step)
adds_below top (y ∷ ys) small road computes takes x t step =
    let first = road.runs.1 x t step in
    serves_from_total (record { runs = first.1 }) (λ n. n)
    (λ n z q called. let added = computes n z q.1 q.0 called in (added.0, omega (arith, added.1)))
    (λ n z le. takes n z (omega (arith, first.0, sum_by-cons (λ n. n) y ys)))
