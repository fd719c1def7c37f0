-- Entries of lists.
use Rattle.std.proofs.Common.{◌≡◌, ℕ, zero, suc, ◌-◌, ◌<◌, ◌≤◌, List, [], ◌∷◌, ◌++◌, length, Some, None, Option, refl, ap, ◌∙◌, arith}
use Rattle.std.specs.List.{slice_get}
use Rattle.machine.specs.Next.{◌⨟◌}

pub clash : {P : Type 0} → ◌≡◌ {A = ℕ} 0 1 → P
clash e = absurd (omega arith)

pub nth_below : {X : Type 0} (xs ys : List X) (i : ℕ) → i < length xs → slice_get (xs ++ ys) i ≡ slice_get xs i
nth_below [] ys i h = absurd (omega arith)
nth_below (x ∷ xs) ys zero h = refl
nth_below (x ∷ xs) ys (suc i) h = nth_below xs ys i (omega arith)

pub nth_above : {X : Type 0} (xs ys : List X) (i : ℕ) → length xs ≤ i → slice_get (xs ++ ys) i ≡ slice_get ys (i - length xs)
nth_above [] ys i h = ap (slice_get ys) (omega arith)
nth_above (x ∷ xs) ys zero h = absurd (omega arith)
nth_above (x ∷ xs) ys (suc i) h = nth_above xs ys i (omega arith) ∙ ap (slice_get ys) (omega arith)

pub nth_inside : {X : Type 0} (xs : List X) (i : ℕ) (x : X) → slice_get xs i ≡ Some x → i < length xs
nth_inside [] i x e = clash (cc)
nth_inside (y ∷ xs) zero x e = omega arith
nth_inside (y ∷ xs) (suc i) x e = let h = nth_inside xs i x e in omega arith

pub nth_append : {X : Type 0} (xs ys : List X) (i : ℕ) (x : X) → slice_get xs i ≡ Some x → slice_get (xs ++ ys) i ≡ Some x
nth_append xs ys i x e = nth_below xs ys i (nth_inside xs i x e) ∙ e

pub nth_beyond : {X : Type 0} (xs : List X) (i : ℕ) → length xs ≤ i → slice_get xs i ≡ None
nth_beyond [] i h = refl
nth_beyond (y ∷ xs) zero h = absurd (omega arith)
nth_beyond (y ∷ xs) (suc i) h = nth_beyond xs i (omega arith)

pub nth_missing : {X : Type 0} (xs : List X) (i : ℕ) → slice_get xs i ≡ None → length xs ≤ i
nth_missing [] i e = omega arith
nth_missing (y ∷ xs) zero e = clash (cc)
nth_missing (y ∷ xs) (suc i) e = let h = nth_missing xs i e in omega arith

-- A value out of `o ⨟ f` came of a value of o.
pub came : {X Y : Type 0} (o : Option X) (f : X → Option Y) (y : Y) → (o ⨟ f) ≡ Some y → (x : X) × (o ≡ Some x) × (f x ≡ Some y)
came (Some x) f y e = (x, refl, e)
came None f y e = clash (cc)

pub goes_on : {X Y : Type 0} (o : Option X) (f : X → Option Y) (x : X) → o ≡ Some x → (o ⨟ f) ≡ f x
goes_on o f x e = ap (λ z. z ⨟ f) e

pub nth_found : {X : Type 0} (xs : List X) (i : ℕ) → i < length xs → (x : X) × (slice_get xs i ≡ Some x)
nth_found [] i h = absurd (omega arith)
nth_found (x ∷ xs) zero h = (x, refl)
nth_found (x ∷ xs) (suc i) h = nth_found xs i (omega arith)
