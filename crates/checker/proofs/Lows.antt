-- A pass for the lowest place that is not good.
use Rattle.std.proofs.Common.{◌≡◌, ℕ, zero, suc, ◌<◌, ◌≤◌, Bool, true, false, cond, Some, None, Option, MatchOption, sym, refl, ⊎_elim, arith}
use Rattle.std.proofs.lemmas.Bool.{cases_lt}
use Rattle.checker.specs.Lowest.{first_of, lowest}

module _ (good : ℕ → Bool) where
  at : (i : ℕ) → lowest good i ≡ None → good i ≡ false → lowest good (suc i) ≡ Some i
  at i e g = rw (e, g) refl

  keeps : (n i j : ℕ) → lowest good i ≡ Some j → i ≤ n → lowest good n ≡ Some j
  keeps zero i j e h = let z : i ≡ 0 = omega arith in rw z at e
  keeps (suc n) i j e h =
      ⊎_elim
      (λ (s : i < suc n). rw (keeps n i j e (omega arith)) refl)
      (λ (s : suc n ≤ i). let z : i ≡ suc n = omega arith in rw z at e)
      (cases_lt i (suc n))

  pub lowest_here : (i n : ℕ) → i < n → lowest good i ≡ None → good i ≡ false → Some i ≡ lowest good n
  lowest_here i n h e g = sym (keeps n (suc i) i (at i e g) (omega arith))

  -- below the end of a pass that finds none, each is good
  pub lowest_good : (n : ℕ) → lowest good n ≡ None → (k : ℕ) → k < n → good k ≡ true
  lowest_good zero e k h = absurd (omega arith)
  lowest_good (suc n) e k h =
      let parts = first_none (lowest good n) (cond (good n) None (Some n)) e in
      ⊎_elim (λ (s : k < n). lowest_good n parts.0 k s)
      (λ (s : n ≤ k). let z : k ≡ n = omega arith in rw z (none_good (good n) n parts.1))
      (cases_lt k n)
    where
      first_none : (x y : Option ℕ) → first_of x y ≡ None → (x ≡ None) × (y ≡ None)
      first_none None y e = (refl, e)
      first_none (Some x) y e = (e, absurd (let z : ◌≡◌ {A = ℕ} 0 1 = cc in omega arith))

      none_good : (b : Bool) (n : ℕ) → cond b None (Some n) ≡ None → b ≡ true
      none_good true n e = refl
      none_good false n e = absurd (let z : ◌≡◌ {A = ℕ} 0 1 = cc in omega arith)

  -- and where each is good, it finds none
  pub lowest_none : (n : ℕ) → ((k : ℕ) → k < n → good k ≡ true) → lowest good n ≡ None
  lowest_none zero h = refl
  lowest_none (suc n) h = rw (lowest_none n (λ k lt. h k (omega arith)), h n (omega arith)) refl

-- what a search from the lowest place on finds
pub lowest_found : (good : ℕ → Bool) (n : ℕ) (r : Option ℕ) → MatchOption r ((k : ℕ) → 0 ≤ k → k < n → good k ≡ true) (λ i. (0 ≤ i) × (i < n) × (good i ≡ false) × ((k : ℕ) → 0 ≤ k → k < i → good k ≡ true)) → r ≡ lowest good n
lowest_found good n None h = sym (lowest_none good n (λ k lt. h k (omega arith) lt))
lowest_found good n (Some i) h = lowest_here good i n h.1 (lowest_none good i (λ k lt. h.3 k (omega arith) lt)) h.2
