-- Tables in which each row's entry is built from the entries before it.
use Rattle.std.proofs.Common.{◌≡◌, ℕ, zero, suc, ◌+◌, ◌<◌, Bool, true, List, [], ◌∷◌, ◌++◌, length, get_or, sym, refl, ap, ◌∙◌, subst, arith}
use lib.ListN.{get_or-eq_default, get_or-append}
use Rattle.std.proofs.lemmas.Bool.{and_parts, and_from}
use Rattle.std.proofs.lemmas.List.{length_push, get_or_push}
use Rattle.environments.specs.Folds.{grown, built, lawful}

pub append-nil : {X : Type 0} (xs : List X) → xs ++ [] ≡ xs
append-nil [] = refl
append-nil (x ∷ xs) = λ i. x ∷ append-nil xs i

pub append_append : {X : Type 0} (xs ys zs : List X) → (xs ++ ys) ++ zs ≡ xs ++ (ys ++ zs)
append_append [] ys zs = refl
append_append (x ∷ xs) ys zs = λ i. x ∷ append_append xs ys zs i

module _ {R X : Type 0} (f : List X → R → X) where
  pub grown_length : (xs : List X) (rs : List R) → length (grown f xs rs) ≡ length xs + length rs
  unfolding grown
  grown_length xs [] = omega arith
  grown_length xs (r ∷ rs) = let h = grown_length (xs ++ (f xs r ∷ [])) rs in omega (arith, length_push xs (f xs r))

  -- The first entries stay.
  pub grown_extends : (xs : List X) (rs : List R) → (ys : List X) × (grown f xs rs ≡ xs ++ ys)
  unfolding grown
  grown_extends xs [] = ([], sym (append-nil xs))
  grown_extends xs (r ∷ rs) =
      let (ys, e) = grown_extends (xs ++ (f xs r ∷ [])) rs in
      (f xs r ∷ ys, e ∙ append_append xs (f xs r ∷ []) ys)

  -- One row more is one entry more, built from all before it.
  pub grown_push : (xs : List X) (rs : List R) (r : R)
      → grown f xs (rs ++ (r ∷ [])) ≡ grown f xs rs ++ (f (grown f xs rs) r ∷ [])
  unfolding grown
  grown_push xs [] r = refl
  grown_push xs (q ∷ rs) r = grown_push (xs ++ (f xs q ∷ [])) rs r

  pub built_length : (rs : List R) → length (built f rs) ≡ length rs
  built_length rs = let h = grown_length [] rs in omega arith

  pub built_push : (rs : List R) (r : R) → built f (rs ++ (r ∷ [])) ≡ built f rs ++ (f (built f rs) r ∷ [])
  built_push rs r = grown_push [] rs r

module _ {R : Type 0} (t : ℕ → R → Bool) where
  pub lawful_push : (n m : ℕ) (rs : List R) (r : R) → m ≡ n + length rs → lawful t n rs ≡ true → t m r ≡ true
      → lawful t n (rs ++ (r ∷ [])) ≡ true
  unfolding lawful
  lawful_push n m [] r e h g =
      let p : m ≡ n = omega arith in
      and_from (t n r) true (subst (λ (k : ℕ). t k r ≡ true) p g) refl
  lawful_push n m (q ∷ rs) r e h g =
      let hs = and_parts (t n q) (lawful t (suc n) rs) h in
      and_from (t n q) (lawful t (suc n) (rs ++ (r ∷ []))) hs.0 (lawful_push (suc n) m rs r (omega arith) hs.1 g)

  -- A row passes its test.
  pub lawful_at : (n : ℕ) (rs : List R) (j : ℕ) (r₀ : R) → lawful t n rs ≡ true → j < length rs
      → t (n + j) (get_or rs j r₀) ≡ true
  unfolding lawful
  lawful_at n [] j r₀ h l = absurd (omega arith)
  lawful_at n (q ∷ rs) zero r₀ h l =
      let p : n ≡ n + 0 = omega arith in
      subst (λ (k : ℕ). t k q ≡ true) p (and_parts (t n q) (lawful t (suc n) rs) h).0
  lawful_at n (q ∷ rs) (suc j) r₀ h l =
      let p : suc n + j ≡ n + suc j = omega arith in
      subst (λ (k : ℕ). t k (get_or rs j r₀) ≡ true) p
      (lawful_at (suc n) rs j r₀ (and_parts (t n q) (lawful t (suc n) rs) h).1 (omega arith))

-- An entry is built alike from all entries: each row passes a test by which it looks at earlier entries only, and a
-- blank row has the blank entry.
module _ {R X : Type 0} (f : List X → R → X) (t : ℕ → R → Bool) (x₀ : X) (r₀ : R)
    (local : (xs ys : List X) (r : R) → t (length xs) r ≡ true → f (xs ++ ys) r ≡ f xs r)
    (blank : (xs : List X) → f xs r₀ ≡ x₀) where
  grown_entry : (xs : List X) (rs : List R) (j : ℕ) → lawful t (length xs) rs ≡ true
      → get_or (grown f xs rs) (length xs + j) x₀ ≡ f (grown f xs rs) (get_or rs j r₀)
  unfolding grown lawful
  grown_entry xs [] j h = get_or-eq_default xs x₀ {n = length xs + j} (omega arith) ∙ sym (blank xs)
  grown_entry xs (r ∷ rs) zero h =
      let (ys, e) = grown_extends f (xs ++ (f xs r ∷ [])) rs in
      let q : length xs + 0 ≡ length xs = omega arith in
      let less : length xs < length (xs ++ (f xs r ∷ [])) = omega (arith, length_push xs (f xs r)) in
      let a : get_or (grown f (xs ++ (f xs r ∷ [])) rs) (length xs + 0) x₀ ≡ f xs r =
      ap (λ (g : List X). get_or g (length xs + 0) x₀) e ∙ ap (λ (n : ℕ). get_or ((xs ++ (f xs r ∷ [])) ++ ys) n x₀) q
      ∙ get_or-append (xs ++ (f xs r ∷ [])) ys x₀ (length xs) less
      ∙ get_or_push xs (f xs r) x₀ (length xs) refl in
      let b : f (grown f (xs ++ (f xs r ∷ [])) rs) r ≡ f xs r =
      ap (λ (g : List X). f g r) (e ∙ append_append xs (f xs r ∷ []) ys)
      ∙ local xs ((f xs r ∷ []) ++ ys) r (and_parts (t (length xs) r) (lawful t (suc (length xs)) rs) h).0 in
      a ∙ sym b
  grown_entry xs (r ∷ rs) (suc j) h =
      let l : suc (length xs) ≡ length (xs ++ (f xs r ∷ [])) = omega (arith, length_push xs (f xs r)) in
      let q : length xs + suc j ≡ length (xs ++ (f xs r ∷ [])) + j = omega arith in
      let h' : lawful t (length (xs ++ (f xs r ∷ []))) rs ≡ true =
      subst (λ (k : ℕ). lawful t k rs ≡ true) l
      (and_parts (t (length xs) r) (lawful t (suc (length xs)) rs) h).1 in
      ap (λ (n : ℕ). get_or (grown f (xs ++ (f xs r ∷ [])) rs) n x₀) q ∙ grown_entry (xs ++ (f xs r ∷ [])) rs j h'

  pub built_entry : (rs : List R) (j : ℕ) → lawful t 0 rs ≡ true
      → get_or (built f rs) j x₀ ≡ f (built f rs) (get_or rs j r₀)
  built_entry rs j h =
      let q : j ≡ 0 + j = omega arith in
      ap (λ (n : ℕ). get_or (built f rs) n x₀) q ∙ grown_entry [] rs j h

-- An entry depends on the nodes up to its own only.
module _ {R X : Type 0} (f : List X → R → X) (x₀ : X) where
  grown_append : (xs : List X) (rs qs : List R) → grown f xs (rs ++ qs) ≡ grown f (grown f xs rs) qs
  unfolding grown
  grown_append xs [] qs = refl
  grown_append xs (r ∷ rs) qs = grown_append (xs ++ (f xs r ∷ [])) rs qs

  pub built_stays : (rs qs : List R) (i : ℕ) → i < length rs → get_or (built f (rs ++ qs)) i x₀ ≡ get_or (built f rs) i x₀
  built_stays rs qs i h =
      let (ys, e) = grown_extends f (built f rs) qs in
      ap (λ (g : List X). get_or g i x₀) (grown_append [] rs qs ∙ e)
      ∙ get_or-append (built f rs) ys x₀ i (omega (arith, built_length f rs))
