-- What a row means, by what all rows mean.
use Rattle.std.proofs.Common.{◌≡◌, ℕ, zero, suc, ◌+◌, ◌<◌, ◌≤◌, List, [], ◌∷◌, ◌++◌, length, get_or, take, sym, refl, ap, ◌∙◌, zero-add, arith}
use Rattle.std.proofs.lemmas.List.{length_push, get_or-take, get_or_push, take-take, take_at, length-take-le}
use Rattle.checker.specs.Descents.{rows_as}

module _ {R X : Type 0} (f : List X → R → X) where
  pub length_rows : (done : List X) (rs : List R) → length (rows_as f done rs) ≡ length done + length rs
  length_rows done [] = omega arith
  length_rows done (r ∷ rs) = omega (arith, length_rows (done ++ f done r ∷ []) rs, length_push done (f done r))

  front_rows : (done : List X) (rs : List R) → take (length done) (rows_as f done rs) ≡ done
  front_rows done [] = take_all_of done
    where
      take_all_of : (xs : List X) → take (length xs) xs ≡ xs
      take_all_of [] = refl
      take_all_of (x ∷ xs) = ap (λ ys. x ∷ ys) (take_all_of xs)
  front_rows done (r ∷ rs) =
      let next = done ++ f done r ∷ [] in
      let whole = rows_as f next rs in
      let le : length done ≤ length next = omega (arith, length_push done (f done r)) in
      sym (take-take (length done) (length next) whole le)
      ∙ ap (take (length done)) (front_rows next rs)
      ∙ take_at done (f done r ∷ []) (length done) refl

  at : (done : List X) (rs : List R) (i n : ℕ) (d : X) (e : R) → n ≡ length done + i → i < length rs → get_or (rows_as f done rs) n d ≡ f (take n (rows_as f done rs)) (get_or rs i e)
  at done [] i n d e same h = absurd (omega arith)
  at done (r ∷ rs) zero n d e same h =
      let next = done ++ f done r ∷ [] in
      let whole = rows_as f next rs in
      let long = length_push done (f done r) in
      let here : length done ≡ n = omega arith in
      let lt : n < length next = omega (arith, long) in
      let le : n ≤ length next = omega (arith, long) in
      sym (get_or-take (length next) whole n d lt)
      ∙ ap (λ xs. get_or xs n d) (front_rows next rs)
      ∙ get_or_push done (f done r) d n here
      ∙ ap (λ xs. f xs r) (sym (sym (take-take n (length next) whole le) ∙ ap (take n) (front_rows next rs) ∙ take_at done (f done r ∷ []) n here))
  at done (r ∷ rs) (suc i) n d e same h =
      at (done ++ f done r ∷ []) rs i n d e (omega (arith, length_push done (f done r))) (omega arith)

  pub row_at : (rs : List R) (i : ℕ) (d : X) (e : R) → i < length rs → get_or (rows_as f [] rs) i d ≡ f (take i (rows_as f [] rs)) (get_or rs i e)
  row_at rs i d e h = at [] rs i i d e (sym (zero-add i)) h

  pub length_before : (rs : List R) (i : ℕ) → i < length rs → length (take i (rows_as f [] rs)) ≡ i
  length_before rs i h = length-take-le i (rows_as f [] rs) (omega (arith, length_rows [] rs, zero-add (length rs)))
