-- The place of a row, as the search of a list finds it. Assumes nothing.
use Rattle.std.proofs.Common.{◌≡◌, ◌≤◌, ℕ, suc, Bool, true, false, cond, List, [], ◌∷◌, length, Some, None, refl, sym, ap, ◌∙◌, arith, ltb, lt-ltb, le-ltb, inl, inr}
use Rattle.std.specs.List.{position_or_len}
use Rattle.std.specs.Option.{unwrap_or}
use Rattle.std.proofs.Math.Nat.{eq-or-lt_of_le}
use Rattle.std.proofs.lemmas.List.Recursion.{is_position_or_len}
use Rattle.rows.specs.declared.tables.TypeRow.{TypeRow}
use Rattle.rows.specs.Rows.{row_place, row_alike}

pub first_equal : (r : TypeRow) (rs : List TypeRow) → row_place r rs ≡ position_or_len (row_alike r) rs
first_equal r rs = is_position_or_len (row_place r) (row_alike r) refl (λ q qs. ap (cond (row_alike r q) 0) (omega arith)) rs

least : {m n : ℕ} (b : Bool) → m ≤ n → cond b 0 (suc m) ≤ suc n
least true le = omega arith
least false le = omega arith

pub place_within : (r : TypeRow) (rs : List TypeRow) → row_place r rs ≤ length rs
place_within r [] = omega arith
place_within r (q ∷ qs) = least (row_alike r q) (place_within r qs)

-- a number that is at most n, where one below n is kept and n is n
pub found_or : (i n : ℕ) → i ≤ n → unwrap_or (cond (ltb i n) (Some i) None) n ≡ i
found_or i n le =
    elim (eq-or-lt_of_le le) [
      | inl same ↦ ap (λ b. unwrap_or (cond b (Some i) None) n) (le-ltb _ _ (omega arith)) ∙ sym same
      | inr lt ↦ ap (λ b. unwrap_or (cond b (Some i) None) n) (lt-ltb _ _ lt)
    ]
