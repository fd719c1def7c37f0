-- A split of two lawful tables is lawful.
use Rattle.std.specs.Prelude.{◌≡◌, ℕ, ◌-◌, ◌≤◌, cond, Some, None, nat_le, nat_lt}
use Rattle.std.proofs.Common.{arith}
use Rattle.std.proofs.lemmas.Bool.{cond_both, lt-leb, cond-false}
use Rattle.rows.specs.Limits.{top}
use Rattle.counters.specs.Tables.{Table, Lawful}
use Rattle.counters.specs.Splits.{split_table}

pub split_lawful : (point : ℕ) (first second : Table) → Lawful first → Lawful second → Lawful (split_table point first second)
split_lawful p s t f g = record {
  amounts = λ q n. cond_both (nat_lt q p) (s q) (cond (nat_le q top) (t (q - p)) None) (λ o. o ≡ Some n → n ≤ top)
      (λ _. f.amounts q n)
      (λ _. cond_both (nat_le q top) (t (q - p)) None (λ o. o ≡ Some n → n ≤ top) (λ _. g.amounts (q - p) n) (λ _ e. let z : ◌≡◌ {A = ℕ} 0 1 = cc in omega arith));
  above = λ q big. cond_both (nat_lt q p) (s q) (cond (nat_le q top) (t (q - p)) None) (λ o. o ≡ None) (λ _. f.above q big) (λ _. cond-false (nat_le q top) _ _ (lt-leb q top big));
}
