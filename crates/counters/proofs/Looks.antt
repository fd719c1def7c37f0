-- How many looks a search by halves takes at most: as many as what is left has binary digits.
use Rattle.std.proofs.Common.{◌≡◌, ℕ, zero, suc, ◌*◌, ◌/◌, ◌^◌, ◌<◌, ◌≤◌, cond, ltb, ⊎_elim, pow-suc, arith}
use Rattle.std.proofs.lemmas.Bool.{le-ltb, lt-ltb, cases_lt, cond-true, cond-false}

-- How many binary digits n has, k at most.
unfoldable pub digits : ℕ → ℕ → ℕ
digits zero n = 0
digits (suc k) n = cond (ltb 0 n) (suc (digits k (n / 2))) 0

none : (k n : ℕ) → n ≤ 0 → digits (suc k) n ≡ 0
unfolding digits
none k n h = cond-false (ltb 0 n) _ _ (le-ltb 0 n h)

some : (k n : ℕ) → 0 < n → digits (suc k) n ≡ suc (digits k (n / 2))
unfolding digits
some k n h = cond-true (ltb 0 n) _ _ (lt-ltb 0 n h)

half : (k n : ℕ) → n < 2 ^ suc k → n / 2 < 2 ^ k
half k n h = let e : 2 ^ suc k ≡ 2 ^ k * 2 = pow-suc 2 k in omega arith

within : (k m n : ℕ) → m ≤ n → n < 2 ^ k → digits (suc k) m ≤ digits k n
within zero m n le lt = omega (arith, none 0 m (omega arith))
within (suc k) m n le lt =
    ⊎_elim
    (λ (p : 0 < m). omega (arith, some (suc k) m p, some k n (omega arith), within k (m / 2) (n / 2) (omega arith) (half k n lt)))
    (λ (p : m ≤ 0). omega (arith, none (suc k) m p))
    (cases_lt 0 m)

-- Half of what is left has a digit less.
pub fewer : (k m n : ℕ) → 0 < n → m ≤ n / 2 → n < 2 ^ k → digits k m < digits k n
fewer zero m n pos le lt = absurd (omega arith)
fewer (suc k) m n pos le lt = omega (arith, some k n pos, within k m (n / 2) le (half k n lt))
