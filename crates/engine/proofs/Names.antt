-- Looking names up, turn by turn.
use Rattle.std.proofs.Common.{◌≡◌, ℕ, zero, suc, ◌+◌, ◌-◌, ◌<◌, ◌≤◌, List, refl, ap, ◌∙◌, arith}
use Rattle.engine.specs.declared.state.Cell.{Cell}
use Rattle.engine.specs.Stores.{nearest_in, find_in}

-- after i turns of n, one more
pub find_on : (cs : List Cell) (e n i : ℕ) → i < n → find_in cs (nearest_in cs e).1 (n - (i + 1)) ≡ find_in cs e (n - i)
unfolding find_in
find_on cs e n i h =
    ap (find_in cs (nearest_in cs e).1) (let q : n - (i + 1) ≡ n - i - 1 = omega arith in q) ∙ by (n - i) (omega arith)
  where
    by : (d : ℕ) → 0 < d → find_in cs (nearest_in cs e).1 (d - 1) ≡ find_in cs e d
    by zero k = absurd (omega arith)
    by (suc d) k = let q : suc d - 1 ≡ d = omega arith in ap (find_in cs (nearest_in cs e).1) q

-- after all of them
pub find_here : (cs : List Cell) (e d : ℕ) → d ≤ 0 → (nearest_in cs e).0 ≡ find_in cs e d
unfolding find_in
find_here cs e zero h = refl
find_here cs e (suc d) h = absurd (omega arith)
