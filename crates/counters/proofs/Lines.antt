-- What chains over lines find of their refusal and of their table.
use Rattle.std.proofs.Common.{◌≡◌, ℕ, ◌+◌, ◌^◌, ◌<◌, false, not, cond, List, [], ◌∷◌, map, filter, is_some, sum_by, option_map, sym, refl, ap, ◌∙◌, arith}
use Rattle.std.specs.List.{position, position_from, reduce}
use Rattle.std.proofs.lemmas.Iterator.Adapters.{position_from-zero}
use Rattle.std.proofs.lemmas.List.Sums.{sum_by-cons, sum_by_from}
use Rattle.std.proofs.lemmas.Bool.Decides.{nat_tests}
use Rattle.counters.specs.declared.line.Line.{Line}
use Rattle.counters.specs.Baskets.{is_of, adds, is_small, first_large, basket_outcome, basket_table}
use Rattle.counters.specs.LawfulBaskets.{few_small, sum_small}

-- The first large line is at fault.
fault_from : (lines : List Line) (i : ℕ) → first_large lines i ≡ option_map (λ place. (32, place)) (position_from (λ line. not (is_small line)) i lines)
fault_from [] i = refl
fault_from (l ∷ ls) i = grind (arith, fault_from ls (i + 1))

pub fault_at : (lines : List Line) → first_large lines 0 ≡ option_map (λ place. (32, place)) (position (λ line. not (is_small line)) lines)
fault_at ls = fault_from ls 0 ∙ ap (option_map (λ place. (32, place))) (sym (position_from-zero (λ line. not (is_small line)) ls))

-- The quantities of an article's lines.
abbrev pub quantities : ℕ → List Line → List ℕ
quantities q lines = map (λ line. line.quantity) (filter (is_of q) lines)

pub sum_is : (q : ℕ) (lines : List Line) → sum_by (λ n. n) (quantities q lines) ≡ sum_by (adds q) lines
sum_is q [] = refl
sum_is q (l ∷ ls) = grind (arith, sum_by-cons (adds q) l ls, sum_by-cons (λ n. n) l.quantity (quantities q ls), sum_is q ls)

-- The table adds up the quantities of an article's lines, where there are any.
pub table_is : (q : ℕ) (lines : List Line) → reduce (λ a b. a + b) (quantities q lines) ≡ basket_table lines q
table_is q [] = refl
table_is q (l ∷ ls) =
    grind (arith, nat_tests, sum_by-cons (adds q) l ls, sum_by-cons (λ x. cond (is_of q x) 1 0) l ls, sum_by_from (λ n. n) l.quantity (quantities q ls), sum_is q ls, table_is q ls)

-- They add up to a 32-bit number.
pub sum_fits : (q : ℕ) (lines : List Line) → is_some (basket_outcome lines) ≡ false → sum_by (λ n. n) (quantities q lines) < 2 ^ 32
sum_fits q ls h =
    let lawful = few_small ls h in
    omega (arith, sum_is q ls, sum_small q ls lawful.1, lawful.0)
