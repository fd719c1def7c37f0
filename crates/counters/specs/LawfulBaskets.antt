-- Lines that are not refused have a lawful table.
use Rattle.std.specs.Prelude.{◌≡◌, ℕ, ◌+◌, ◌*◌, ◌<◌, ◌≤◌, true, false, cond, ltb, List, [], ◌∷◌, length, is_some, Some, None, sum_by, count_by, nat_le, nat_lt, refl}
use Rattle.std.proofs.Common.{◌∙◌, ⊎_elim, arith}
use Rattle.std.specs.List.{AllByRecursion}
use Rattle.std.proofs.lemmas.List.Sums.{sum_by-cons}
use Rattle.std.proofs.ByRecursion.{sum_by_le}
use Rattle.std.proofs.lemmas.Bool.{leb-true, ltb-false, ne_eqb, cases_Bool, and_parts, both_ways, cond_both}
use Rattle.rows.specs.Limits.{top}
use Rattle.counters.specs.declared.line.Line.{Line}
use Rattle.counters.specs.Limits.{most_lines, largest_field}
use Rattle.counters.specs.Tables.{Lawful}
use Rattle.counters.specs.Baskets.{is_of, adds, is_small, first_large, basket_outcome, basket_table}

-- Both fields of a line are at most 9,999.
abbrev pub Small : Line → Type 0
Small line = (line.article ≤ largest_field) × (line.quantity ≤ largest_field)

all_small : (lines : List Line) (i : ℕ) → is_some (first_large lines i) ≡ false → AllByRecursion Small lines
all_small [] i h = tt
all_small (l ∷ ls) i h =
    ⊎_elim
    (λ (e : is_small l ≡ true).
    let p = and_parts (nat_le l.article largest_field) (nat_le l.quantity largest_field) e in
    ((leb-true _ _ p.0, leb-true _ _ p.1), all_small ls (i + 1) (rw e at h)))
    (λ (e : is_small l ≡ false). absurd (both_ways true (rw e at h) refl))
    (cases_Bool (is_small l))

-- Lines that are not refused are few and small.
pub few_small : (lines : List Line) → is_some (basket_outcome lines) ≡ false → (length lines ≤ most_lines) × AllByRecursion Small lines
few_small ls h =
    ⊎_elim
    (λ (e : ltb most_lines (length ls) ≡ true). absurd (both_ways true (rw e at h) refl))
    (λ (e : ltb most_lines (length ls) ≡ false). (ltb-false most_lines (length ls) e, all_small ls 0 (rw e at h)))
    (cases_Bool (nat_lt most_lines (length ls)))

adds_small : (article : ℕ) (lines : List Line) → AllByRecursion Small lines → AllByRecursion (λ line. adds article line ≤ largest_field) lines
adds_small q [] h = tt
adds_small q (l ∷ ls) h =
    (cond_both (is_of q l) l.quantity 0 (λ n. n ≤ largest_field) (λ _. h.0.1) (λ _. omega arith), adds_small q ls h.1)

pub sum_small : (article : ℕ) (lines : List Line) → AllByRecursion Small lines → sum_by (adds article) lines ≤ length lines * largest_field
sum_small q ls h = sum_by_le (adds q) largest_field ls (adds_small q ls h)

none_above : (article : ℕ) (lines : List Line) → largest_field < article → AllByRecursion Small lines → count_by (is_of article) lines ≡ 0
none_above q [] big h = refl
none_above q (l ∷ ls) big h =
    let e : is_of q l ≡ false = ne_eqb l.article q (λ same. omega (arith, h.0.0)) in
    sum_by-cons (λ x. cond (is_of q x) 1 0) l ls ∙ rw e (omega (arith, none_above q ls big h.1))

pub basket_lawful : (lines : List Line) → is_some (basket_outcome lines) ≡ false → Lawful (basket_table lines)
basket_lawful ls h =
    let f = few_small ls h in
    record {
      amounts = λ q n. cond_both (nat_lt 0 (count_by (is_of q) ls)) (Some (sum_by (adds q) ls)) None (λ o. o ≡ Some n → n ≤ top)
          (λ _ e. let s : sum_by (adds q) ls ≡ n = cc in omega (arith, sum_small q ls f.1, f.0, s))
          (λ _ e. let z : ◌≡◌ {A = ℕ} 0 1 = cc in omega arith);
      above = λ q big. rw (none_above q ls (omega arith) f.1) refl;
    }
