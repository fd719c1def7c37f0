-- Binders above the rows of a term.
use Rattle.std.proofs.Common.{◌≡◌, ℕ, ◌+◌, ◌<◌, true, cond, ltb, List, [], length, get_or, take, None, Option, refl, ap, ◌∙◌}
use Rattle.std.proofs.lemmas.List.{get_or-take}
use Rattle.rows.specs.declared.tables.TermRow.{TermRow}
use Rattle.checker.specs.Descents.{rows_as}
use Rattle.checker.specs.RowTests.{no_row, arity, parts_placed, PartsPlaced}
use Rattle.checker.specs.Depths.{opens, deep_form, deep_row, deep_at}
use Rattle.checker.proofs.Folding.{row_at, length_before}
use Rattle.checker.proofs.Placing.{a_below, b_below, c_below, cond_when}

-- only what is said of earlier rows counts
same_form : (limit : ℕ) (f g : ℕ → ℕ → Option ℕ) (i : ℕ) (r : TermRow) (d : ℕ) → parts_placed i r ≡ true → ((p x : ℕ) → p < i → f p x ≡ g p x) → deep_form limit f i r d ≡ deep_form limit g i r d
same_form limit f g i r d good same =
    let ea = cond_when (ltb 0 (arity r.kind)) (f r.a (d + cond (opens r.kind) 1 0)) (g r.a (d + cond (opens r.kind) 1 0)) None (λ u. same r.a _ (a_below i r good u)) in
    let eb = cond_when (ltb 1 (arity r.kind)) (f r.b d) (g r.b d) None (λ u. same r.b _ (b_below i r good u)) in
    let ec = cond_when (ltb 2 (arity r.kind)) (f r.c (d + 1)) (g r.c (d + 1)) None (λ u. same r.c _ (c_below i r good u)) in
    rw (ea, eb, ec) refl

pub deep_step : (limit : ℕ) (es : List TermRow) → PartsPlaced es → (i d : ℕ) → i < length es → deep_at limit es i d ≡ deep_form limit (deep_at limit es) i (get_or es i no_row) d
deep_step limit es good i d lt =
    let all = rows_as (deep_row limit) [] es in
    ap (λ h. h d) (row_at (deep_row limit) es i (λ _. None) no_row lt)
    ∙ ap (λ n. deep_form limit (λ p. get_or (take i all) p (λ _. None)) n (get_or es i no_row) d) (length_before (deep_row limit) es i lt)
    ∙ same_form limit (λ p. get_or (take i all) p (λ _. None)) (deep_at limit es) i (get_or es i no_row) d (good i lt)
    (λ p x h. ap (λ h'. h' x) (get_or-take i all p (λ _. None) h))
