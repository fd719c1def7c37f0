-- The type of a row by those of its parts.
use Rattle.std.proofs.Common.{◌≡◌, ℕ, ◌<◌, true, cond, ltb, List, [], ◌∷◌, length, get_or, take, Ok, ap, ◌∙◌}
use Rattle.std.proofs.lemmas.List.{get_or-take}
use Rattle.rows.specs.declared.tables.TypeRow.{TypeRow}
use Rattle.rows.specs.declared.tables.TermRow.{TermRow}
use Rattle.checker.specs.Descents.{rows_as}
use Rattle.checker.specs.RowTests.{no_row, arity, parts_placed, PartsPlaced}
use Rattle.std.specs.List.{slice_get}
use Rattle.checker.specs.Types.{Found, bound, under, joined, type_form, type_row, type_at}
use Rattle.checker.proofs.Folding.{row_at, length_before}
use Rattle.checker.proofs.Placing.{a_below, b_below, c_below, cond_when}

same_form : (ts : List TypeRow) (f g : ℕ → List ℕ → Found) (i : ℕ) (r : TermRow) (names : List ℕ) → parts_placed i r ≡ true → ((p : ℕ) (l : List ℕ) → p < i → f p l ≡ g p l) → type_form ts f i r names ≡ type_form ts g i r names
same_form ts f g i r names good same =
    let ea = cond_when (ltb 0 (arity r.kind)) (f r.a (under (bound ts r) names)) (g r.a (under (bound ts r) names)) (Ok 0) (λ u. same r.a _ (a_below i r good u)) in
    let eb = cond_when (ltb 1 (arity r.kind)) (f r.b names) (g r.b names) (Ok 0) (λ u. same r.b _ (b_below i r good u)) in
    let ec = cond_when (ltb 2 (arity r.kind)) (f r.c (0 ∷ names)) (g r.c (0 ∷ names)) (Ok 0) (λ u. same r.c _ (c_below i r good u)) in
    ap (λ x. joined ts i r (slice_get names r.number) x (cond (ltb 1 (arity r.kind)) (f r.b names) (Ok 0)) (cond (ltb 2 (arity r.kind)) (f r.c (0 ∷ names)) (Ok 0))) ea
    ∙ ap (λ y. joined ts i r (slice_get names r.number) (cond (ltb 0 (arity r.kind)) (g r.a (under (bound ts r) names)) (Ok 0)) y (cond (ltb 2 (arity r.kind)) (f r.c (0 ∷ names)) (Ok 0))) eb
    ∙ ap (λ z. joined ts i r (slice_get names r.number) (cond (ltb 0 (arity r.kind)) (g r.a (under (bound ts r) names)) (Ok 0)) (cond (ltb 1 (arity r.kind)) (g r.b names) (Ok 0)) z) ec

pub type_step : (ts : List TypeRow) (es : List TermRow) → PartsPlaced es → (i : ℕ) (names : List ℕ) → i < length es → type_at ts es i names ≡ type_form ts (type_at ts es) i (get_or es i no_row) names
type_step ts es good i names lt =
    let all = rows_as (type_row ts) [] es in
    ap (λ h. h names) (row_at (type_row ts) es i (λ _. Ok 0) no_row lt)
    ∙ ap (λ n. type_form ts (λ p. get_or (take i all) p (λ _. Ok 0)) n (get_or es i no_row) names) (length_before (type_row ts) es i lt)
    ∙ same_form ts (λ p. get_or (take i all) p (λ _. Ok 0)) (type_at ts es) i (get_or es i no_row) names (good i lt)
    (λ p l h. ap (λ h'. h' l) (get_or-take i all p (λ _. Ok 0) h))
