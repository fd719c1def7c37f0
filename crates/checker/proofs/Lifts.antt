-- As many sight rows as term rows are enough.
use Rattle.std.proofs.Common.{◌≡◌, ℕ, zero, suc, ◌+◌, ◌-◌, ◌<◌, ◌≤◌, Bool, true, false, cond, ltb, List, length, get_or, Some, None, Option, refl, ap, ◌∙◌, arith}
use Rattle.std.proofs.lemmas.Bool.{le-ltb}
use Rattle.rows.specs.declared.tables.TermRow.{TermRow}
use Rattle.theory.specs.Emit.{Tables}
use Rattle.checker.specs.Lowest.{first_of, lower}
use Rattle.checker.specs.RowTests.{no_row, arity, PartsPlaced}
use Rattle.checker.specs.Depths.{opens, deep_at}
use Rattle.checker.proofs.Counts.{one_small}
use Rattle.checker.proofs.Deeps.{deep_step}
use Rattle.checker.proofs.Placing.{a_below, b_below, c_below}
use Rattle.checker.proofs.Sheets.{Kept, kept_placed}

none_made : (x y z own : Option ℕ) → x ≡ None → y ≡ None → z ≡ None → own ≡ None → first_of (lower x (lower y z)) own ≡ None
none_made x y z own a b c d = rw (a, b, c, d) refl

none_where : {A : Type 0} (b : Bool) (o : Option A) → (b ≡ true → o ≡ None) → cond b o None ≡ None
none_where true o h = h refl
none_where false o h = refl

-- each binder above a row is a later row, so that as many sight rows as term rows are enough
never_deep : (limit : ℕ) (es : List TermRow) → PartsPlaced es → (m p d : ℕ) → p < m → p < length es → d + p ≤ limit → deep_at limit es p d ≡ None
never_deep limit es good zero p d h lt le = absurd (omega arith)
never_deep limit es good (suc m) p d h lt le =
    let r = get_or es p no_row in
    let o = one_small (opens r.kind) in
    deep_step limit es good p d lt
    ∙ none_made _ _ _ _
    (none_where (ltb 0 (arity r.kind)) (deep_at limit es r.a (d + cond (opens r.kind) 1 0)) (λ u. let b = a_below p r (good p lt) u in never_deep limit es good m r.a (d + cond (opens r.kind) 1 0) (omega arith) (omega arith) (omega arith)))
    (none_where (ltb 1 (arity r.kind)) (deep_at limit es r.b d) (λ u. let b = b_below p r (good p lt) u in never_deep limit es good m r.b d (omega arith) (omega arith) (omega arith)))
    (none_where (ltb 2 (arity r.kind)) (deep_at limit es r.c (d + 1)) (λ u. let b = c_below p r (good p lt) u in never_deep limit es good m r.c (d + 1) (omega arith) (omega arith) (omega arith)))
    (ap (λ b. cond b (Some p) None) (le-ltb limit d (omega arith)))

pub enough : (s : Tables) (sight : ℕ) → Kept s → length s.1 ≤ sight → deep_at sight s.1 (length s.1 - 1) 0 ≡ None
enough s sight k h =
    let some = k.some_terms in
    never_deep sight s.1 (kept_placed s k) (length s.1) (length s.1 - 1) 0 (omega arith) (omega arith) (omega arith)
