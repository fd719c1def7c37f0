-- What a term with no row under too many binders gives of its parts.
use Rattle.std.proofs.Common.{◌≡◌, ℕ, ◌<◌, ◌≤◌, Bool, true, false, cond, ◌||◌, eqb, ltb, List, length, is_some, Some, None, Option, sym, refl, ◌∙◌, arith}
use Rattle.std.proofs.lemmas.Bool.{ltb-false}
use Rattle.rows.specs.declared.tables.TypeRow.{TypeRow}
use Rattle.rows.specs.declared.tables.TermRow.{TermRow}
use Rattle.checker.specs.Lowest.{first_of, lower}
use Rattle.checker.specs.RowTests.{PartsPlaced}
use Rattle.checker.specs.Depths.{opens, deep_at}
use Rattle.checker.specs.Types.{bound}
use Rattle.checker.proofs.Deeps.{deep_step}

pub some_none : {A : Type 0} (x : A) → Some x ≡ None → ⊥
some_none x e = let z : ◌≡◌ {A = ℕ} 0 1 = cc in omega arith

pub some_same : {A : Type 0} {x y : A} → ◌≡◌ {A = Option A} (Some x) (Some y) → x ≡ y
some_same e = cc

pub first_none : {A : Type 0} (x y : Option A) → first_of x y ≡ None → (x ≡ None) × (y ≡ None)
first_none None y e = (refl, e)
first_none (Some x) y e = absurd (some_none x e)

pub lower_none : (x y : Option ℕ) → lower x y ≡ None → (x ≡ None) × (y ≡ None)
lower_none None y e = (refl, e)
lower_none (Some i) None e = absurd (some_none i e)
lower_none (Some i) (Some j) e = absurd (some_none _ e)

pub own_none : {A : Type 0} (b : Bool) (i : A) → cond b (Some i) None ≡ None → b ≡ false
own_none true i e = absurd (some_none i e)
own_none false i e = refl

-- where no row of a term is too deep, its own row is not
pub shallow : (limit : ℕ) (es : List TermRow) → PartsPlaced es → (i d : ℕ) → i < length es → deep_at limit es i d ≡ None → d ≤ limit
shallow limit es good i d lt none =
    ltb-false limit d (own_none (ltb limit d) i (first_none _ (cond (ltb limit d) (Some i) None) (sym (deep_step limit es good i d lt) ∙ none)).1)

-- the first part is under a name where its form opens one
pub opens_bound : (ts : List TypeRow) (r : TermRow) → ◌≡◌ {A = ℕ} (cond (is_some (bound ts r)) 1 0) (cond (opens r.kind) 1 0)
opens_bound ts r = go (eqb r.kind 4) (eqb r.kind 6) _ r.ty
  where
    go : (x y : Bool) (t u : ℕ) → ◌≡◌ {A = ℕ} (cond (is_some (cond x (Some t) (cond y (Some u) None))) 1 0) (cond (x || y) 1 0)
    go true y t u = refl
    go false true t u = refl
    go false false t u = refl
