-- The parts of a row are earlier rows.
use Rattle.std.proofs.Common.{◌≡◌, ℕ, ◌<◌, Bool, true, false, cond, ◌&&◌, ltb, sym, refl, arith}
use Rattle.std.proofs.lemmas.Bool.{and_parts, ltb-true}
use Rattle.rows.specs.declared.tables.TermRow.{TermRow}
use Rattle.checker.specs.RowTests.{arity, placed, parts_placed}

placed_below : (used : Bool) (x n : ℕ) → placed used x n ≡ true → used ≡ true → x < n
placed_below true x n e u = ltb-true x n e
placed_below false x n e u = absurd (let z : true ≡ false = sym u in omega (arith, cc_false z))
  where
    cc_false : true ≡ false → ◌≡◌ {A = ℕ} 0 1
    cc_false z = cc

module _ (i : ℕ) (r : TermRow) (good : parts_placed i r ≡ true) where
  first : placed (ltb 0 (arity r.kind)) r.a i ≡ true
  first = (and_parts (placed (ltb 0 (arity r.kind)) r.a i) (placed (ltb 1 (arity r.kind)) r.b i && placed (ltb 2 (arity r.kind)) r.c i) good).0

  others : (placed (ltb 1 (arity r.kind)) r.b i ≡ true) × (placed (ltb 2 (arity r.kind)) r.c i ≡ true)
  others = and_parts (placed (ltb 1 (arity r.kind)) r.b i) (placed (ltb 2 (arity r.kind)) r.c i)
      (and_parts (placed (ltb 0 (arity r.kind)) r.a i) (placed (ltb 1 (arity r.kind)) r.b i && placed (ltb 2 (arity r.kind)) r.c i) good).1

  pub a_below : ltb 0 (arity r.kind) ≡ true → r.a < i
  a_below u = placed_below (ltb 0 (arity r.kind)) r.a i first u

  pub b_below : ltb 1 (arity r.kind) ≡ true → r.b < i
  b_below u = placed_below (ltb 1 (arity r.kind)) r.b i others.0 u

  pub c_below : ltb 2 (arity r.kind) ≡ true → r.c < i
  c_below u = placed_below (ltb 2 (arity r.kind)) r.c i others.1 u

-- two values of a cond that agree where its test holds
pub cond_when : {A : Type 0} (b : Bool) (x x' y : A) → (b ≡ true → x ≡ x') → cond b x y ≡ cond b x' y
cond_when true x x' y h = h refl
cond_when false x x' y h = refl
