-- How many brackets are open at once in the text of two tables: a row is nested in later rows only.
use Rattle.std.proofs.Common.{◌≡◌, ℕ, zero, suc, ◌+◌, ◌-◌, ◌<◌, ◌≤◌, Bool, true, false, cond, eqb, List, [], ◌∷◌, map, length, get_or, refl, ap, ◌∙◌, ⊎_elim, arith}
use mathlib.Core.List.{map-map}
use Rattle.std.proofs.str.Laws.{order}
use Rattle.std.proofs.lemmas.Bool.{cases_eq, eq-eqb, ne_eqb}
use Rattle.std.proofs.lemmas.List.{length-map}
use Rattle.rows.specs.declared.forms.Shape.TheVariants.{To, Both}
use Rattle.rows.specs.declared.tables.TermRow.{TermRow}
use Rattle.rows.specs.Forms.{form_at}
use Rattle.rows.specs.Rows.{nat_row, leaf_row}
use Rattle.theory.specs.Syntax.{nat, num, name}
use Rattle.theory.specs.Folds.{shaped, most}
use Rattle.theory.specs.Emit.{Tables}
use Rattle.theory.specs.Stands.{term_at}
use Rattle.theory.specs.Laws.{Below, parts_of, Lawful}
use Rattle.theory.specs.Induction.{fold_shaped, fold_built}
use Rattle.theory.specs.Theorems.{type_at, types_of, Unfolds}
use Rattle.grammar.specs.TermTokens.{type_depths, depth_type, term_depths, depth}
use Rattle.text.specs.Trips.{OpensEnough}

-- the greatest of some numbers is at most what each of them is at most
most_at_most : (f : ℕ → ℕ) (p n : ℕ) (ys : List ℕ) → Below p ys → ((q : ℕ) → q < p → f q ≤ n) → most (map f ys) ≤ n
most_at_most f p n [] b h = omega arith
most_at_most f p n (y ∷ ys) b h = let k = h y b.0 in let m = most_at_most f p n ys b.1 h in omega arith

module _ (s : Tables) (l : Lawful s) (u : Unfolds s) where
  type_depth : (m p : ℕ) → p < m → p < length s.0 → depth_type (type_at s.0 p) ≤ p
  type_depth zero p h lt = absurd (omega arith)
  type_depth (suc m) p h lt =
      let r = get_or s.0 p nat_row in
      let v = u.type p nat_row lt in
      let left = type_at s.0 r.left in
      let right = type_at s.0 r.right in
      ⊎_elim
      (λ (z : r.kind ≡ 0). let e = ap depth_type (v.stands ∙ ap (λ t. cond t nat (shaped (cond (eqb r.kind 1) To Both) left right)) (eq-eqb r.kind 0 z)) in omega arith)
      (λ (ne : r.kind ≡ 0 → ⊥).
      let e = ap depth_type (v.stands ∙ ap (λ t. cond t nat (shaped (cond (eqb r.kind 1) To Both) left right)) (ne_eqb r.kind 0 ne)) ∙ fold_shaped type_depths (cond (eqb r.kind 1) To Both) left right in
      let b = v.earlier ne in
      let a = type_depth m r.left (omega (arith, b.0)) (omega (arith, b.0)) in
      let c = type_depth m r.right (omega (arith, b.1)) (omega (arith, b.1)) in
      omega (arith, b.0, b.1))
      (cases_eq r.kind 0)

  leaf_depth : (b : Bool) (n : ℕ) → depth (cond b (num n) (name n)) ≡ 0
  leaf_depth true n = refl
  leaf_depth false n = refl

  abbrev no_row : TermRow
  no_row = leaf_row 0 0

  term_depth : (m p : ℕ) → p < m → p < length s.1 → depth (term_at s p) ≤ p + length s.0
  term_depth zero p h lt = absurd (omega arith)
  term_depth (suc m) p h lt =
      let r = get_or s.1 p no_row in
      ⊎_elim
      (λ k. let e = ap depth (u.leaf p no_row lt k).stands ∙ leaf_depth (eqb r.kind 0) r.number in omega arith)
      (λ k.
      let v = u.form p no_row lt k in
      let Ts = map (type_at s.0) (types_of r) in
      let es = map (term_at s) (parts_of r) in
      let a = length-map (types_of r) (type_at s.0) ∙ v.all_types in
      let b = length-map (parts_of r) (term_at s) ∙ v.all_parts in
      let e = ap depth v.stands ∙ fold_built term_depths (form_at r.kind) Ts es a b in
      let some = l.type_count.0 in
      let ts = ap most (map-map depth_type (type_at s.0) (types_of r)) in
      let ps = ap most (map-map depth (term_at s) (parts_of r)) in
      let t = most_at_most (λ q. depth_type (type_at s.0 q)) (length s.0) (length s.0 - 1) (types_of r) v.types_below (λ q j. let d = type_depth (suc q) q (omega arith) j in omega arith) in
      let w = most_at_most (λ q. depth (term_at s q)) p (p + length s.0 - 1) (parts_of r) v.parts_below (λ q j. let d = term_depth m q (omega arith) (omega arith) in omega arith) in
      omega arith)
      (order r.kind 2)

  pub shallow : OpensEnough s
  shallow = let some = l.term_count.0 in let d = term_depth (length s.1) (length s.1 - 1) (omega arith) (omega arith) in omega arith
