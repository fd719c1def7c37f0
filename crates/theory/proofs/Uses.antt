-- Every row of a term but the last is a part exactly once.
use Rattle.std.proofs.Common.{◌≡◌, ℕ, suc, ◌+◌, ◌<◌, ◌≤◌, Bool, true, false, cond, eqb, ltb, List, [], ◌∷◌, ◌++◌, map, length, sym, refl, ap, ◌∙◌, subst, ⊎_elim, arith, eq-eqb, ne_eqb}
use Rattle.std.proofs.str.Laws.{order}
use Rattle.std.proofs.lemmas.List.{length_push, length-map}
use Rattle.theory.specs.Syntax.{Ty, Term}
use Rattle.rows.specs.declared.forms.Form.{Form}
use Rattle.rows.specs.declared.forms.Form.TheVariants.{Succ, Ifz, Lam, Ap, Fix, Pair, Fst, Snd, Add, Sub, Mul, Get, Fail, Catch}
use Rattle.rows.specs.declared.tables.TypeRow.{TypeRow}
use Rattle.rows.specs.declared.tables.TermRow.{TermRow}
use Rattle.rows.specs.Forms.{parts, shape_kind}
use Rattle.rows.specs.Rows.{type_row, leaf_row, form_row, row_place}
use Rattle.theory.specs.Lists.{All}
use Rattle.theory.specs.Emit.{Tables, Emits, add_type, add_term, emit_all, type_emits, emit_type, term_emits, emit, empty, rows_of}
use Rattle.theory.specs.Laws.{parts_of, times, uses}
use Rattle.theory.specs.Induction.{by_shapes, fold_shaped, by_forms, fold_built, none, just, couple, triple}

uses_push : (p : ℕ) (rs : List TermRow) (r : TermRow) → uses p (rs ++ r ∷ []) ≡ uses p rs + times p (parts_of r)
uses_push p [] r = omega arith
uses_push p (q ∷ rs) r = let h = uses_push p rs r in omega arith

pub parts_row : (f : Form) (xs ys : List ℕ) → length ys ≡ parts f → parts_of (form_row f xs ys) ≡ ys
parts_row Succ xs ys h = just 0 ys h
parts_row Ifz xs ys h = triple 0 ys h
parts_row Lam xs ys h = just 0 ys h
parts_row Ap xs ys h = couple 0 ys h
parts_row Fix xs ys h = just 0 ys h
parts_row Pair xs ys h = couple 0 ys h
parts_row Fst xs ys h = just 0 ys h
parts_row Snd xs ys h = just 0 ys h
parts_row Add xs ys h = couple 0 ys h
parts_row Sub xs ys h = couple 0 ys h
parts_row Mul xs ys h = couple 0 ys h
parts_row Get xs ys h = just 0 ys h
parts_row Fail xs ys h = none ys h
parts_row Catch xs ys h = couple 0 ys h

pub hit : (p y : ℕ) → p ≡ y → ◌≡◌ {A = ℕ} (cond (eqb p y) 1 0) 1
hit p y e = ap (λ (t : Bool). cond {A = ℕ} t 1 0) (eq-eqb p y e)

pub miss : (p y : ℕ) → (p ≡ y → ⊥) → ◌≡◌ {A = ℕ} (cond (eqb p y) 1 0) 0
miss p y e = ap (λ (t : Bool). cond {A = ℕ} t 1 0) (ne_eqb p y e)

-- a term laid: the places before its own are used once more each
pub record Once (l : Emits) : Type 0 where
  pub last : (s : Tables) → suc (l s).1 ≡ length (l s).0.1
  pub grows : (s : Tables) → length s.1 < length (l s).0.1
  pub inside : (s : Tables) (p : ℕ) → length s.1 ≤ p → suc p < length (l s).0.1 → uses p (l s).0.1 ≡ uses p s.1 + 1
  pub below : (s : Tables) (p : ℕ) → p < length s.1 → uses p (l s).0.1 ≡ uses p s.1
  pub above : (s : Tables) (p : ℕ) → length (l s).0.1 ≤ suc p → uses p (l s).0.1 ≡ uses p s.1

-- terms laid: with their own places counted, so are all
pub record Onces (l : Tables → Tables × List ℕ) : Type 0 where
  pub grows : (s : Tables) → length s.1 ≤ length (l s).0.1
  pub inside : (s : Tables) (p : ℕ) → length s.1 ≤ p → p < length (l s).0.1 → uses p (l s).0.1 + times p (l s).1 ≡ uses p s.1 + 1
  pub below : (s : Tables) (p : ℕ) → p < length s.1 → uses p (l s).0.1 + times p (l s).1 ≡ uses p s.1
  pub above : (s : Tables) (p : ℕ) → length (l s).0.1 ≤ p → uses p (l s).0.1 + times p (l s).1 ≡ uses p s.1

onces : (es : List Term) → All (λ e. Once (emit e)) es → Onces (emit_all (map emit es))
onces [] h = record { grows = λ s. omega arith; inside = λ s p a b. absurd (omega arith); below = λ s p a. omega arith; above = λ s p a. omega arith }
onces (e ∷ es) h = with h.0 (onces es h.1)
  where
    with : Once (emit e) → Onces (emit_all (map emit es)) → Onces (emit_all (map emit (e ∷ es)))
    with o r = record {
      grows = λ s. let a = o.grows s in let b = r.grows (emit e s).0 in omega arith;
      inside = λ s p a b.
          let l = o.last s in
          let g = o.grows s in
          ⊎_elim
          (λ before.
          let q = r.below (emit e s).0 p before in
          ⊎_elim
          (λ deep. let i = o.inside s p a deep in let z = miss p (emit e s).1 (λ x. omega arith) in omega arith)
          (λ top. let i = o.above s p top in let z = hit p (emit e s).1 (omega arith) in omega arith)
          (order (suc p) (length (emit e s).0.1)))
          (λ later. let q = r.inside (emit e s).0 p later b in let i = o.above s p (omega arith) in let z = miss p (emit e s).1 (λ x. omega arith) in omega arith)
          (order p (length (emit e s).0.1));
      below = λ s p a.
          let l = o.last s in
          let g = o.grows s in
          let i = o.below s p a in
          let q = r.below (emit e s).0 p (omega arith) in
          let z = miss p (emit e s).1 (λ x. omega arith) in
          omega arith;
      above = λ s p a.
          let l = o.last s in
          let g = r.grows (emit e s).0 in
          let i = o.above s p (omega arith) in
          let q = r.above (emit e s).0 p a in
          let z = miss p (emit e s).1 (λ x. omega arith) in
          omega arith;
    }

-- types leave the terms as they are
lay_type_terms : (r : TypeRow) (s : Tables) → (add_type r s).0.1 ≡ s.1
lay_type_terms r s = go (ltb (row_place r s.0) (length s.0))
  where
    go : (t : Bool) → (cond {A = Tables × ℕ} t (s, row_place r s.0) ((s.0 ++ r ∷ [], s.1), length s.0)).0.1 ≡ s.1
    go true = refl
    go false = refl

type_terms : (T : Ty) (s : Tables) → (emit_type T s).0.1 ≡ s.1
type_terms = by_shapes (λ T. (s : Tables) → (emit_type T s).0.1 ≡ s.1) (λ s. refl)
    (λ k T U a b.
    subst (λ l. (s : Tables) → (l s).0.1 ≡ s.1) (sym (fold_shaped type_emits k T U))
    (λ s. lay_type_terms (type_row (shape_kind k) (emit_type T s).1 (emit_type U (emit_type T s).0).1) (emit_type U (emit_type T s).0).0 ∙ b (emit_type T s).0 ∙ a s))

pub types_terms : (Ts : List Ty) (s : Tables) → (emit_all (map emit_type Ts) s).0.1 ≡ s.1
types_terms [] s = refl
types_terms (T ∷ Ts) s = types_terms Ts (emit_type T s).0 ∙ type_terms T s

lay_length : (ls : List Emits) (s : Tables) → length (emit_all ls s).1 ≡ length ls
lay_length [] s = refl
lay_length (l ∷ ls) s = ap suc (lay_length ls (l s).0)

leaf_once : (r : TermRow) → parts_of r ≡ [] → Once (add_term r)
leaf_once r is = record {
  last = λ s. let l = length_push s.1 r in omega arith;
  grows = λ s. let l = length_push s.1 r in omega arith;
  inside = λ s p a b. let l = length_push s.1 r in absurd (omega arith);
  below = λ s p a. let u = uses_push p s.1 r ∙ ap (λ ps. uses p s.1 + times p ps) is in omega arith;
  above = λ s p a. let u = uses_push p s.1 r ∙ ap (λ ps. uses p s.1 + times p ps) is in omega arith;
}

form_once : (f : Form) (Ts : List Ty) (es : List Term) → length es ≡ parts f → Onces (emit_all (map emit es)) → Once (term_emits.form f Ts (map emit es))
form_once f Ts es e o = record {
  last = λ s. let l = long s in omega arith;
  grows = λ s. let l = long s in let k = ap length (types_terms Ts s) in let g = o.grows (emit_all (map emit_type Ts) s).0 in omega arith;
  inside = λ s p a b.
      let l = long s in
      let k = ap length (types_terms Ts s) in
      let n = ap (uses p) (types_terms Ts s) in
      let u = used s p in
      let q = o.inside (emit_all (map emit_type Ts) s).0 p (omega arith) (omega arith) in
      omega arith;
  below = λ s p a.
      let k = ap length (types_terms Ts s) in
      let n = ap (uses p) (types_terms Ts s) in
      let u = used s p in
      let q = o.below (emit_all (map emit_type Ts) s).0 p (omega arith) in
      omega arith;
  above = λ s p a.
      let l = long s in
      let n = ap (uses p) (types_terms Ts s) in
      let u = used s p in
      let q = o.above (emit_all (map emit_type Ts) s).0 p (omega arith) in
      omega arith;
}
  where
    long : (s : Tables) → length (term_emits.form f Ts (map emit es) s).0.1 ≡ suc (length (emit_all (map emit es) (emit_all (map emit_type Ts) s).0).0.1)
    long s = let l = length_push (emit_all (map emit es) (emit_all (map emit_type Ts) s).0).0.1 (form_row f (emit_all (map emit_type Ts) s).1 (emit_all (map emit es) (emit_all (map emit_type Ts) s).0).1) in omega arith

    used : (s : Tables) (p : ℕ) → uses p (term_emits.form f Ts (map emit es) s).0.1 ≡ uses p (emit_all (map emit es) (emit_all (map emit_type Ts) s).0).0.1 + times p (emit_all (map emit es) (emit_all (map emit_type Ts) s).0).1
    used s p =
        let s1 = emit_all (map emit_type Ts) s in
        let s2 = emit_all (map emit es) s1.0 in
        uses_push p s2.0.1 (form_row f s1.1 s2.1) ∙ ap (λ ps. uses p s2.0.1 + times p ps) (parts_row f s1.1 s2.1 (lay_length (map emit es) s1.0 ∙ length-map es emit ∙ e))

pub laid_once : (e : Term) → Once (emit e)
laid_once = by_forms (λ e. Once (emit e)) (λ n. leaf_once (leaf_row 0 n) refl) (λ n. leaf_once (leaf_row 1 n) refl)
    (λ f Ts es d e h. subst Once (sym (fold_built term_emits f Ts es d e)) (form_once f Ts es e (onces es h)))

pub rows_once : (e : Term) (p : ℕ) → suc p < length (rows_of e).1 → uses p (rows_of e).1 ≡ 1
rows_once e p h = let q = (laid_once e).inside empty p (omega arith) h in omega arith
