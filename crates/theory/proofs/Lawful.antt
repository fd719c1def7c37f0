-- The rows of a term keep the laws of tables.
use Rattle.std.proofs.Common.{◌≡◌, ℕ, zero, suc, ◌<◌, ◌≤◌, Bool, true, false, cond, eqb, ltb, ◌⊎◌, List, [], ◌∷◌, ◌++◌, map, length, get_or, sym, refl, ap, ◌∙◌, subst, inl, inr, ⊎_elim, arith, ltb-false, eq-eqb}
use borrow.Author.Tests.{both_ways}
use Rattle.std.proofs.str.Laws.{order}
use Rattle.std.proofs.lemmas.List.{length_push, get_or_append_left, get_or_at}
use Rattle.theory.specs.Syntax.{Ty, Term}
use Rattle.rows.specs.Limits.{top}
use Rattle.rows.specs.declared.forms.Shape.{Shape}
use Rattle.rows.specs.declared.forms.Shape.TheVariants.{To, Both}
use Rattle.rows.specs.declared.tables.TypeRow.{TypeRow}
use Rattle.rows.specs.declared.tables.TermRow.{TermRow}
use Rattle.rows.specs.Forms.{shape_kind}
use Rattle.rows.specs.Rows.{type_row, nat_row, leaf_row, form_row, row_alike, row_place}
use Rattle.theory.specs.Lists.{All}
use Rattle.theory.specs.Folds.{most, numbers_in, largest}
use Rattle.theory.specs.Emit.{Tables, add_type, add_term, emit_all, type_emits, emit_type, term_emits, emit, empty, rows_of}
use Rattle.theory.specs.Laws.{Below, Row, leaf, form, Compound}
use Rattle.theory.specs.Induction.{by_shapes, fold_shaped, by_forms, fold_built}
use Rattle.theory.proofs.Standing.{TypeAt, TermAt, Fine, Good, Alls, all_good, alls_mono, type_mono, term_mono, types_good, all_types, terms_good, empty_fine}

pub record Kept (s : Tables) : Type 0 where
  pub first : (d : TypeRow) → get_or s.0 0 d ≡ nat_row
  pub later : (p : ℕ) (d : TypeRow) → 0 < p → p < length s.0 → Compound p (get_or s.0 p d)
  pub apart : (p q : ℕ) (d : TypeRow) → p < q → q < length s.0 → get_or s.0 p d ≡ get_or s.0 q d → ⊥
  pub rows : (p : ℕ) (d : TermRow) → p < length s.1 → Row (length s.0) p (get_or s.1 p d)

pub below_more : (n m : ℕ) (xs : List ℕ) → n ≤ m → Below n xs → Below m xs
below_more n m [] l h = tt
below_more n m (x ∷ xs) l h = (omega (arith, h.0), below_more n m xs l h.1)

row_more : (n m p : ℕ) (r : TermRow) → n ≤ m → Row n p r → Row m p r
row_more n m p r l (leaf k j a b e) = leaf k j a b e
row_more n m p r l (form f xs ys d e a b is) = form f xs ys d e (below_more n m xs l a) b is

-- a row that is not found is none of those there
unlike : (r : TypeRow) (ts : List TypeRow) (p : ℕ) (d : TypeRow) → length ts ≤ row_place r ts → p < length ts → get_or ts p d ≡ r → ⊥
unlike r [] p d h l e = absurd (omega arith)
unlike r (q ∷ ts) p d h l e = go (row_alike r q) refl p h l e (λ p k l e. unlike r ts p d k l e)
  where
    self : q ≡ r → row_alike r q ≡ true
    self e = ap (λ t. cond t (cond (eqb r.left q.left) (eqb r.right q.right) false) false) (eq-eqb r.kind q.kind (ap (λ x. x.kind) (sym e)))
        ∙ ap (λ t. cond t (eqb r.right q.right) false) (eq-eqb r.left q.left (ap (λ x. x.left) (sym e))) ∙ eq-eqb r.right q.right (ap (λ x. x.right) (sym e))

    go : (t : Bool) → row_alike r q ≡ t → (p : ℕ) → suc (length ts) ≤ cond t 0 (suc (row_place r ts)) → p < suc (length ts) → get_or (q ∷ ts) p d ≡ r → ((p : ℕ) → length ts ≤ row_place r ts → p < length ts → get_or ts p d ≡ r → ⊥) → ⊥
    go true a p h l e ih = omega arith
    go false a zero h l e ih = both_ways (row_alike r q) a (self e)
    go false a (suc p) h l e ih = ih p (omega arith) (omega arith) e

module _ (s : Tables) (r : TypeRow) (k : Kept s) (some : 0 < length s.0) (kind : (r.kind ≡ 1) ⊎ (r.kind ≡ 2)) (left : r.left < length s.0) (right : r.right < length s.0) (fresh : length s.0 ≤ row_place r s.0) where
  type_later : (p : ℕ) (d : TypeRow) → 0 < p → p < length (s.0 ++ r ∷ []) → Compound p (get_or (s.0 ++ r ∷ []) p d)
  type_later p d pos h =
      let l = length_push s.0 r in
      ⊎_elim (λ below. subst (Compound p) (sym (get_or_append_left s.0 (r ∷ []) d p below)) (k.later p d pos below))
      (λ above. let here : length s.0 ≡ p = omega arith in subst (Compound p) (sym (get_or_at s.0 r [] d p here)) (record { kind = kind; left = omega arith; right = omega arith })) (order p (length s.0))

  type_apart : (p q : ℕ) (d : TypeRow) → p < q → q < length (s.0 ++ r ∷ []) → get_or (s.0 ++ r ∷ []) p d ≡ get_or (s.0 ++ r ∷ []) q d → ⊥
  type_apart p q d lt h e =
      let l = length_push s.0 r in
      ⊎_elim (λ below. k.apart p q d lt below (sym (get_or_append_left s.0 (r ∷ []) d p (omega arith)) ∙ e ∙ get_or_append_left s.0 (r ∷ []) d q below))
      (λ above. let here : length s.0 ≡ q = omega arith in unlike r s.0 p d fresh (omega arith) (sym (get_or_append_left s.0 (r ∷ []) d p (omega arith)) ∙ e ∙ get_or_at s.0 r [] d q here)) (order q (length s.0))

  type_kept : Kept (s.0 ++ r ∷ [], s.1)
  type_kept =
      let l = length_push s.0 r in
      record {
        first = λ d. get_or_append_left s.0 (r ∷ []) d 0 some ∙ k.first d;
        later = type_later;
        apart = type_apart;
        rows = λ p d h. row_more (length s.0) (length (s.0 ++ r ∷ [])) p (get_or s.1 p d) (omega arith) (k.rows p d h);
      }

kinds : (k : Shape) → (shape_kind k ≡ 1) ⊎ (shape_kind k ≡ 2)
kinds To = inl refl
kinds Both = inr refl

lay_type_kept : (k : Shape) (a b : ℕ) (s : Tables) → Kept s → 0 < length s.0 → a < length s.0 → b < length s.0 → Kept (add_type (type_row (shape_kind k) a b) s).0
lay_type_kept k a b s h some l m = go (ltb (row_place r s.0) (length s.0)) refl
  where
    r : TypeRow
    r = type_row (shape_kind k) a b

    laid : Bool → Tables × ℕ
    laid t = cond t (s, row_place r s.0) ((s.0 ++ r ∷ [], s.1), length s.0)

    go : (t : Bool) → ltb (row_place r s.0) (length s.0) ≡ t → Kept (laid t).0
    go true e = h
    go false e = type_kept s r h some (kinds k) l m (ltb-false (row_place r s.0) (length s.0) e)

lay_term_kept : (r : TermRow) (s : Tables) → Kept s → Row (length s.0) (length s.1) r → Kept (add_term r s).0
lay_term_kept r s k law = record { first = k.first; later = k.later; apart = k.apart; rows = rows }
  where
    rows : (p : ℕ) (d : TermRow) → p < length (s.1 ++ r ∷ []) → Row (length s.0) p (get_or (s.1 ++ r ∷ []) p d)
    rows p d h =
        let l = length_push s.1 r in
        ⊎_elim (λ below. subst (Row (length s.0) p) (sym (get_or_append_left s.1 (r ∷ []) d p below)) (k.rows p d below))
        (λ above. let here : length s.1 ≡ p = omega arith in subst (Row (length s.0) p) (sym (get_or_at s.1 r [] d p here)) (subst (λ n. Row (length s.0) n r) here law)) (order p (length s.1))

abbrev Keeps : {Z : Type 0} → (Tables → Tables × Z) → Type 0
Keeps l = (s : Tables) → Fine s → Kept s → Kept (l s).0

type_keeps : (T : Ty) → Keeps (emit_type T)
type_keeps = by_shapes (λ T. Keeps (emit_type T)) (λ s f k. k)
    (λ k T U a b.
    subst Keeps (sym (fold_shaped type_emits k T U))
    (λ s f h.
    let x = types_good T s f in
    let y = types_good U (emit_type T s).0 x.0 in
    let u = emit_type U (emit_type T s).0 in
    lay_type_kept k (emit_type T s).1 u.1 u.0 (b (emit_type T s).0 x.0 (a s f h)) y.0.some (y.1.for_types (emit_type T s).1 T x.2).0 y.2.0))

types_keep : (Ts : List Ty) → Keeps (emit_all (map emit_type Ts))
types_keep [] s f k = k
types_keep (T ∷ Ts) s f k = types_keep Ts (emit_type T s).0 (types_good T s f).0 (type_keeps T s f k)

terms_keep : (es : List Term) → All (λ e. Keeps (emit e)) es → Keeps (emit_all (map emit es))
terms_keep [] h s f k = k
terms_keep (e ∷ es) h s f k = terms_keep es h.1 (emit e s).0 (terms_good e s f).0 (h.0 s f k)

all_terms : (es : List Term) → All (λ e. Good (emit e) (λ s p. TermAt s p e)) es
all_terms [] = tt
all_terms (e ∷ es) = (terms_good e, all_terms es)

alls_length : {A : Type 0} (P : Tables → ℕ → A → Type 0) (s : Tables) (ps : List ℕ) (xs : List A) → Alls P s ps xs → length ps ≡ length xs
alls_length P s [] [] h = refl
alls_length P s [] (x ∷ xs) h = absurd h
alls_length P s (p ∷ ps) [] h = absurd h
alls_length P s (p ∷ ps) (x ∷ xs) h = ap suc (alls_length P s ps xs h.1)

alls_below : {A : Type 0} (P : Tables → ℕ → A → Type 0) (s : Tables) (n : ℕ) → ((p : ℕ) (x : A) → P s p x → p < n) → (ps : List ℕ) (xs : List A) → Alls P s ps xs → Below n ps
alls_below P s n f [] [] h = tt
alls_below P s n f [] (x ∷ xs) h = absurd h
alls_below P s n f (p ∷ ps) [] h = absurd h
alls_below P s n f (p ∷ ps) (x ∷ xs) h = (f p x h.0, alls_below P s n f ps xs h.1)

abbrev SmallKeeps : Term → Type 0
SmallKeeps e = largest e ≤ top → Keeps (emit e)

small_keep : (es : List Term) → All SmallKeeps es → most (map largest es) ≤ top → All (λ e. Keeps (emit e)) es
small_keep [] h l = tt
small_keep (e ∷ es) h l = (h.0 (omega arith), small_keep es h.1 (omega arith))

term_keeps : (e : Term) → SmallKeeps e
term_keeps = by_forms SmallKeeps
    (λ n l s f k. lay_term_kept (leaf_row 0 n) s k (leaf 0 n (omega arith) l refl))
    (λ n l s f k. lay_term_kept (leaf_row 1 n) s k (leaf 1 n (omega arith) l refl))
    (λ f Ts es d e h l.
    let small = fold_built numbers_in f Ts es d e in
    let keep = terms_keep es (small_keep es h (omega arith)) in
    subst Keeps (sym (fold_built term_emits f Ts es d e))
    (λ s g k.
    let s1 = emit_all (map emit_type Ts) s in
    let s2 = emit_all (map emit es) s1.0 in
    let x = all_good TypeAt type_mono emit_type Ts (all_types Ts) s g in
    let y = all_good TermAt term_mono emit es (all_terms es) s1.0 x.0 in
    let ts = alls_mono TypeAt type_mono s1.0 s2.0 s1.1 Ts y.1 x.2 in
    lay_term_kept (form_row f s1.1 s2.1) s2.0 (keep s1.0 x.0 (types_keep Ts s g k))
    (form f s1.1 s2.1 (alls_length TypeAt s2.0 s1.1 Ts ts ∙ d) (alls_length TermAt s2.0 s2.1 es y.2 ∙ e)
    (alls_below TypeAt s2.0 (length s2.0.0) (λ p T q. q.0) s1.1 Ts ts) (alls_below TermAt s2.0 (length s2.0.1) (λ p a q. q.0) s2.1 es y.2) refl)))

empty_kept : Kept empty
empty_kept = record { first = λ d. refl; later = λ p d h l. absurd (omega arith); apart = λ p q d h l e. omega arith; rows = λ p d h. absurd (omega arith) }

pub rows_kept : (e : Term) → largest e ≤ top → Kept (rows_of e)
rows_kept e l = term_keeps e l empty empty_fine empty_kept

pub types_some : (e : Term) → 0 < length (rows_of e).0
types_some e = (terms_good e empty empty_fine).0.some
