-- The rows of a term stand for it.
use Rattle.std.proofs.Common.{◌≡◌, ℕ, zero, suc, ◌+◌, ◌<◌, Bool, true, false, cond, eqb, ltb, List, [], ◌∷◌, ◌++◌, map, length, get_or, sym, refl, ap, ◌∙◌, subst, ⊎_elim, arith, ltb-true, eqb-true}
use Rattle.std.proofs.str.Laws.{order}
use Rattle.std.proofs.lemmas.List.{length_push, get_or_append_left, get_or_at}
use Rattle.theory.specs.Syntax.{Ty, nat, to, both, succ, fst, snd, get, add, sub, mul, pair, calc, Term, num, name, one, two, ifz, lam, app, fix, fail, catch}
use Rattle.rows.specs.declared.forms.Form.{Form}
use Rattle.rows.specs.declared.forms.Form.TheVariants.{Succ, Ifz, Lam, Ap, Fix, Pair, Fst, Snd, Add, Sub, Mul, Get, Fail, Catch}
use Rattle.rows.specs.declared.forms.Shape.{Shape}
use Rattle.rows.specs.declared.forms.Shape.TheVariants.{To, Both}
use Rattle.rows.specs.declared.tables.TypeRow.{TypeRow}
use Rattle.rows.specs.declared.tables.TermRow.{TermRow}
use Rattle.rows.specs.Forms.{types, parts, shape_kind, form_at}
use Rattle.rows.specs.Rows.{type_row, leaf_row, form_row, row_alike, row_place}
use Rattle.theory.specs.Lists.{All}
use Rattle.theory.specs.Folds.{shaped, ty, part, built}
use Rattle.theory.specs.Emit.{Tables, Emits, add_type, add_term, emit_all, type_emits, emit_type, term_emits, emit, empty, rows_of}
use Rattle.theory.specs.Stands.{type_of_row, types_from, term_of_row, terms_from, term_at, rule_of}
use Rattle.theory.specs.Induction.{by_shapes, fold_shaped, by_forms, fold_built}

-- ---- the two folds, a row more

abbrev pub trees : List TypeRow → List Ty
trees ts = types_from [] ts

types_push : (Ts : List Ty) (rs : List TypeRow) (r : TypeRow) → types_from Ts (rs ++ r ∷ []) ≡ types_from Ts rs ++ type_of_row (types_from Ts rs) r ∷ []
types_push Ts [] r = refl
types_push Ts (q ∷ rs) r = types_push (Ts ++ type_of_row Ts q ∷ []) rs r

types_length : (Ts : List Ty) (rs : List TypeRow) → length (types_from Ts rs) ≡ length Ts + length rs
types_length Ts [] = omega arith
types_length Ts (r ∷ rs) = let l = length_push Ts (type_of_row Ts r) in let k = types_length (Ts ++ type_of_row Ts r ∷ []) rs in omega arith

terms_push : (Ts : List Ty) (es : List Term) (rs : List TermRow) (r : TermRow) → terms_from Ts es (rs ++ r ∷ []) ≡ terms_from Ts es rs ++ term_of_row Ts (terms_from Ts es rs) r ∷ []
terms_push Ts es [] r = refl
terms_push Ts es (q ∷ rs) r = terms_push Ts (es ++ term_of_row Ts es q ∷ []) rs r

terms_length : (Ts : List Ty) (es : List Term) (rs : List TermRow) → length (terms_from Ts es rs) ≡ length es + length rs
terms_length Ts es [] = omega arith
terms_length Ts es (r ∷ rs) = let l = length_push es (term_of_row Ts es r) in let k = terms_length Ts (es ++ term_of_row Ts es r ∷ []) rs in omega arith

terms_same : (Ts Us : List Ty) (es : List Term) (rs : List TermRow) → ((p : ℕ) (d : TermRow) → p < length rs → get_or Ts (get_or rs p d).ty nat ≡ get_or Us (get_or rs p d).ty nat) → terms_from Ts es rs ≡ terms_from Us es rs
terms_same Ts Us es [] h = refl
terms_same Ts Us es (r ∷ rs) h =
    let one_row : term_of_row Ts es r ≡ term_of_row Us es r = ap (λ T. cond (eqb r.kind 0) (num r.number) (cond (eqb r.kind 1) (name r.number) (built (form_at r.kind) (T ∷ []) (get_or es r.a (num 0) ∷ get_or es r.b (num 0) ∷ get_or es r.c (num 0) ∷ [])))) (h 0 r (omega arith)) in
    ap (λ x. terms_from Ts (es ++ x ∷ []) rs) one_row ∙ terms_same Ts Us (es ++ term_of_row Us es r ∷ []) rs (λ p d l. h (suc p) d (omega arith))

-- ---- places

abbrev pub TypeAt : Tables → ℕ → Ty → Type 0
TypeAt s p T = (p < length s.0) × (get_or (trees s.0) p nat ≡ T)

abbrev pub TermAt : Tables → ℕ → Term → Type 0
TermAt s p e = (p < length s.1) × (term_at s p ≡ e)

-- what stood at a place still stands there
pub record Ext (s t : Tables) : Type 0 where
  pub for_types : (p : ℕ) (T : Ty) → TypeAt s p T → TypeAt t p T
  pub for_terms : (p : ℕ) (e : Term) → TermAt s p e → TermAt t p e

stays : (s : Tables) → Ext s s
stays s = record { for_types = λ p T h. h; for_terms = λ p e h. h }

after : {s t u : Tables} → Ext s t → Ext t u → Ext s u
after a b = record { for_types = λ p T h. b.for_types p T (a.for_types p T h); for_terms = λ p e h. b.for_terms p e (a.for_terms p e h) }

pub record Fine (s : Tables) : Type 0 where
  pub some : 0 < length s.0
  pub first : get_or (trees s.0) 0 nat ≡ nat
  pub own : (p : ℕ) (d : TypeRow) → p < length s.0 → (get_or (trees s.0) p nat ≡ type_of_row (trees s.0) (get_or s.0 p d)) × ((get_or s.0 p d).left < length s.0) × ((get_or s.0 p d).right < length s.0)
  pub tys : (p : ℕ) (d : TermRow) → p < length s.1 → (get_or s.1 p d).ty < length s.0

abbrev pub Good : {Z : Type 0} → (Tables → Tables × Z) → (Tables → Z → Type 0) → Type 0
Good l Q = (s : Tables) → Fine s → Fine (l s).0 × Ext s (l s).0 × Q (l s).0 (l s).1

-- ---- a type row more

module _ (s : Tables) (r : TypeRow) (f : Fine s) (left : r.left < length s.0) (right : r.right < length s.0) where
  abbrev us : List Ty
  us = trees s.0

  abbrev s' : Tables
  s' = (s.0 ++ r ∷ [], s.1)

  long : length us ≡ length s.0
  long = types_length [] s.0 ∙ omega arith

  more : trees (s.0 ++ r ∷ []) ≡ us ++ type_of_row us r ∷ []
  more = types_push [] s.0 r

  keep : (p : ℕ) → p < length s.0 → get_or (trees (s.0 ++ r ∷ [])) p nat ≡ get_or us p nat
  keep p h = ap (λ l. get_or l p nat) more ∙ get_or_append_left us (type_of_row us r ∷ []) nat p (let l = long in omega arith)

  row_same : (q : TypeRow) → q.left < length s.0 → q.right < length s.0 → type_of_row (trees (s.0 ++ r ∷ [])) q ≡ type_of_row us q
  row_same q a b = λ i. cond (eqb q.kind 0) nat (shaped (cond (eqb q.kind 1) To Both) (keep q.left a i) (keep q.right b i))

  new : get_or (trees (s.0 ++ r ∷ [])) (length s.0) nat ≡ type_of_row us r
  new = ap (λ l. get_or l (length s.0) nat) more ∙ get_or_at us (type_of_row us r) [] nat (length s.0) long

  abbrev Owned : ℕ → TypeRow → Type 0
  Owned p q = (get_or (trees (s.0 ++ r ∷ [])) p nat ≡ type_of_row (trees (s.0 ++ r ∷ [])) q) × (q.left < length (s.0 ++ r ∷ [])) × (q.right < length (s.0 ++ r ∷ []))

  owned : (p : ℕ) (d : TypeRow) → p < length (s.0 ++ r ∷ []) → Owned p (get_or (s.0 ++ r ∷ []) p d)
  owned p d h =
      let l = length_push s.0 r in
      ⊎_elim
      (λ below.
      let o = f.own p d below in
      subst (Owned p) (sym (get_or_append_left s.0 (r ∷ []) d p below)) (keep p below ∙ o.0 ∙ sym (row_same (get_or s.0 p d) o.1 o.2), omega arith, omega arith))
      (λ above.
      let here : length s.0 ≡ p = omega arith in
      subst (Owned p) (sym (get_or_at s.0 r [] d p here)) (ap (λ i. get_or (trees (s.0 ++ r ∷ [])) i nat) (sym here) ∙ new ∙ sym (row_same r left right), omega arith, omega arith))
      (order p (length s.0))

  type_fine : Fine s'
  type_fine =
      let l = length_push s.0 r in
      record { some = omega arith; first = keep 0 f.some ∙ f.first; own = owned; tys = λ p d h. let t = f.tys p d h in omega arith }

  type_ext : Ext s s'
  type_ext =
      let l = length_push s.0 r in
      record {
        for_types = λ p T h. (omega (arith, h.0), keep p h.0 ∙ h.1);
        for_terms = λ p e h. (h.0, ap (λ l. get_or l p (num 0)) (terms_same (trees (s.0 ++ r ∷ [])) us [] s.1 (λ p d k. keep (get_or s.1 p d).ty (f.tys p d k))) ∙ h.1);
      }

  type_new : TypeAt s' (length s.0) (type_of_row us r)
  type_new = let l = length_push s.0 r in (omega arith, new)

-- an equal row that is there already
alike_is : (p q : TypeRow) → row_alike p q ≡ true → p ≡ q
alike_is p q h = go (eqb p.kind q.kind) (eqb p.left q.left) refl refl h
  where
    go : (t u : Bool) → eqb p.kind q.kind ≡ t → eqb p.left q.left ≡ u → cond t (cond u (eqb p.right q.right) false) false ≡ true → p ≡ q
    go true true e f k = λ i. record { kind = eqb-true p.kind q.kind e (i); left = eqb-true p.left q.left f i; right = eqb-true p.right q.right k i }
    go true false e f k = let z : ◌≡◌ {A = ℕ} 0 1 = cc in absurd (omega arith)
    go false u e f k = let z : ◌≡◌ {A = ℕ} 0 1 = cc in absurd (omega arith)

row_found : (r : TypeRow) (ts : List TypeRow) (d : TypeRow) → row_place r ts < length ts → r ≡ get_or ts (row_place r ts) d
row_found r [] d h = absurd (omega arith)
row_found r (q ∷ ts) d h = go (row_alike r q) refl (λ k. row_found r ts d k) h
  where
    go : (t : Bool) → row_alike r q ≡ t → (row_place r ts < length ts → r ≡ get_or ts (row_place r ts) d) → cond t 0 (suc (row_place r ts)) < suc (length ts) → r ≡ get_or (q ∷ ts) (cond t 0 (suc (row_place r ts))) d
    go true e f h = alike_is r q e
    go false e f h = f (omega arith)

shaped_row : (k : Shape) (s : Tables) (a b : ℕ) (T U : Ty) → TypeAt s a T → TypeAt s b U → type_of_row (trees s.0) (type_row (shape_kind k) a b) ≡ shaped k T U
shaped_row To s a b T U g h = λ i. to (g.1 i) (h.1 i)
shaped_row Both s a b T U g h = λ i. both (g.1 i) (h.1 i)

pub lay_type_good : (k : Shape) (s : Tables) (a b : ℕ) (T U : Ty) → Fine s → TypeAt s a T → TypeAt s b U
    → Fine (add_type (type_row (shape_kind k) a b) s).0 × Ext s (add_type (type_row (shape_kind k) a b) s).0 × TypeAt (add_type (type_row (shape_kind k) a b) s).0 (add_type (type_row (shape_kind k) a b) s).1 (shaped k T U)
lay_type_good k s a b T U f g h = go (ltb (row_place r s.0) (length s.0)) refl
  where
    r : TypeRow
    r = type_row (shape_kind k) a b

    laid : Bool → Tables × ℕ
    laid t = cond t (s, row_place r s.0) ((s.0 ++ r ∷ [], s.1), length s.0)

    go : (t : Bool) → ltb (row_place r s.0) (length s.0) ≡ t → Fine (laid t).0 × Ext s (laid t).0 × TypeAt (laid t).0 (laid t).1 (shaped k T U)
    go true e =
        let lt = ltb-true (row_place r s.0) (length s.0) e in
        (f, stays s, (lt, (f.own (row_place r s.0) r lt).0 ∙ ap (type_of_row (trees s.0)) (sym (row_found r s.0 r lt)) ∙ shaped_row k s a b T U g h))
    go false e = (type_fine s r f g.0 h.0, type_ext s r f g.0 h.0, ((type_new s r f g.0 h.0).0, (type_new s r f g.0 h.0).1 ∙ shaped_row k s a b T U g h))

-- ---- a term row more

module _ (s : Tables) (r : TermRow) (f : Fine s) (typed : r.ty < length s.0) where
  abbrev vs : List Term
  vs = terms_from (trees s.0) [] s.1

  term_more : terms_from (trees s.0) [] (s.1 ++ r ∷ []) ≡ vs ++ term_of_row (trees s.0) vs r ∷ []
  term_more = terms_push (trees s.0) [] s.1 r

  term_long : length vs ≡ length s.1
  term_long = terms_length (trees s.0) [] s.1 ∙ omega arith

  term_fine : Fine (s.0, s.1 ++ r ∷ [])
  term_fine = record { some = f.some; first = f.first; own = f.own; tys = tys }
    where
      tys : (p : ℕ) (d : TermRow) → p < length (s.1 ++ r ∷ []) → (get_or (s.1 ++ r ∷ []) p d).ty < length s.0
      tys p d h =
          let l = length_push s.1 r in
          ⊎_elim (λ below. subst (λ q. q.ty < length s.0) (sym (get_or_append_left s.1 (r ∷ []) d p below)) (f.tys p d below))
          (λ above. let here : length s.1 ≡ p = omega arith in subst (λ q. q.ty < length s.0) (sym (get_or_at s.1 r [] d p here)) typed) (order p (length s.1))

  term_ext : Ext s (s.0, s.1 ++ r ∷ [])
  term_ext =
      let l = length_push s.1 r in
      let k = term_long in
      record { for_types = λ p T h. h; for_terms = λ p e h. (omega (arith, h.0), ap (λ l. get_or l p (num 0)) term_more ∙ get_or_append_left vs (term_of_row (trees s.0) vs r ∷ []) (num 0) p (omega (arith, h.0)) ∙ h.1) }

  term_new : TermAt (s.0, s.1 ++ r ∷ []) (length s.1) (term_of_row (trees s.0) vs r)
  term_new = let l = length_push s.1 r in (omega arith, ap (λ l. get_or l (length s.1) (num 0)) term_more ∙ get_or_at vs (term_of_row (trees s.0) vs r) [] (num 0) (length s.1) term_long)

-- ---- one after the other

abbrev pub Alls : {A : Type 0} → (Tables → ℕ → A → Type 0) → Tables → List ℕ → List A → Type 0
Alls P s [] [] = Unit {0}
Alls P s [] (x ∷ xs) = ⊥
Alls P s (p ∷ ps) [] = ⊥
Alls P s (p ∷ ps) (x ∷ xs) = P s p x × Alls P s ps xs

module _ {A : Type 0} (P : Tables → ℕ → A → Type 0) (mono : (s t : Tables) (p : ℕ) (x : A) → Ext s t → P s p x → P t p x) where
  pub alls_mono : (s t : Tables) (ps : List ℕ) (xs : List A) → Ext s t → Alls P s ps xs → Alls P t ps xs
  alls_mono s t [] [] e h = tt
  alls_mono s t [] (x ∷ xs) e h = h
  alls_mono s t (p ∷ ps) [] e h = h
  alls_mono s t (p ∷ ps) (x ∷ xs) e h = (mono s t p x e h.0, alls_mono s t ps xs e h.1)

  pub all_good : (l : A → Emits) (xs : List A) → All (λ x. Good (l x) (λ s p. P s p x)) xs → Good (emit_all (map l xs)) (λ s ps. Alls P s ps xs)
  all_good l [] g s f = (f, stays s, tt)
  all_good l (x ∷ xs) g s f =
      let a = g.0 s f in
      let b = all_good l xs g.1 (l x s).0 a.0 in
      (b.0, after a.1 b.1, (mono (l x s).0 (emit_all (map l xs) (l x s).0).0 (l x s).1 x b.1 a.2, b.2))

pub alls_at : {A : Type 0} (P : Tables → ℕ → A → Type 0) (d : A) (s : Tables) (ps : List ℕ) (xs : List A) → Alls P s ps xs → (i : ℕ) → i < length xs → P s (get_or ps i 0) (get_or xs i d)
alls_at P d s [] [] h i l = absurd (omega arith)
alls_at P d s [] (x ∷ xs) h i l = absurd h
alls_at P d s (p ∷ ps) [] h i l = absurd h
alls_at P d s (p ∷ ps) (x ∷ xs) h zero l = h.0
alls_at P d s (p ∷ ps) (x ∷ xs) h (suc i) l = alls_at P d s ps xs h.1 i (omega arith)

first_in : (s : Tables) (ps : List ℕ) (Ts : List Ty) → Fine s → Alls TypeAt s ps Ts → get_or ps 0 0 < length s.0
first_in s [] [] f h = f.some
first_in s [] (T ∷ Ts) f h = absurd h
first_in s (p ∷ ps) [] f h = absurd h
first_in s (p ∷ ps) (T ∷ Ts) f h = h.0.0

-- ---- the row of a form

pub form_stands : (f : Form) (Ts : List Ty) (es : List Term) (xs ys : List ℕ)
    → term_of_row Ts es (form_row f xs ys) ≡ built f (get_or Ts (get_or xs 0 0) nat ∷ []) (get_or es (get_or ys 0 0) (num 0) ∷ get_or es (get_or ys 1 0) (num 0) ∷ get_or es (get_or ys 2 0) (num 0) ∷ [])
form_stands Succ Ts es xs ys = refl
form_stands Ifz Ts es xs ys = refl
form_stands Lam Ts es xs ys = refl
form_stands Ap Ts es xs ys = refl
form_stands Fix Ts es xs ys = refl
form_stands Pair Ts es xs ys = refl
form_stands Fst Ts es xs ys = refl
form_stands Snd Ts es xs ys = refl
form_stands Add Ts es xs ys = refl
form_stands Sub Ts es xs ys = refl
form_stands Mul Ts es xs ys = refl
form_stands Get Ts es xs ys = refl
form_stands Fail Ts es xs ys = refl
form_stands Catch Ts es xs ys = refl

pub same_built : (f : Form) (T : Ty) (a b c : Term) (Ts : List Ty) (es : List Term) → (0 < types f → T ≡ ty Ts) → (0 < parts f → a ≡ part es 0) → (1 < parts f → b ≡ part es 1) → (2 < parts f → c ≡ part es 2)
    → built f (T ∷ []) (a ∷ b ∷ c ∷ []) ≡ built f Ts es
same_built Succ T a b c Ts es t x y z = λ i. one succ (x (omega arith) i)
same_built Ifz T a b c Ts es t x y z = λ i. ifz (x (omega arith) i) (y (omega arith) i) (z (omega arith) i)
same_built Lam T a b c Ts es t x y z = λ i. lam (t (omega arith) i) (x (omega arith) i)
same_built Ap T a b c Ts es t x y z = λ i. app (x (omega arith) i) (y (omega arith) i)
same_built Fix T a b c Ts es t x y z = λ i. fix (t (omega arith) i) (x (omega arith) i)
same_built Pair T a b c Ts es t x y z = λ i. two (pair (t (omega arith) i)) (x (omega arith) i) (y (omega arith) i)
same_built Fst T a b c Ts es t x y z = λ i. one fst (x (omega arith) i)
same_built Snd T a b c Ts es t x y z = λ i. one snd (x (omega arith) i)
same_built Add T a b c Ts es t x y z = λ i. two (calc add) (x (omega arith) i) (y (omega arith) i)
same_built Sub T a b c Ts es t x y z = λ i. two (calc sub) (x (omega arith) i) (y (omega arith) i)
same_built Mul T a b c Ts es t x y z = λ i. two (calc mul) (x (omega arith) i) (y (omega arith) i)
same_built Get T a b c Ts es t x y z = λ i. one get (x (omega arith) i)
same_built Fail T a b c Ts es t x y z = λ i. fail (t (omega arith) i)
same_built Catch T a b c Ts es t x y z = λ i. catch (x (omega arith) i) (y (omega arith) i)

form_good : (f : Form) (Ts : List Ty) (es : List Term) (s : Tables) (xs ys : List ℕ) → length Ts ≡ types f → length es ≡ parts f → Fine s → Alls TypeAt s xs Ts → Alls TermAt s ys es
    → Fine (add_term (form_row f xs ys) s).0 × Ext s (add_term (form_row f xs ys) s).0 × TermAt (add_term (form_row f xs ys) s).0 (length s.1) (built f Ts es)
form_good f Ts es s xs ys d e g a b =
    let r = form_row f xs ys in
    let t = first_in s xs Ts g a in
    let us = types_from [] s.0 in
    let vs = terms_from us [] s.1 in
    let n = term_new s r g t in (
      term_fine s r g t,
      term_ext s r g t,
      (
        n.0,
        n.1 ∙ form_stands f us vs xs ys
            ∙ same_built f (get_or us (get_or xs 0 0) nat) (get_or vs (get_or ys 0 0) (num 0)) (get_or vs (get_or ys 1 0) (num 0)) (get_or vs (get_or ys 2 0) (num 0)) Ts es
            (λ h. (alls_at TypeAt nat s xs Ts a 0 (omega arith)).1) (λ h. (alls_at TermAt (num 0) s ys es b 0 (omega arith)).1) (λ h. (alls_at TermAt (num 0) s ys es b 1 (omega arith)).1) (λ h. (alls_at TermAt (num 0) s ys es b 2 (omega arith)).1),
      ),
    )

-- ---- types and terms

pub type_mono : (s t : Tables) (p : ℕ) (T : Ty) → Ext s t → TypeAt s p T → TypeAt t p T
type_mono s t p T e h = e.for_types p T h

pub term_mono : (s t : Tables) (p : ℕ) (a : Term) → Ext s t → TermAt s p a → TermAt t p a
term_mono s t p a e h = e.for_terms p a h

abbrev TypeGood : Ty → Type 0
TypeGood T = Good (emit_type T) (λ s p. TypeAt s p T)

pub types_good : (T : Ty) → TypeGood T
types_good = by_shapes TypeGood (λ s f. (f, stays s, (f.some, f.first)))
    (λ k T U a b.
    subst (λ l. Good l (λ s p. TypeAt s p (shaped k T U))) (sym (fold_shaped type_emits k T U))
    (λ s f.
    let x = a s f in
    let y = b (emit_type T s).0 x.0 in
    let u = emit_type U (emit_type T s).0 in
    let z = lay_type_good k u.0 (emit_type T s).1 u.1 T U y.0 (y.1.for_types (emit_type T s).1 T x.2) y.2 in
    (z.0, after x.1 (after y.1 z.1), z.2)))

pub all_types : (Ts : List Ty) → All TypeGood Ts
all_types [] = tt
all_types (T ∷ Ts) = (types_good T, all_types Ts)

abbrev TermGood : Term → Type 0
TermGood e = Good (emit e) (λ s p. TermAt s p e)

pub terms_good : (e : Term) → TermGood e
terms_good = by_forms TermGood
    (λ n s f. (term_fine s (leaf_row 0 n) f f.some, term_ext s (leaf_row 0 n) f f.some, term_new s (leaf_row 0 n) f f.some))
    (λ n s f. (term_fine s (leaf_row 1 n) f f.some, term_ext s (leaf_row 1 n) f f.some, term_new s (leaf_row 1 n) f f.some))
    (λ f Ts es d e h.
    subst (λ l. Good l (λ s p. TermAt s p (built f Ts es))) (sym (fold_built term_emits f Ts es d e))
    (λ s g.
    let x = all_good TypeAt type_mono emit_type Ts (all_types Ts) s g in
    let s1 = emit_all (map emit_type Ts) s in
    let y = all_good TermAt term_mono emit es h s1.0 x.0 in
    let s2 = emit_all (map emit es) s1.0 in
    let z = form_good f Ts es s2.0 s1.1 s2.1 d e y.0 (alls_mono TypeAt type_mono s1.0 s2.0 s1.1 Ts y.1 x.2) y.2 in
    (z.0, after x.1 (after y.1 z.1), z.2)))

-- the term is laid last
pub laid_last : (e : Term) (s : Tables) → suc (emit e s).1 ≡ length (emit e s).0.1
laid_last = by_forms (λ e. (s : Tables) → suc (emit e s).1 ≡ length (emit e s).0.1)
    (λ n s. let l = length_push s.1 (leaf_row 0 n) in omega arith)
    (λ n s. let l = length_push s.1 (leaf_row 1 n) in omega arith)
    (λ f Ts es d e h.
    subst (λ l. (s : Tables) → suc (l s).1 ≡ length (l s).0.1) (sym (fold_built term_emits f Ts es d e))
    (λ s.
    let s1 = emit_all (map emit_type Ts) s in
    let s2 = emit_all (map emit es) s1.0 in
    let l = length_push s2.0.1 (form_row f s1.1 s2.1) in
    omega arith))

pub empty_fine : Fine empty
empty_fine = record { some = omega arith; first = refl; own = own; tys = λ p d h. absurd (omega arith) }
  where
    own : (p : ℕ) (d : TypeRow) → p < length empty.0 → (get_or (trees empty.0) p nat ≡ type_of_row (trees empty.0) (get_or empty.0 p d)) × ((get_or empty.0 p d).left < length empty.0) × ((get_or empty.0 p d).right < length empty.0)
    own zero d h = (refl, omega arith, omega arith)
    own (suc p) d h = absurd (omega arith)

pub rows_stand : (e : Term) → rule_of (rows_of e) ≡ e
rows_stand e =
    let l = laid_last e empty in
    ap (λ p. term_at (rows_of e) p) (omega arith) ∙ (terms_good e empty empty_fine).2.1
