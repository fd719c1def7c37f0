-- What each row of lawful tables stands for, by the rows before it.
use Rattle.std.proofs.Common.{◌≡◌, ℕ, zero, suc, ◌+◌, ◌<◌, ◌≤◌, Bool, true, false, cond, eqb, List, [], ◌∷◌, ◌++◌, map, length, get_or, sym, refl, ap, ◌∙◌, subst, ⊎_elim, arith}
use Rattle.std.proofs.str.Laws.{order}
use Rattle.std.proofs.lemmas.List.{length_push, length-map, get_or_append_left, get_or_at}
use Rattle.rows.specs.Limits.{top}
use Rattle.rows.specs.declared.forms.Form.{Form}
use Rattle.rows.specs.declared.forms.Form.TheVariants.{Succ, Ifz, Lam, Ap, Fix, Pair, Fst, Snd, Add, Sub, Mul, Get, Fail, Catch}
use Rattle.rows.specs.declared.forms.Shape.TheVariants.{To, Both}
use Rattle.rows.specs.declared.tables.TypeRow.{TypeRow}
use Rattle.rows.specs.declared.tables.TermRow.{TermRow}
use Rattle.rows.specs.Forms.{kind, types, parts, form_at}
use Rattle.rows.specs.Rows.{nat_row, leaf_row, form_row}
use Rattle.theory.specs.Syntax.{Ty, nat, Term, num, name}
use Rattle.theory.specs.Folds.{shaped, built, most, numbers_in, largest}
use Rattle.theory.specs.Emit.{Tables}
use Rattle.theory.specs.Stands.{type_of_row, types_from, term_of_row, terms_from, term_at}
use Rattle.theory.specs.Laws.{Below, below_at, Row, leaf, form, Compound, parts_of, Lawful}
use Rattle.theory.specs.Induction.{fold_built, none, just}
use Rattle.theory.specs.Theorems.{type_at, types_of, TypeUnfolds, LeafUnfolds, FormUnfolds, RowsUnfold}
use Rattle.theory.proofs.Standing.{form_stands, same_built}
use Rattle.theory.proofs.Uses.{parts_row}

-- ---- a list that grows by its own front

module _ {R X : Type 0} (z : X) (f : List X → R → X) (grow : List X → List R → List X) (start : (done : List X) → grow done [] ≡ done)
    (next : (done : List X) (r : R) (rs : List R) → grow done (r ∷ rs) ≡ grow (done ++ f done r ∷ []) rs) where
  stays : (done : List X) (rs : List R) (i : ℕ) → i < length done → get_or (grow done rs) i z ≡ get_or done i z
  stays done [] i h = ap (λ l. get_or l i z) (start done)
  stays done (r ∷ rs) i h =
      let more = length_push done (f done r) in
      ap (λ l. get_or l i z) (next done r rs) ∙ stays (done ++ f done r ∷ []) rs i (omega arith) ∙ get_or_append_left done (f done r ∷ []) z i h

  -- what is at a place is made by its row of the whole, where f looks at earlier places only
  module _ (Q : ℕ → R → Type 0) (early : (n : ℕ) (r : R) (xs ys : List X) → Q n r → ((i : ℕ) → i < n → get_or xs i z ≡ get_or ys i z) → f xs r ≡ f ys r) where
    pub grown : (done : List X) (rs : List R) (p n : ℕ) (d : R) → p < length rs → n ≡ length done + p → Q n (get_or rs p d) → get_or (grow done rs) n z ≡ f (grow done rs) (get_or rs p d)
    grown done [] p n d h e q = absurd (omega arith)
    grown done (r ∷ rs) zero n d h e q =
        let more = length_push done (f done r) in
        let here : length done ≡ n = omega arith in
        ap (λ l. get_or l n z) (next done r rs) ∙ stays (done ++ f done r ∷ []) rs n (omega arith)
        ∙ get_or_at done (f done r) [] z n here
        ∙ early n r done (grow done (r ∷ rs)) q (λ i k. sym (stays done (r ∷ rs) i (omega arith)))
    grown done (r ∷ rs) (suc p) n d h e q =
        let more = length_push done (f done r) in
        let same = next done r rs in
        subst (λ l. get_or l n z ≡ f l (get_or rs p d)) (sym same) (grown (done ++ f done r ∷ []) rs p n d (omega arith) (omega arith) q)

-- ---- types

abbrev Early : ℕ → TypeRow → Type 0
Early n r = (r.kind ≡ 0 → ⊥) → (r.left < n) × (r.right < n)

type_early : (n : ℕ) (r : TypeRow) (Ts Us : List Ty) → Early n r → ((i : ℕ) → i < n → get_or Ts i nat ≡ get_or Us i nat) → type_of_row Ts r ≡ type_of_row Us r
type_early n r Ts Us e h = go r.kind e
  where
    go : (k : ℕ) → ((k ≡ 0 → ⊥) → (r.left < n) × (r.right < n))
        → cond (eqb k 0) nat (shaped (cond (eqb k 1) To Both) (get_or Ts r.left nat) (get_or Ts r.right nat))
        ≡ cond (eqb k 0) nat (shaped (cond (eqb k 1) To Both) (get_or Us r.left nat) (get_or Us r.right nat))
    go zero e = refl
    go (suc k) e =
        let b = e (λ z. omega arith) in
        let l = h r.left b.0 in
        let m = h r.right b.1 in
        λ i. cond (eqb (suc k) 0) nat (shaped (cond (eqb (suc k) 1) To Both) (l i) (m i))

module _ (ts : List TypeRow) (first : (d : TypeRow) → get_or ts 0 d ≡ nat_row) (later : (p : ℕ) (d : TypeRow) → 0 < p → p < length ts → Compound p (get_or ts p d)) where
  early_row : (p : ℕ) (d : TypeRow) → p < length ts → Early p (get_or ts p d)
  early_row zero d h ne = absurd (ne (ap (λ r. r.kind) (first d)))
  early_row (suc p) d h ne = let c = later (suc p) d (omega arith) h in (c.left, c.right)

  pub unfold_type : (p : ℕ) (d : TypeRow) → p < length ts → TypeUnfolds ts p (get_or ts p d)
  unfold_type p d h =
      let e = early_row p d h in
      record { earlier = e; stands = grown nat type_of_row types_from (λ Ts. refl) (λ Ts r rs. refl) Early type_early [] ts p p d h (omega arith) e }

-- ---- terms

leaf_early : (k m : ℕ) → k < 2 → (Ts : List Ty) (es : List Term) → term_of_row Ts es (leaf_row k m) ≡ cond (eqb k 0) (num m) (name m)
leaf_early zero m h Ts es = refl
leaf_early (suc zero) m h Ts es = refl
leaf_early (suc (suc k)) m h Ts es = absurd (omega arith)

term_early : (Ts : List Ty) (n p : ℕ) (r : TermRow) (es fs : List Term) → Row n p r → ((i : ℕ) → i < p → get_or es i (num 0) ≡ get_or fs i (num 0)) → term_of_row Ts es r ≡ term_of_row Ts fs r
term_early Ts n p r es fs (leaf k m a b is) h = subst (λ q. term_of_row Ts es q ≡ term_of_row Ts fs q) (sym is) (leaf_early k m a Ts es ∙ sym (leaf_early k m a Ts fs))
term_early Ts n p r es fs (form f xs ys a b c d is) h =
    subst (λ q. term_of_row Ts es q ≡ term_of_row Ts fs q) (sym is)
    (form_stands f Ts es xs ys
    ∙ same_built f (get_or Ts (get_or xs 0 0) nat) (get_or es (get_or ys 0 0) (num 0)) (get_or es (get_or ys 1 0) (num 0)) (get_or es (get_or ys 2 0) (num 0))
    (get_or Ts (get_or xs 0 0) nat ∷ []) (get_or fs (get_or ys 0 0) (num 0) ∷ get_or fs (get_or ys 1 0) (num 0) ∷ get_or fs (get_or ys 2 0) (num 0) ∷ [])
    (λ k. refl) (λ k. h (get_or ys 0 0) (below_at p ys d 0 (omega arith))) (λ k. h (get_or ys 1 0) (below_at p ys d 1 (omega arith))) (λ k. h (get_or ys 2 0) (below_at p ys d 2 (omega arith)))
    ∙ sym (form_stands f Ts fs xs ys))

row_stands : (s : Tables) → Lawful s → (p : ℕ) (d : TermRow) → p < length s.1 → term_at s p ≡ term_of_row (types_from [] s.0) (terms_from (types_from [] s.0) [] s.1) (get_or s.1 p d)
row_stands s l p d h =
    let Ts = types_from [] s.0 in
    grown (num 0) (term_of_row Ts) (terms_from Ts) (λ es. refl) (λ es r rs. refl) (Row (length s.0)) (λ n r xs ys q e. term_early Ts (length s.0) n r xs ys q e) [] s.1 p p d h (omega arith) (l.rows p d h)

-- ---- forms

-- the form and the types of a form's row are those that it was made of
pub record Own (f : Form) (xs ys : List ℕ) : Type 0 where
  pub low : 2 ≤ kind f
  pub its_form : form_at (kind f) ≡ f
  pub its_types : types_of (form_row f xs ys) ≡ xs

own : (f : Form) (xs ys : List ℕ) → length xs ≡ types f → Own f xs ys
own Succ xs ys d = record { low = omega arith; its_form = refl; its_types = none xs d }
own Ifz xs ys d = record { low = omega arith; its_form = refl; its_types = none xs d }
own Lam xs ys d = record { low = omega arith; its_form = refl; its_types = just 0 xs d }
own Ap xs ys d = record { low = omega arith; its_form = refl; its_types = none xs d }
own Fix xs ys d = record { low = omega arith; its_form = refl; its_types = just 0 xs d }
own Pair xs ys d = record { low = omega arith; its_form = refl; its_types = just 0 xs d }
own Fst xs ys d = record { low = omega arith; its_form = refl; its_types = none xs d }
own Snd xs ys d = record { low = omega arith; its_form = refl; its_types = none xs d }
own Add xs ys d = record { low = omega arith; its_form = refl; its_types = none xs d }
own Sub xs ys d = record { low = omega arith; its_form = refl; its_types = none xs d }
own Mul xs ys d = record { low = omega arith; its_form = refl; its_types = none xs d }
own Get xs ys d = record { low = omega arith; its_form = refl; its_types = none xs d }
own Fail xs ys d = record { low = omega arith; its_form = refl; its_types = just 0 xs d }
own Catch xs ys d = record { low = omega arith; its_form = refl; its_types = none xs d }

-- ---- numbers and names

unfold_leaf : (s : Tables) (p : ℕ) (r : TermRow) → Row (length s.0) p r → r.kind < 2 → term_at s p ≡ term_of_row (types_from [] s.0) (terms_from (types_from [] s.0) [] s.1) r → LeafUnfolds s p r
unfold_leaf s p r (leaf k m a b is) h e =
    subst (λ q. term_at s p ≡ term_of_row (types_from [] s.0) (terms_from (types_from [] s.0) [] s.1) q → LeafUnfolds s p q) (sym is) (λ g. record { small = b; stands = g ∙ leaf_early k m a (types_from [] s.0) (terms_from (types_from [] s.0) [] s.1) }) e
unfold_leaf s p r (form f xs ys a b c d is) h e = let k = ap (λ q. q.kind) is in let low = (own f xs ys a).low in absurd (omega arith)

map_at : {X : Type 0} (z : X) (g : ℕ → X) (ys : List ℕ) (i : ℕ) → i < length ys → g (get_or ys i 0) ≡ get_or (map g ys) i z
map_at z g [] i h = absurd (omega arith)
map_at z g (y ∷ ys) zero h = refl
map_at z g (y ∷ ys) (suc i) h = map_at z g ys i (omega arith)

unfold_row : (s : Tables) (p : ℕ) (f : Form) (xs ys : List ℕ) → length xs ≡ types f → length ys ≡ parts f → Below (length s.0) xs → Below p ys
    → term_at s p ≡ term_of_row (types_from [] s.0) (terms_from (types_from [] s.0) [] s.1) (form_row f xs ys) → FormUnfolds s p (form_row f xs ys)
unfold_row s p f xs ys a b c d e =
    let Ts = types_from [] s.0 in
    let es = terms_from Ts [] s.1 in
    let o = own f xs ys a in
    let its_parts = parts_row f xs ys b in
    record {
      all_types = ap length o.its_types ∙ a ∙ ap types (sym o.its_form);
      all_parts = ap length its_parts ∙ b ∙ ap parts (sym o.its_form);
      types_below = subst (Below (length s.0)) (sym o.its_types) c;
      parts_below = subst (Below p) (sym its_parts) d;
      stands =
          e ∙ form_stands f Ts es xs ys
          ∙ same_built f (get_or Ts (get_or xs 0 0) nat) (get_or es (get_or ys 0 0) (num 0)) (get_or es (get_or ys 1 0) (num 0)) (get_or es (get_or ys 2 0) (num 0))
          (map (type_at s.0) xs) (map (term_at s) ys)
          (λ k. map_at nat (type_at s.0) xs 0 (omega arith)) (λ k. map_at (num 0) (term_at s) ys 0 (omega arith)) (λ k. map_at (num 0) (term_at s) ys 1 (omega arith)) (λ k. map_at (num 0) (term_at s) ys 2 (omega arith))
          ∙ (λ i. built (sym o.its_form i) (map (type_at s.0) (sym o.its_types i)) (map (term_at s) (sym its_parts i)));
    }

unfold_form : (s : Tables) (p : ℕ) (r : TermRow) → Row (length s.0) p r → 2 ≤ r.kind → term_at s p ≡ term_of_row (types_from [] s.0) (terms_from (types_from [] s.0) [] s.1) r → FormUnfolds s p r
unfold_form s p r (leaf k m a b is) h e = let z = ap (λ q. q.kind) is in absurd (omega arith)
unfold_form s p r (form f xs ys a b c d is) h e =
    subst (λ q. term_at s p ≡ term_of_row (types_from [] s.0) (terms_from (types_from [] s.0) [] s.1) q → FormUnfolds s p q) (sym is) (unfold_row s p f xs ys a b c d) e

-- ---- how large the numbers are

abbrev no_row : TermRow
no_row = leaf_row 0 0

most_small : (g : ℕ → Term) (p : ℕ) (ys : List ℕ) → Below p ys → ((q : ℕ) → q < p → largest (g q) ≤ top) → most (map largest (map g ys)) ≤ top
most_small g p [] b h = omega arith
most_small g p (y ∷ ys) b h = let k = h y b.0 in let m = most_small g p ys b.1 h in omega arith

leaf_small : (t : Bool) (n : ℕ) → n ≤ top → largest (cond t (num n) (name n)) ≤ top
leaf_small true n h = h
leaf_small false n h = h

module _ (s : Tables) (l : Lawful s) where
  small_below : (m p : ℕ) → p < m → p < length s.1 → largest (term_at s p) ≤ top
  small_below zero p h lt = absurd (omega arith)
  small_below (suc m) p h lt = ⊎_elim low (high (λ q k. small_below m q (omega arith) (omega arith))) (order (get_or s.1 p no_row).kind 2)
    where
      r : TermRow
      r = get_or s.1 p no_row

      low : r.kind < 2 → largest (term_at s p) ≤ top
      low k = let u = unfold_leaf s p r (l.rows p no_row lt) k (row_stands s l p no_row lt) in subst (λ e. largest e ≤ top) (sym u.stands) (leaf_small (eqb r.kind 0) r.number u.small)

      high : ((q : ℕ) → q < p → largest (term_at s q) ≤ top) → 2 ≤ r.kind → largest (term_at s p) ≤ top
      high parts_small k =
          let u = unfold_form s p r (l.rows p no_row lt) k (row_stands s l p no_row lt) in
          let Ts = map (type_at s.0) (types_of r) in
          let es = map (term_at s) (parts_of r) in
          let a = length-map (types_of r) (type_at s.0) ∙ u.all_types in
          let b = length-map (parts_of r) (term_at s) ∙ u.all_parts in
          subst (λ e. largest e ≤ top) (sym u.stands)
          (subst (λ n. n ≤ top) (sym (fold_built numbers_in (form_at r.kind) Ts es a b)) (most_small (term_at s) p (parts_of r) u.parts_below parts_small))

pub rows_unfold : RowsUnfold
rows_unfold s l = record {
  type = unfold_type s.0 l.first l.later;
  leaf = λ p d h k. unfold_leaf s p (get_or s.1 p d) (l.rows p d h) k (row_stands s l p d h);
  form = λ p d h k. unfold_form s p (get_or s.1 p d) (l.rows p d h) k (row_stands s l p d h);
  small = λ p h. small_below s l (suc p) p (omega arith) h;
}
