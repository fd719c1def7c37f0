-- The texts of rows, by those of the rows before them.
use Rattle.std.proofs.Common.{◌≡◌, ℕ, zero, suc, ◌<◌, ◌≤◌, cond, eqb, ◌⊎◌, List, [], ◌∷◌, ◌++◌, map, length, get_or, take, drop, ◌+◌, Some, None, Option, codes, decimal, sym, refl, ap, ◌∙◌, subst, ⊎_elim, append_assoc, append-nil, arith, eq-eqb, ne_eqb, le-ltb}
use mathlib.Core.List.{map-map}
use Rattle.std.proofs.lemmas.List.{length-map, at_drop_more, at_drop_all, get_or-map}
use Rattle.rows.specs.declared.forms.Shape.{Shape}
use Rattle.rows.specs.declared.forms.Shape.TheVariants.{To, Both}
use Rattle.rows.specs.declared.forms.Form.{Form}
use Rattle.rows.specs.declared.forms.Head.{Head}
use Rattle.rows.specs.declared.forms.Head.TheVariants.{Number, Name, Form as Bracketed}
use Rattle.rows.specs.declared.tables.TypeRow.{TypeRow}
use Rattle.rows.specs.declared.tables.TermRow.{TermRow}
use Rattle.rows.specs.Forms.{types, parts, form_at, head_at, shape_at}
use Rattle.rows.specs.Rows.{nat_row, leaf_row}
use Rattle.theory.specs.Syntax.{nat, num, name}
use Rattle.theory.specs.Folds.{shaped}
use Rattle.theory.specs.Emit.{Tables}
use Rattle.theory.specs.Stands.{term_at}
use Rattle.theory.specs.Laws.{Below, below_at, parts_of, Lawful}
use Rattle.theory.specs.Induction.{fold_shaped, fold_built}
use Rattle.theory.specs.Theorems.{RowsUnfold, type_at, types_of, TypeUnfolds, LeafUnfolds, FormUnfolds}
use Rattle.grammar.specs.Words.{word, shape_word}
use Rattle.grammar.specs.Tight.{spaced, bracketed, tight_types, tight_type, tight_terms, tight}
use Rattle.text.specs.Writes.{type_text, term_text}

-- ---- types

-- the kinds of functions and pairs
shaped_kind : (n : ℕ) (k : Shape) → shape_at n ≡ Some k → (n ≡ 0 → ⊥) × (cond (eqb n 1) To Both ≡ k)
shaped_kind zero k e = let z : ◌≡◌ {A = ℕ} 0 1 = cc in absurd (omega arith)
shaped_kind (suc zero) k e = (λ z. absurd (omega arith), cc)
shaped_kind (suc (suc zero)) k e = (λ z. absurd (omega arith), cc)
shaped_kind (suc (suc (suc n))) k e =
    let none : shape_at (suc (suc (suc n))) ≡ None =
    ap (λ b. cond b (Some To) (cond (eqb (suc (suc (suc n))) 2) (Some Both) None)) (ne_eqb (suc (suc (suc n))) 1 (λ z. omega arith))
    ∙ ap (λ b. cond b (Some Both) None) (ne_eqb (suc (suc (suc n))) 2 (λ z. omega arith)) in
    let z : ◌≡◌ {A = ℕ} 0 1 = cc in
    absurd (omega arith)

shape_row_text : (ts : List TypeRow) (p : ℕ) (r : TypeRow) (k : Shape) → TypeUnfolds ts p r → shape_at r.kind ≡ Some k
    → type_text ts p ≡ codes "(" ++ (shape_word k ++ ((codes " " ++ type_text ts r.left) ++ ((codes " " ++ type_text ts r.right) ++ codes ")")))
shape_row_text ts p r k u e =
    let t = type_text ts r.left in
    let v = type_text ts r.right in
    let is = shaped_kind r.kind k e in
    let tail : (t ++ (codes " " ++ (v ++ []))) ++ codes ")" ≡ t ++ (codes " " ++ (v ++ codes ")")) = append_assoc t (codes " " ++ (v ++ [])) (codes ")") ∙ ap (λ l. t ++ (codes " " ++ (l ++ codes ")"))) (append-nil v) in
    ap tight_type (u.stands ∙ ap (λ b. cond b nat (shaped (cond (eqb r.kind 1) To Both) (type_at ts r.left) (type_at ts r.right))) (ne_eqb r.kind 0 is.0) ∙ ap (λ q. shaped q (type_at ts r.left) (type_at ts r.right)) is.1)
    ∙ fold_shaped tight_types k (type_at ts r.left) (type_at ts r.right)
    ∙ ap (λ l. codes "(" ++ (shape_word k ++ (codes " " ++ l))) tail

no_shape : (n : ℕ) → (n ≡ 1) ⊎ (n ≡ 2) → shape_at n ≡ None → ⊥
no_shape n h e =
    ⊎_elim
    (λ one. let z : Some To ≡ None = ap shape_at (sym one) ∙ e in let y : ◌≡◌ {A = ℕ} 0 1 = cc in omega arith)
    (λ two. let z : Some Both ≡ None = ap shape_at (sym two) ∙ e in let y : ◌≡◌ {A = ℕ} 0 1 = cc in omega arith)
    h

nat_kind : (s : Tables) → Lawful s → (p : ℕ) → p < length s.0 → shape_at (get_or s.0 p nat_row).kind ≡ None → (get_or s.0 p nat_row).kind ≡ 0
nat_kind s l zero lt e = ap (λ (r : TypeRow). r.kind) (l.first nat_row)
nat_kind s l (suc p) lt e = absurd (no_shape _ (l.later (suc p) nat_row (omega arith) lt).kind e)

nat_row_text : (s : Tables) → Lawful s → (p : ℕ) → p < length s.0 → TypeUnfolds s.0 p (get_or s.0 p nat_row) → shape_at (get_or s.0 p nat_row).kind ≡ None → type_text s.0 p ≡ codes "nat"
nat_row_text s l p lt u e =
    let r = get_or s.0 p nat_row in
    ap tight_type (u.stands ∙ ap (λ b. cond b nat (shaped (cond (eqb r.kind 1) To Both) (type_at s.0 r.left) (type_at s.0 r.right))) (eq-eqb r.kind 0 (nat_kind s l p lt e)))

-- a type as the code reads its row, and its text with a space before it
abbrev pub type_row : List TypeRow → ℕ → TypeRow
type_row ts p = get_or ts p nat_row

abbrev pub side : List TypeRow → ℕ → List ℕ
side ts q = codes " " ++ type_text ts q

-- from what the calls say of the row
module _ (s : Tables) (ts : List TypeRow) (p : ℕ) (o : Option Shape) (unfolds : RowsUnfold) (l : Lawful s) (same : ts ≡ s.0) (inside : p < length s.0) (found : o ≡ shape_at (type_row ts p).kind) where
  pub natural : o ≡ None → side s.0 p ≡ codes " nat"
  natural none = ap (λ t. codes " " ++ t) (nat_row_text s l p inside ((unfolds s l).type p nat_row inside) (ap (λ q. shape_at (type_row q p).kind) (sym same) ∙ sym found ∙ none))

  pub compound : (k : Shape) (w : List ℕ) → o ≡ Some k → w ≡ codes " (" ++ shape_word k → side s.0 p ≡ w ++ (side s.0 (type_row ts p).left ++ (side s.0 (type_row ts p).right ++ codes ")"))
  compound k w some word =
      let u = subst (TypeUnfolds s.0 p) (ap (λ q. type_row q p) (sym same)) ((unfolds s l).type p nat_row inside) in
      ap (λ t. codes " " ++ t) (shape_row_text s.0 p (type_row ts p) k u (sym found ∙ some))
      ∙ ap (λ t. t ++ (side s.0 (type_row ts p).left ++ (side s.0 (type_row ts p).right ++ codes ")"))) (sym word)

-- ---- terms

form_head : (n : ℕ) → 2 ≤ n → head_at n ≡ Bracketed (form_at n)
form_head n h = ap (λ b. cond b (cond (eqb n 0) Number Name) (Bracketed (form_at n))) (le-ltb n 2 h)

number_kind : (n : ℕ) → head_at n ≡ Number → n ≡ 0
number_kind zero e = refl
number_kind (suc zero) e = let z : ◌≡◌ {A = ℕ} 0 1 = cc in absurd (omega arith)
number_kind (suc (suc n)) e = let h = form_head (suc (suc n)) (omega arith) in let z : ◌≡◌ {A = ℕ} 0 1 = cc in absurd (omega arith)

name_kind : (n : ℕ) → head_at n ≡ Name → n ≡ 1
name_kind zero e = let z : ◌≡◌ {A = ℕ} 0 1 = cc in absurd (omega arith)
name_kind (suc zero) e = refl
name_kind (suc (suc n)) e = let h = form_head (suc (suc n)) (omega arith) in let z : ◌≡◌ {A = ℕ} 0 1 = cc in absurd (omega arith)

form_kind : (n : ℕ) (f : Form) → head_at n ≡ Bracketed f → (2 ≤ n) × (f ≡ form_at n)
form_kind zero f e = let z : ◌≡◌ {A = ℕ} 0 1 = cc in absurd (omega arith)
form_kind (suc zero) f e = let z : ◌≡◌ {A = ℕ} 0 1 = cc in absurd (omega arith)
form_kind (suc (suc n)) f e = let h = form_head (suc (suc n)) (omega arith) in (omega arith, cc)

form_text : (s : Tables) (p : ℕ) (r : TermRow) → FormUnfolds s p r → term_text s p ≡ bracketed (word (form_at r.kind)) (map (type_text s.0) (types_of r)) (map (term_text s) (parts_of r))
form_text s p r u =
    let f = form_at r.kind in
    let Ts = map (type_at s.0) (types_of r) in
    let es = map (term_at s) (parts_of r) in
    let a = length-map (types_of r) (type_at s.0) ∙ u.all_types in
    let b = length-map (parts_of r) (term_at s) ∙ u.all_parts in
    ap tight u.stands ∙ fold_built tight_terms f Ts es a b
    ∙ (λ i. bracketed (word f) (map-map tight_type (type_at s.0) (types_of r) i) (map-map tight (term_at s) (parts_of r) i))

-- a term as the code reads its row, and the rows of its parts
abbrev pub term_row : List TermRow → ℕ → TermRow
term_row es p = get_or es p (leaf_row 0 0)

abbrev pub parts_in : TermRow → ℕ → List ℕ
parts_in r n = take n (r.a ∷ r.b ∷ r.c ∷ [])

-- the parts from one on, with the closing bracket
abbrev pub parts_from : Tables → List ℕ → ℕ → List ℕ
parts_from s qs i = spaced (drop i (map (term_text s) qs)) ++ codes ")"

-- the type of a form, if it has one
abbrev pub types_in : Tables → TermRow → ℕ → List ℕ
types_in s r n = spaced (map (type_text s.0) (take n (r.ty ∷ [])))

-- from what the calls say of the row
module _ (s : Tables) (es : List TermRow) (p : ℕ) (h : Head) (unfolds : RowsUnfold) (l : Lawful s) (same : es ≡ s.1) (inside : p < length s.1) (found : h ≡ head_at (term_row es p).kind) where
  leaf : (term_row es p).kind < 2 → LeafUnfolds s p (term_row es p)
  leaf k = subst (λ q. LeafUnfolds s p (term_row q p)) (sym same) ((unfolds s l).leaf p (leaf_row 0 0) inside (subst (λ q. (term_row q p).kind < 2) same k))

  pub numeral : h ≡ Number → term_text s p ≡ decimal (term_row es p).number
  numeral is =
      let r = term_row es p in
      let k = number_kind r.kind (sym found ∙ is) in
      ap tight ((leaf (omega arith)).stands ∙ ap (λ b. cond b (num r.number) (name r.number)) (eq-eqb r.kind 0 k))

  pub called : h ≡ Name → term_text s p ≡ codes "#" ++ decimal (term_row es p).number
  called is =
      let r = term_row es p in
      let k = name_kind r.kind (sym found ∙ is) in
      ap tight ((leaf (omega arith)).stands ∙ ap (λ b. cond b (num r.number) (name r.number)) (ne_eqb r.kind 0 (λ z. omega arith)))

  module _ (f : Form) (is : h ≡ Bracketed f) where
    kind : (2 ≤ (term_row es p).kind) × (f ≡ form_at (term_row es p).kind)
    kind = form_kind (term_row es p).kind f (sym found ∙ is)

    form : FormUnfolds s p (term_row es p)
    form = subst (λ q. FormUnfolds s p (term_row q p)) (sym same) ((unfolds s l).form p (leaf_row 0 0) inside (subst (λ q. 2 ≤ (term_row q p).kind) same kind.0))

    parts_are : (n : ℕ) → n ≡ parts f → parts_of (term_row es p) ≡ parts_in (term_row es p) n
    parts_are n e =
        let r = term_row es p in
        ap (λ b. cond b [] (parts_in r (parts (form_at r.kind)))) (le-ltb r.kind 2 kind.0) ∙ ap (parts_in r) (ap parts (sym kind.1) ∙ sym e)

    pub bracketed_text : (w : List ℕ) (m n : ℕ) → w ≡ codes "(" ++ word f → m ≡ types f → n ≡ parts f → term_text s p ≡ w ++ (types_in s (term_row es p) m ++ parts_from s (parts_in (term_row es p) n) 0)
    bracketed_text w m n a b c =
        let r = term_row es p in
        form_text s p r form
        ∙ (λ i. (ap (λ g. codes "(" ++ word g) (sym kind.1) ∙ sym a) i ++ (types_in s r ((ap types (sym kind.1) ∙ sym b) i) ++ (spaced (map (term_text s) (parts_are n c i)) ++ codes ")")))

    pub type_below : types f ≡ 1 → (term_row es p).ty < length s.0
    type_below e =
        let r = term_row es p in
        let b : Below (length s.0) (take 1 (r.ty ∷ [])) = subst (λ k. Below (length s.0) (take k (r.ty ∷ []))) (ap types (sym kind.1) ∙ e) form.types_below in
        b.0

    pub part_below : (n i : ℕ) → n ≡ parts f → i < length (parts_in (term_row es p) n) → get_or (parts_in (term_row es p) n) i 0 < p
    part_below n i e lt = below_at p (parts_in (term_row es p) n) (subst (Below p) (parts_are n e) form.parts_below) i lt

pub one_type : (s : Tables) (r : TermRow) (rest : List ℕ) → types_in s r 1 ++ rest ≡ side s.0 r.ty ++ rest
one_type s r rest = ap (λ t. (codes " " ++ t) ++ rest) (append-nil (type_text s.0 r.ty))

-- a part more
pub next_part : (s : Tables) (qs : List ℕ) (i : ℕ) → i < length qs → parts_from s qs i ≡ codes " " ++ (term_text s (get_or qs i 0) ++ parts_from s qs (i + 1))
next_part s qs i lt =
    let rest = spaced (drop (i + 1) (map (term_text s) qs)) in
    at_drop_more (λ l. spaced l ++ codes ")") (map (term_text s) qs) i [] (omega (arith, length-map qs (term_text s)))
    ∙ ap (λ t. codes " " ++ t) (append_assoc (get_or (map (term_text s) qs) i []) rest (codes ")"))
    ∙ ap (λ t. codes " " ++ (t ++ parts_from s qs (i + 1))) (get_or-map (term_text s) qs i 0 [] lt)

pub no_part : (s : Tables) (qs : List ℕ) (i : ℕ) → length qs ≤ i → parts_from s qs i ≡ codes ")"
no_part s qs i ge = at_drop_all (λ l. spaced l ++ codes ")") (map (term_text s) qs) i (omega (arith, length-map qs (term_text s)))
