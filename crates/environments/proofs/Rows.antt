-- The nodes of lawful tables are lawful, and stand for what the rows stand for.
use Rattle.std.proofs.Common.{◌≡◌, ℕ, zero, suc, ◌+◌, ◌-◌, ◌<◌, ◌≤◌, Bool, true, false, cond, ◌&&◌, eqb, ltb, List, [], ◌∷◌, ◌++◌, map, length, get_or, refl, ap, ◌∙◌, subst, arith, lt-ltb, le-leb}
use Rattle.std.proofs.lemmas.Bool.{and_from}
use Rattle.std.proofs.lemmas.List.{length-map, get_or-map}
use Rattle.rows.specs.Limits.{top}
use Rattle.rows.specs.declared.forms.Form.{Form}
use Rattle.rows.specs.declared.forms.Form.TheVariants.{Succ, Ifz, Lam, Ap, Fix, Pair, Fst, Snd, Add, Sub, Mul, Get}
use Rattle.rows.specs.declared.forms.Form.TheVariants.{Fail, Catch}
use Rattle.rows.specs.declared.tables.TermRow.{TermRow}
use Rattle.rows.specs.Forms.{parts, form_at}
use Rattle.rows.specs.Rows.{leaf_row, form_row}
use Rattle.theory.specs.Syntax.{Ty, nat, Term, num, name}
use Rattle.theory.specs.Folds as T
use Rattle.theory.specs.Emit.{Tables}
use Rattle.theory.specs.Stands.{types_from, term_of_row, terms_from}
use Rattle.theory.specs.Laws.{Below, Row, leaf, form, Lawful}
use Rattle.environments.specs.Folds.{grown, lawful}
use Rattle.environments.specs.Nodes.{Number, Name, form_node, node_of, blank_node, nodes_of}
use Rattle.environments.specs.NodeTerms.{node_term_at, term_of, node_is_fit, terms_of}
use Rattle.environments.specs.Laws.{NodesOf}

-- ---- terms

form_stands : (es : List Term) (f : Form) (U : Ty) (a b c : ℕ)
    → term_of es (form_node f U a b c) ≡ T.built f (U ∷ []) (node_term_at es a ∷ node_term_at es b ∷ node_term_at es c ∷ [])
form_stands es Succ U a b c = refl
form_stands es Ifz U a b c = refl
form_stands es Lam U a b c = refl
form_stands es Ap U a b c = refl
form_stands es Fix U a b c = refl
form_stands es Pair U a b c = refl
form_stands es Fst U a b c = refl
form_stands es Snd U a b c = refl
form_stands es Add U a b c = refl
form_stands es Sub U a b c = refl
form_stands es Mul U a b c = refl
form_stands es Get U a b c = refl
form_stands es Fail U a b c = refl
form_stands es Catch U a b c = refl

-- A row and its node stand for the same term, over any terms.
node_stands : (Ts : List Ty) (es : List Term) (r : TermRow) → term_of es (node_of Ts r) ≡ term_of_row Ts es r
unfolding node_of
node_stands Ts es r = go (eqb r.kind 0) (eqb r.kind 1)
  where
    go : (x y : Bool) →
        term_of es (cond x (Number r.number) (cond y (Name r.number)
        (form_node (form_at r.kind) (get_or Ts r.ty nat) r.a r.b r.c)))
        ≡ cond x (num r.number) (cond y (name r.number)
        (T.built (form_at r.kind) (get_or Ts r.ty nat ∷ [])
        (node_term_at es r.a ∷ node_term_at es r.b ∷ node_term_at es r.c ∷ [])))
    go true y = refl
    go false true = refl
    go false false = form_stands es (form_at r.kind) (get_or Ts r.ty nat) r.a r.b r.c

terms_same : (Ts : List Ty) (es : List Term) (rs : List TermRow)
    → grown term_of es (map (node_of Ts) rs) ≡ terms_from Ts es rs
unfolding grown
terms_same Ts es [] = refl
terms_same Ts es (r ∷ rs) =
    ap (λ (t : Term). grown term_of (es ++ (t ∷ [])) (map (node_of Ts) rs)) (node_stands Ts es r)
    ∙ terms_same Ts (es ++ (term_of_row Ts es r ∷ [])) rs

-- ---- places

below_at : (p : ℕ) (ys : List ℕ) (i : ℕ) → Below p ys → i < length ys → ltb (get_or ys i 0) p ≡ true
below_at p [] i b l = absurd (omega arith)
below_at p (y ∷ ys) zero b l = lt-ltb y p b.0
below_at p (y ∷ ys) (suc i) b l = below_at p ys i b.1 (omega arith)

module _ (Ts : List Ty) (p : ℕ) (xs ys : List ℕ) (b : Below p ys) where
  one_part : length ys ≡ 1 → ltb (get_or ys 0 0) p ≡ true
  one_part h = below_at p ys 0 b (omega arith)

  two_parts : length ys ≡ 2 → (ltb (get_or ys 0 0) p && ltb (get_or ys 1 0) p) ≡ true
  two_parts h =
      and_from (ltb (get_or ys 0 0) p) (ltb (get_or ys 1 0) p) (below_at p ys 0 b (omega arith))
      (below_at p ys 1 b (omega arith))

  three_parts : length ys ≡ 3 → (ltb (get_or ys 0 0) p && (ltb (get_or ys 1 0) p && ltb (get_or ys 2 0) p)) ≡ true
  three_parts h =
      and_from (ltb (get_or ys 0 0) p) (ltb (get_or ys 1 0) p && ltb (get_or ys 2 0) p) (below_at p ys 0 b (omega arith))
      (and_from (ltb (get_or ys 1 0) p) (ltb (get_or ys 2 0) p) (below_at p ys 1 b (omega arith))
      (below_at p ys 2 b (omega arith)))

  form_fits : (f : Form) → length ys ≡ parts f → node_is_fit p (node_of Ts (form_row f xs ys)) ≡ true
  unfolding node_of
  form_fits Succ h = one_part h
  form_fits Ifz h = three_parts h
  form_fits Lam h = one_part h
  form_fits Ap h = two_parts h
  form_fits Fix h = one_part h
  form_fits Pair h = two_parts h
  form_fits Fst h = one_part h
  form_fits Snd h = one_part h
  form_fits Add h = two_parts h
  form_fits Sub h = two_parts h
  form_fits Mul h = two_parts h
  form_fits Get h = one_part h
  form_fits Fail h = refl
  form_fits Catch h = two_parts h

leaf_fits : (Ts : List Ty) (p k m : ℕ) → k < 2 → m ≤ top → node_is_fit p (node_of Ts (leaf_row k m)) ≡ true
unfolding node_of
leaf_fits Ts p zero m h l = le-leb m top l
leaf_fits Ts p (suc zero) m h l = refl
leaf_fits Ts p (suc (suc k)) m h l = absurd (omega arith)

row_fits : (Ts : List Ty) (n p : ℕ) (r : TermRow) → Row n p r → node_is_fit p (node_of Ts r) ≡ true
row_fits Ts n p r (leaf k m h l e) = ap (λ x. node_is_fit p (node_of Ts x)) e ∙ leaf_fits Ts p k m h l
row_fits Ts n p r (form f xs ys hx hy bx by e) = ap (λ x. node_is_fit p (node_of Ts x)) e ∙ form_fits Ts p xs ys by f hy

lawful_map : {R Q : Type 0} (t : ℕ → R → Bool) (f : Q → R) (d : Q) (n : ℕ) (qs : List Q)
    → ((j : ℕ) → j < length qs → t (n + j) (f (get_or qs j d)) ≡ true) → lawful t n (map f qs) ≡ true
unfolding lawful
lawful_map t f d n [] h = refl
lawful_map t f d n (q ∷ qs) h =
    let here : t n (f q) ≡ true = let e : n + 0 ≡ n = omega arith in
    subst (λ (m : ℕ). t m (f q) ≡ true) e (h 0 (omega arith)) in
    let there : (j : ℕ) → j < length qs → t (suc n + j) (f (get_or qs j d)) ≡ true =
    λ j l. let e : n + suc j ≡ suc n + j =
    omega arith in subst (λ (m : ℕ). t m (f (get_or qs j d)) ≡ true) e (h (suc j) (omega arith)) in
    and_from (t n (f q)) (lawful t (suc n) (map f qs)) here (lawful_map t f d (suc n) qs there)

-- ---- both

pub nodes_stand : (s : Tables) → Lawful s → NodesOf s
nodes_stand s law =
    let Ts = types_from [] s.0 in
    let count : length (nodes_of s) ≡ length s.1 = length-map s.1 (node_of Ts) in
    let same : terms_of (nodes_of s) ≡ terms_from Ts [] s.1 = terms_same Ts [] s.1 in
    let fit : (j : ℕ) → j < length s.1 → node_is_fit (0 + j) (node_of Ts (get_or s.1 j (leaf_row 0 0))) ≡ true =
    λ j l.
    let e : j ≡ 0 + j = omega arith in
    subst (λ (m : ℕ). node_is_fit m (node_of Ts (get_or s.1 j (leaf_row 0 0))) ≡ true) e
    (row_fits Ts (length s.0) j (get_or s.1 j (leaf_row 0 0)) (law.rows j (leaf_row 0 0) l)) in
    record {
      lawful = lawful_map node_is_fit (node_of Ts) (leaf_row 0 0) 0 s.1 (λ j l. fit j l);
      count = count;
      node = λ p d l. get_or-map (node_of Ts) s.1 p d blank_node l;
      terms = λ p. ap (λ ts. node_term_at ts p) same;
      rule = (λ i. node_term_at (same i) (count i - 1));
    }
