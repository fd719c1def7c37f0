-- The test of term rows is the laws of term rows.
use Rattle.std.proofs.Common.{◌≡◌, ℕ, zero, suc, ◌<◌, ◌≤◌, Bool, true, false, ◌&&◌, eqb, ltb, leb, List, [], ◌∷◌, length, get_or, sym, refl, ap, ◌∙◌, subst, arith}
use Rattle.std.proofs.lemmas.Bool.{and_parts, and_from, ltb-true, lt-ltb, leb-true, eqb-true}
use Rattle.rows.specs.Limits.{top}
use Rattle.rows.specs.declared.tables.TermRow.{TermRow}
use Rattle.rows.specs.declared.forms.Form.{Form}
use Rattle.rows.specs.declared.forms.Form.TheVariants.{Succ, Ifz, Lam, Ap, Fix, Pair, Fst, Snd, Add, Sub, Mul, Get, Fail, Catch}
use Rattle.rows.specs.Forms.{kind, types, parts}
use Rattle.rows.specs.Rows.{leaf_row, form_row}
use Rattle.theory.specs.Laws.{Below, Row, leaf, form}
use Rattle.checker.specs.RowTests.{arity, typed, placed, parts_placed, good_row}
use Rattle.checker.proofs.ByKind.{kinds}
use Rattle.checker.proofs.Counts.{few_parts}
use Rattle.checker.proofs.Sheets.{Good}

abbrev pub row : ℕ → ℕ → ℕ → ℕ → ℕ → ℕ → TermRow
row k t n x y z = record { kind = k; ty = t; number = n; a = x; b = y; c = z }

abbrev three : ℕ → ℕ → ℕ → ℕ → ℕ → Bool
three m p x y z = placed (ltb 0 m) x p && (placed (ltb 1 m) y p && placed (ltb 2 m) z p)

-- ---- from the tests to the laws

-- the first m of three fields are places below p, and the others are 0
pub record Places (m p x y z : ℕ) : Type 0 where
  pub places : List ℕ
  pub count : length places ≡ m
  pub below : Below p places
  pub a : x ≡ get_or places 0 0
  pub b : y ≡ get_or places 1 0
  pub c : z ≡ get_or places 2 0

places_of : (m p x y z : ℕ) → m ≤ 3 → three m p x y z ≡ true → Places m p x y z
places_of m p x y z h e =
    let s = and_parts (placed (ltb 0 m) x p) (placed (ltb 1 m) y p && placed (ltb 2 m) z p) e in
    let t = and_parts (placed (ltb 1 m) y p) (placed (ltb 2 m) z p) s.1 in
    go m h s.0 t.0 t.1
  where
    go : (m : ℕ) → m ≤ 3 → placed (ltb 0 m) x p ≡ true → placed (ltb 1 m) y p ≡ true → placed (ltb 2 m) z p ≡ true → Places m p x y z
    go zero h ex ey ez = record { places = []; count = refl; below = tt; a = eqb-true x 0 ex; b = eqb-true y 0 ey; c = eqb-true z 0 ez }
    go (suc zero) h ex ey ez = record { places = x ∷ []; count = refl; below = (ltb-true x p ex, tt); a = refl; b = eqb-true y 0 ey; c = eqb-true z 0 ez }
    go (suc (suc zero)) h ex ey ez = record { places = x ∷ y ∷ []; count = refl; below = (ltb-true x p ex, (ltb-true y p ey, tt)); a = refl; b = refl; c = eqb-true z 0 ez }
    go (suc (suc (suc zero))) h ex ey ez = record { places = x ∷ y ∷ z ∷ []; count = refl; below = (ltb-true x p ex, (ltb-true y p ey, (ltb-true z p ez, tt))); a = refl; b = refl; c = refl }
    go (suc (suc (suc (suc m)))) h ex ey ez = absurd (omega arith)

few_types : (f : Form) → types f ≤ 1
few_types Succ = omega arith
few_types Ifz = omega arith
few_types Lam = omega arith
few_types Ap = omega arith
few_types Fix = omega arith
few_types Pair = omega arith
few_types Fst = omega arith
few_types Snd = omega arith
few_types Add = omega arith
few_types Sub = omega arith
few_types Mul = omega arith
few_types Get = omega arith
few_types Fail = omega arith
few_types Catch = omega arith

type_of : (m n t : ℕ) → m ≤ 1 → placed (ltb 0 m) t n ≡ true → (xs : List ℕ) × (length xs ≡ m) × Below n xs × (t ≡ get_or xs 0 0)
type_of zero n t h e = ([], refl, tt, eqb-true t 0 e)
type_of (suc zero) n t h e = (t ∷ [], refl, (ltb-true t n e, tt), refl)
type_of (suc (suc m)) n t h e = absurd (omega arith)

module _ (n p t m x y z : ℕ) where
  form_law : (f : Form) → eqb m 0 ≡ true → placed (ltb 0 (types f)) t n ≡ true → three (parts f) p x y z ≡ true → Row n p (row (kind f) t m x y z)
  form_law f em et ep =
      let ts = type_of (types f) n t (few_types f) et in
      let ps = places_of (parts f) p x y z (few_parts f) ep in
      let zero_number = eqb-true m 0 em in
      form f ts.0 ps.places ts.1 ps.count ts.2 ps.below
      (λ i. record { kind = kind f; ty = ts.3 i; number = zero_number i; a = ps.a i; b = ps.b i; c = ps.c i })

  leaf_law : (k : ℕ) → k < 2 → ltb m (suc top) ≡ true → eqb t 0 ≡ true → three 0 p x y z ≡ true → Row n p (row k t m x y z)
  leaf_law k h em et ep =
      let ps = places_of 0 p x y z (omega arith) ep in
      let number = ltb-true m (suc top) em in
      let none = type_of 0 n t (omega arith) et in
      let ys = none_of ps.places ps.count in
      leaf k m h (omega arith)
      (λ i. record { kind = k; ty = eqb-true t 0 et i; number = m; a = (ps.a ∙ ap (λ l. get_or l 0 0) ys) i; b = (ps.b ∙ ap (λ l. get_or l 1 0) ys) i; c = (ps.c ∙ ap (λ l. get_or l 2 0) ys) i })
    where
      none_of : (l : List ℕ) → length l ≡ 0 → l ≡ []
      none_of [] e = refl
      none_of (v ∷ l) e = absurd (omega arith)

  row_law_at : (k : ℕ) → k ≤ 15 → Good n p (row k t m x y z) → Row n p (row k t m x y z)
  row_law_at =
      kinds (λ k. Good n p (row k t m x y z) → Row n p (row k t m x y z))
      (λ g. leaf_law 0 (omega arith) g.number g.type g.parts)
      (λ g. leaf_law 1 (omega arith) g.number g.type g.parts)
      (λ g. form_law Succ g.number g.type g.parts)
      (λ g. form_law Ifz g.number g.type g.parts)
      (λ g. form_law Lam g.number g.type g.parts)
      (λ g. form_law Ap g.number g.type g.parts)
      (λ g. form_law Fix g.number g.type g.parts)
      (λ g. form_law Pair g.number g.type g.parts)
      (λ g. form_law Fst g.number g.type g.parts)
      (λ g. form_law Snd g.number g.type g.parts)
      (λ g. form_law Add g.number g.type g.parts)
      (λ g. form_law Sub g.number g.type g.parts)
      (λ g. form_law Mul g.number g.type g.parts)
      (λ g. form_law Get g.number g.type g.parts)
      (λ g. form_law Fail g.number g.type g.parts)
      (λ g. form_law Catch g.number g.type g.parts)

pub row_law : (n p : ℕ) (r : TermRow) → Good n p r → Row n p r
row_law n p r g = row_law_at n p r.ty r.number r.a r.b r.c r.kind (leb-true r.kind 15 g.kind) g

-- ---- and back

-- what the test asks of a form's kind
pub record Facts (f : Form) : Type 0 where
  pub small : leb (kind f) 15 ≡ true
  pub numberless : ltb (kind f) 2 ≡ false
  pub parts_are : arity (kind f) ≡ parts f
  pub types_are : typed (kind f) ≡ ltb 0 (types f)

facts : (f : Form) → Facts f
facts Succ = record { small = refl; numberless = refl; parts_are = refl; types_are = refl }
facts Ifz = record { small = refl; numberless = refl; parts_are = refl; types_are = refl }
facts Lam = record { small = refl; numberless = refl; parts_are = refl; types_are = refl }
facts Ap = record { small = refl; numberless = refl; parts_are = refl; types_are = refl }
facts Fix = record { small = refl; numberless = refl; parts_are = refl; types_are = refl }
facts Pair = record { small = refl; numberless = refl; parts_are = refl; types_are = refl }
facts Fst = record { small = refl; numberless = refl; parts_are = refl; types_are = refl }
facts Snd = record { small = refl; numberless = refl; parts_are = refl; types_are = refl }
facts Add = record { small = refl; numberless = refl; parts_are = refl; types_are = refl }
facts Sub = record { small = refl; numberless = refl; parts_are = refl; types_are = refl }
facts Mul = record { small = refl; numberless = refl; parts_are = refl; types_are = refl }
facts Get = record { small = refl; numberless = refl; parts_are = refl; types_are = refl }
facts Fail = record { small = refl; numberless = refl; parts_are = refl; types_are = refl }
facts Catch = record { small = refl; numberless = refl; parts_are = refl; types_are = refl }

three_so : (p : ℕ) (ys : List ℕ) → length ys ≤ 3 → Below p ys → three (length ys) p (get_or ys 0 0) (get_or ys 1 0) (get_or ys 2 0) ≡ true
three_so p [] h b = refl
three_so p (x ∷ []) h b = and_from (ltb x p) true (lt-ltb x p b.0) refl
three_so p (x ∷ y ∷ []) h b = and_from (ltb x p) (ltb y p && true) (lt-ltb x p b.0) (and_from (ltb y p) true (lt-ltb y p b.1.0) refl)
three_so p (x ∷ y ∷ z ∷ []) h b = and_from (ltb x p) (ltb y p && ltb z p) (lt-ltb x p b.0) (and_from (ltb y p) (ltb z p) (lt-ltb y p b.1.0) (lt-ltb z p b.1.1.0))
three_so p (x ∷ y ∷ z ∷ w ∷ ys) h b = absurd (omega arith)

type_so : (n : ℕ) (xs : List ℕ) → length xs ≤ 1 → Below n xs → placed (ltb 0 (length xs)) (get_or xs 0 0) n ≡ true
type_so n [] h b = refl
type_so n (x ∷ []) h b = lt-ltb x n b.0
type_so n (x ∷ y ∷ xs) h b = absurd (omega arith)

-- the four tests put together
tests : (n p : ℕ) (r : TermRow) → Good n p r → good_row n p r ≡ true
tests n p r g =
    and_from (leb r.kind 15) (placed (ltb r.kind 2) r.number (suc top) && (placed (typed r.kind) r.ty n && parts_placed p r)) g.kind
    (and_from (placed (ltb r.kind 2) r.number (suc top)) (placed (typed r.kind) r.ty n && parts_placed p r) g.number
    (and_from (placed (typed r.kind) r.ty n) (parts_placed p r) g.type g.parts))

form_so : (n p : ℕ) (f : Form) (xs ys : List ℕ) → length xs ≡ types f → length ys ≡ parts f → Below n xs → Below p ys → Good n p (form_row f xs ys)
form_so n p f xs ys lx ly bx by =
    let k = facts f in
    record {
      kind = k.small;
      number = ap (λ u. placed u 0 (suc top)) k.numberless;
      type = ap (λ u. placed u (get_or xs 0 0) n) (k.types_are ∙ ap (ltb 0) (sym lx)) ∙ type_so n xs (omega (arith, lx, few_types f)) bx;
      parts = ap (λ m. three m p (get_or ys 0 0) (get_or ys 1 0) (get_or ys 2 0)) (k.parts_are ∙ sym ly) ∙ three_so p ys (omega (arith, ly, few_parts f)) by;
    }

leaf_so : (n p k m : ℕ) → k < 2 → m ≤ top → Good n p (leaf_row k m)
leaf_so n p zero m h le = record { kind = refl; number = lt-ltb m (suc top) (omega arith); type = refl; parts = refl }
leaf_so n p (suc zero) m h le = record { kind = refl; number = lt-ltb m (suc top) (omega arith); type = refl; parts = refl }
leaf_so n p (suc (suc k)) m h le = absurd (omega arith)

pub row_so : (n p : ℕ) (r : TermRow) → Row n p r → good_row n p r ≡ true
row_so n p r (leaf k m h le e) = tests n p r (subst (Good n p) (sym e) (leaf_so n p k m h le))
row_so n p r (form f xs ys lx ly bx by e) = tests n p r (subst (Good n p) (sym e) (form_so n p f xs ys lx ly bx by))
