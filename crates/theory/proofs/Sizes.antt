-- The rule of lawful tables has as many rows as the term table: each row is a part once, so that none is counted twice.
use Rattle.std.proofs.Common.{◌≡◌, ℕ, zero, suc, ◌+◌, ◌-◌, ◌*◌, ◌<◌, Bool, true, false, cond, eqb, List, [], ◌∷◌, map, length, get_or, take, sym, refl, ap, ◌∙◌, subst, ⊎_elim, add-mul, one-mul, zero-mul, arith}
use mathlib.Core.List.{map-map}
use Rattle.std.proofs.str.Laws.{order}
use Rattle.std.proofs.lemmas.Bool.{lt-ltb}
use Rattle.std.proofs.lemmas.List.{length_push, length-map}
use Rattle.rows.specs.declared.tables.TermRow.{TermRow}
use Rattle.rows.specs.Forms.{parts, form_at}
use Rattle.rows.specs.Rows.{leaf_row, form_row}
use Rattle.theory.specs.Syntax.{Term, num, name}
use Rattle.theory.specs.Lists.{All}
use Rattle.theory.specs.Folds.{Terms, fold}
use Rattle.theory.specs.Emit.{Tables, emit_all, emit_type, term_emits, emit, empty, rows_of}
use Rattle.theory.specs.Stands.{term_at, rule_of}
use Rattle.theory.specs.Laws.{Below, parts_of, times, uses, Lawful}
use Rattle.theory.specs.Induction.{by_forms, fold_built}
use Rattle.theory.specs.Theorems.{type_at, types_of, Unfolds}
use Rattle.theory.proofs.Lawful.{below_more}
use Rattle.theory.proofs.Uses.{hit, miss, types_terms}

-- ---- sums

abbrev total : List ℕ → ℕ
total [] = 0
total (n ∷ ns) = n + total ns

-- of f over the places below n
abbrev below : (ℕ → ℕ) → ℕ → ℕ
below f zero = 0
below f (suc n) = below f n + f n

same_below : (f g : ℕ → ℕ) (n : ℕ) → ((q : ℕ) → q < n → f q ≡ g q) → below f n ≡ below g n
same_below f g zero h = refl
same_below f g (suc n) h = let a = same_below f g n (λ q k. h q (omega arith)) in let b = h n (omega arith) in omega arith

two_below : (f g : ℕ → ℕ) (n : ℕ) → below (λ q. f q + g q) n ≡ below f n + below g n
two_below f g zero = refl
two_below f g (suc n) = let a = two_below f g n in omega arith

none_below : (f : ℕ → ℕ) (n : ℕ) → ((q : ℕ) → q < n → f q ≡ 0) → below f n ≡ 0
none_below f zero h = refl
none_below f (suc n) h = let a = none_below f n (λ q k. h q (omega arith)) in let b = h n (omega arith) in omega arith

module _ (f : ℕ → ℕ) where
  -- a place counted where it is
  one_below : (y n : ℕ) → y < n → below (λ q. cond (eqb q y) 1 0 * f q) n ≡ f y
  one_below y zero h = absurd (omega arith)
  one_below y (suc n) h =
      ⊎_elim
      (λ lt.
      let a = one_below y n lt in
      let b = ap (λ k. k * f n) (miss n y (λ e. omega arith)) ∙ zero-mul (f n) in
      omega arith)
      (λ ge.
      let here : y ≡ n = omega arith in
      let a = none_below (λ q. cond (eqb q y) 1 0 * f q) n (λ q k. ap (λ j. j * f q) (miss q y (λ e. omega arith)) ∙ zero-mul (f q)) in
      let b = ap (λ k. k * f n) (hit n y (sym here)) ∙ one-mul (f n) in
      let c = ap f here in
      omega arith)
      (order y n)

  -- each place as often as it is in a list
  times_below : (n : ℕ) (ys : List ℕ) → Below n ys → below (λ q. times q ys * f q) n ≡ total (map f ys)
  times_below n [] b = none_below (λ q. 0 * f q) n (λ q k. zero-mul (f q))
  times_below n (y ∷ ys) b =
      same_below (λ q. (cond (eqb q y) 1 0 + times q ys) * f q) (λ q. cond (eqb q y) 1 0 * f q + times q ys * f q) n (λ q k. add-mul (cond (eqb q y) 1 0) (times q ys) (f q))
      ∙ two_below (λ q. cond (eqb q y) 1 0 * f q) (λ q. times q ys * f q) n
      ∙ (let a = one_below y n b.0 in let c = times_below n ys b.1 in omega arith)

  -- and as often as it is a part
  abbrev parts_total : List TermRow → ℕ
  parts_total [] = 0
  parts_total (r ∷ rs) = total (map f (parts_of r)) + parts_total rs

  uses_below : (n : ℕ) (rs : List TermRow) → All (λ r. Below n (parts_of r)) rs → below (λ q. uses q rs * f q) n ≡ parts_total rs
  uses_below n [] h = none_below (λ q. 0 * f q) n (λ q k. zero-mul (f q))
  uses_below n (r ∷ rs) h =
      same_below (λ q. (times q (parts_of r) + uses q rs) * f q) (λ q. times q (parts_of r) * f q + uses q rs * f q) n (λ q k. add-mul (times q (parts_of r)) (uses q rs) (f q))
      ∙ two_below (λ q. times q (parts_of r) * f q) (λ q. uses q rs * f q) n
      ∙ (let a = times_below n (parts_of r) h.0 in let c = uses_below n rs h.1 in omega arith)

  -- where f of a place is one more than that of its parts, the rows from place i on
  rows_total : (i : ℕ) (rs : List TermRow) (d : TermRow) → ((j : ℕ) → j < length rs → f (i + j) ≡ suc (total (map f (parts_of (get_or rs j d))))) → below f (i + length rs) ≡ below f i + (length rs + parts_total rs)
  rows_total i [] d h = let same : i + 0 ≡ i = omega arith in ap (below f) same ∙ omega arith
  rows_total i (r ∷ rs) d h =
      let on : i + length (r ∷ rs) ≡ suc i + length rs = omega arith in
      let here : f i ≡ suc (total (map f (parts_of r))) = (let same : i ≡ i + 0 = omega arith in ap f same ∙ h 0 (omega arith)) in
      let rest = rows_total (suc i) rs d (λ j k. let same : suc i + j ≡ i + suc j = omega arith in ap f same ∙ h (suc j) (omega arith)) in
      ap (below f) on ∙ rest ∙ omega arith

-- ---- sizes

abbrev sizes : Terms ℕ
sizes = record { number = λ n. 1; called = λ d. 1; form = λ f Ts ns. suc (total ns) }

abbrev size : Term → ℕ
size e = fold sizes e

abbrev Laid : Term → Type 0
Laid e = (s : Tables) → length (emit e s).0.1 ≡ length s.1 + size e

all_laid : (es : List Term) → All Laid es → (s : Tables) → length (emit_all (map emit es) s).0.1 ≡ length s.1 + total (map size es)
all_laid [] h s = omega arith
all_laid (e ∷ es) h s = let a = h.0 s in let b = all_laid es h.1 (emit e s).0 in omega arith

laid_size : (e : Term) → Laid e
laid_size = by_forms Laid
    (λ n s. let l = length_push s.1 (leaf_row 0 n) in omega arith)
    (λ n s. let l = length_push s.1 (leaf_row 1 n) in omega arith)
    (λ f Ts es d e h s.
    let is = ap (λ l. length (l s).0.1) (fold_built term_emits f Ts es d e) in
    let s1 = emit_all (map emit_type Ts) s in
    let s2 = emit_all (map emit es) s1.0 in
    let l = length_push s2.0.1 (form_row f s1.1 s2.1) in
    let a = all_laid es h s1.0 in
    let b = ap length (types_terms Ts s) in
    let c = fold_built sizes f Ts es d e in
    omega arith)

-- ---- the rule's size

abbrev no_row : TermRow
no_row = leaf_row 0 0

no_parts : (r : TermRow) → r.kind < 2 → parts_of r ≡ []
no_parts r h = ap (λ t. cond t [] (take (parts (form_at r.kind)) (r.a ∷ r.b ∷ r.c ∷ []))) (lt-ltb r.kind 2 h)

leaf_size : (b : Bool) (n : ℕ) → size (cond b (num n) (name n)) ≡ 1
leaf_size true n = refl
leaf_size false n = refl

all_at : {X : Type 0} (P : X → Type 0) (rs : List X) (d : X) → ((i : ℕ) → i < length rs → P (get_or rs i d)) → All P rs
all_at P [] d h = tt
all_at P (r ∷ rs) d h = (h 0 (omega arith), all_at P rs d (λ i k. h (suc i) (omega arith)))

module _ (s : Tables) (l : Lawful s) (u : Unfolds s) where
  abbrev sized : ℕ → ℕ
  sized p = size (term_at s p)

  abbrev row : ℕ → TermRow
  row p = get_or s.1 p no_row

  row_size : (p : ℕ) → p < length s.1 → sized p ≡ suc (total (map sized (parts_of (row p))))
  row_size p h =
      ⊎_elim
      (λ k. ap size (u.leaf p no_row h k).stands ∙ leaf_size (eqb (row p).kind 0) (row p).number ∙ ap (λ ps. suc (total (map sized ps))) (sym (no_parts (row p) k)))
      (λ k.
      let v = u.form p no_row h k in
      let Ts = map (type_at s.0) (types_of (row p)) in
      let es = map (term_at s) (parts_of (row p)) in
      let a = length-map (types_of (row p)) (type_at s.0) ∙ v.all_types in
      let b = length-map (parts_of (row p)) (term_at s) ∙ v.all_parts in
      ap size v.stands ∙ fold_built sizes (form_at (row p).kind) Ts es a b ∙ ap (λ ns. suc (total ns)) (map-map size (term_at s) (parts_of (row p))))
      (order (row p).kind 2)

  row_below : (p : ℕ) → p < length s.1 → Below p (parts_of (row p))
  row_below p h = ⊎_elim (λ k. subst (Below p) (sym (no_parts (row p) k)) tt) (λ k. (u.form p no_row h k).parts_below) (order (row p).kind 2)

  last_size : (m : ℕ) → suc m ≡ length s.1 → sized m ≡ suc m
  last_size m is =
      let all = all_at (λ r. Below m (parts_of r)) s.1 no_row (λ p h. below_more p m (parts_of (row p)) (omega arith) (row_below p h)) in
      let parts : below sized m ≡ parts_total sized s.1 = same_below sized (λ q. uses q s.1 * sized q) m (λ q k. sym (ap (λ n. n * sized q) (l.once q (omega arith)) ∙ one-mul (sized q))) ∙ uses_below sized m s.1 all in
      let rows = rows_total sized 0 s.1 no_row (λ j k. let same : 0 + j ≡ j = omega arith in ap sized same ∙ row_size j k) in
      let whole : below sized (suc m) ≡ length s.1 + parts_total sized s.1 = (let same : suc m ≡ 0 + length s.1 = omega arith in ap (below sized) same ∙ rows ∙ omega arith) in
      omega arith

  pub as_many : length (rows_of (rule_of s)).1 ≡ length s.1
  as_many =
      let some = l.term_count.0 in
      let m = length s.1 - 1 in
      let is : suc m ≡ length s.1 = omega arith in
      laid_size (rule_of s) empty ∙ (let k = last_size m is in omega arith)
