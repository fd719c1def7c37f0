-- The parts of a row, one after the other.
use Rattle.std.proofs.Common.{◌≡◌, ℕ, zero, suc, ◌+◌, ◌<◌, ◌≤◌, Bool, true, false, cond, ltb, List, [], ◌∷◌, length, get_or, set, take, is_some, Some, None, Ok, Err, Option, sym, refl, ap, ◌∙◌, subst, ⊎_elim, add-zero, add-one, below_more, arith}
use Rattle.std.specs.Bool.{then_some}
use Rattle.std.specs.Option.{ok_or, option_or}
use Rattle.std.proofs.lemmas.List.{get_or-take, length-take, length-set, get_or-set_same, get_or-set_other}
use Rattle.std.proofs.lemmas.Bool.{cases_lt, lt-ltb, le-ltb}
use Rattle.rows.specs.declared.tables.TypeRow.{TypeRow}
use Rattle.rows.specs.declared.tables.TermRow.{TermRow}
use Rattle.std.specs.List.{slice_get}
use Rattle.checker.specs.Lowest.{first_of, lower}
use Rattle.checker.specs.RowTests.{no_row, arity, parts_placed, PartsPlaced}
use Rattle.checker.specs.Depths.{opens, deep_at}
use Rattle.checker.specs.Shapes.{bound_at}
use Rattle.checker.specs.Types.{Found, under, fault, type_in, settled, own_type, type_at}
use Rattle.checker.proofs.Counts.{zero_count, arity_small}
use Rattle.checker.proofs.Deeps.{deep_step}
use Rattle.checker.proofs.Placing.{a_below, b_below, c_below}
use Rattle.checker.proofs.Shallows.{first_none, lower_none, shallow, opens_bound}
use Rattle.checker.proofs.Typings.{type_step}

abbrev pub part : TermRow → ℕ → ℕ
part r k = get_or (r.a ∷ r.b ∷ r.c ∷ []) k 0

-- the name that a part is under, by any number that is the part's place
pub same_bound : (ts : List TypeRow) (r : TermRow) (k i : ℕ) → k ≡ i → bound_at ts r k ≡ bound_at ts r i
same_bound ts r k i e = ap (bound_at ts r) e

-- how many names part k is under
abbrev pub opened : List TypeRow → TermRow → ℕ → ℕ
opened ts r k = cond (is_some (bound_at ts r k)) 1 0

-- the lowest of the first n
abbrev pub lowered : (ℕ → Option ℕ) → ℕ → Option ℕ
lowered f zero = None
lowered f (suc n) = lower (lowered f n) (f n)

lower_last : (x : Option ℕ) → x ≡ lower x None
lower_last None = refl
lower_last (Some i) = refl

lower_assoc : (x y z : Option ℕ) → lower (lower x y) z ≡ lower x (lower y z)
lower_assoc None y z = refl
lower_assoc (Some i) None z = refl
lower_assoc (Some i) (Some j) None = refl
lower_assoc (Some i) (Some j) (Some k) = ap (λ n. Some n) (omega arith)

lower_three : (f : ℕ → Option ℕ) (n : ℕ) → n ≤ 3 → lowered f n ≡ lower (cond (ltb 0 n) (f 0) None) (lower (cond (ltb 1 n) (f 1) None) (cond (ltb 2 n) (f 2) None))
lower_three f zero h = refl
lower_three f (suc zero) h = lower_last (f 0)
lower_three f (suc (suc zero)) h = ap (lower (f 0)) (lower_last (f 1))
lower_three f (suc (suc (suc zero))) h = lower_assoc (f 0) (f 1) (f 2)
lower_three f (suc (suc (suc (suc n)))) h = absurd (omega arith)

pub lowered_more : (f : ℕ → Option ℕ) (n : ℕ) (x y : Option ℕ) → x ≡ lowered f n → y ≡ f n → lower x y ≡ lowered f (n + 1)
lowered_more f n x y d e = (λ j. lower (d j) (e j)) ∙ ap (lowered f) (sym (add-one n))

lowered_none : (f : ℕ → Option ℕ) (n : ℕ) → lowered f n ≡ None → (k : ℕ) → k < n → f k ≡ None
lowered_none f zero e k h = absurd (omega arith)
lowered_none f (suc n) e k h =
    let parts = lower_none (lowered f n) (f n) e in
    ⊎_elim (λ (s : k < n). lowered_none f n parts.0 k s)
    (λ (s : n ≤ k). let z : k ≡ n = omega arith in rw z parts.1)
    (cases_lt k n)

or_first : (x y : Option ℕ) → option_or x y ≡ first_of x y
or_first None y = refl
or_first (Some i) y = refl

then_cond : (b : Bool) (i : ℕ) → then_some b i ≡ cond b (Some i) None
then_cond true i = refl
then_cond false i = refl

-- what was found in the parts, or else the row itself
pub or_own : (x x' : Option ℕ) (b : Bool) (i : ℕ) → x ≡ x' → option_or x (then_some b i) ≡ first_of x' (cond b (Some i) None)
or_own x x' b i e = or_first x (then_some b i) ∙ (λ j. first_of (e j) (then_cond b i j))

module _ (r : TermRow) (n i : ℕ) (counted : n ≡ arity r.kind) where
  pub part_taken : i < length (take n (r.a ∷ r.b ∷ r.c ∷ [])) → (i < arity r.kind) × (get_or (take n (r.a ∷ r.b ∷ r.c ∷ [])) i 0 ≡ part r i)
  part_taken h =
      let lt : i < n = omega (arith, length-take n (r.a ∷ r.b ∷ r.c ∷ [])) in
      (omega arith, get_or-take n (r.a ∷ r.b ∷ r.c ∷ []) i 0 lt)

  pub parts_taken : length (take n (r.a ∷ r.b ∷ r.c ∷ [])) ≤ i → i ≤ length (take n (r.a ∷ r.b ∷ r.c ∷ [])) → i ≡ arity r.kind
  parts_taken h k = omega (arith, length-take n (r.a ∷ r.b ∷ r.c ∷ []), arity_small r.kind)

-- a part is an earlier row
pub part_below : (i : ℕ) (r : TermRow) → parts_placed i r ≡ true → (k : ℕ) → k < arity r.kind → part r k < i
part_below i r good zero h = a_below i r good (lt-ltb 0 (arity r.kind) h)
part_below i r good (suc zero) h = b_below i r good (lt-ltb 1 (arity r.kind) h)
part_below i r good (suc (suc zero)) h = c_below i r good (lt-ltb 2 (arity r.kind) h)
part_below i r good (suc (suc (suc k))) h = absurd (omega (arith, arity_small r.kind))

module _ (limit : ℕ) (ts : List TypeRow) (es : List TermRow) (good : PartsPlaced es) (i d : ℕ) (lt : i < length es) where
  pub deep_parts : first_of (lowered (λ k. deep_at limit es (part (get_or es i no_row) k) (d + opened ts (get_or es i no_row) k)) (arity (get_or es i no_row).kind)) (cond (ltb limit d) (Some i) None) ≡ deep_at limit es i d
  deep_parts =
      let r = get_or es i no_row in
      let n = arity r.kind in
      let own : Option ℕ = cond (ltb limit d) (Some i) None in
      ap (λ o. first_of o own) (lower_three (λ k. deep_at limit es (part r k) (d + opened ts r k)) n (arity_small r.kind))
      ∙ ap (λ m. first_of (lower (cond (ltb 0 n) (deep_at limit es r.a (d + m)) None) (lower (cond (ltb 1 n) (deep_at limit es r.b (d + 0)) None) (cond (ltb 2 n) (deep_at limit es r.c (d + 1)) None))) own) (opens_bound ts r)
      ∙ ap (λ m. first_of (lower (cond (ltb 0 n) (deep_at limit es r.a (d + cond (opens r.kind) 1 0)) None) (lower (cond (ltb 1 n) (deep_at limit es r.b m) None) (cond (ltb 2 n) (deep_at limit es r.c (d + 1)) None))) own) (add-zero d)
      ∙ sym (deep_step limit es good i d lt)

  -- where no row is too deep, there is room for the names of each part
  pub record Room (k : ℕ) : Type 0 where
    pub below : part (get_or es i no_row) k < i
    pub shallow : deep_at limit es (part (get_or es i no_row) k) (d + opened ts (get_or es i no_row) k) ≡ None
    pub fits : d + opened ts (get_or es i no_row) k ≤ limit

  pub room_part : deep_at limit es i d ≡ None → (k : ℕ) → k < arity (get_or es i no_row).kind → Room k
  room_part none k h =
      let r = get_or es i no_row in
      let f = λ (k : ℕ). deep_at limit es (part r k) (d + opened ts r k) in
      let parts = first_none (lowered f (arity r.kind)) (cond (ltb limit d) (Some i) None) (deep_parts ∙ none) in
      let below = part_below i r (good i lt) k h in
      let none_k = lowered_none f (arity r.kind) parts.0 k h in
      record { below = below; shallow = none_k; fits = shallow limit es good (part r k) (d + opened ts r k) (omega (arith, below)) none_k }

pub fault_cond : (b : Bool) (o : Found) → fault (cond b o (Ok 0)) ≡ cond b (fault o) None
fault_cond true o = refl
fault_cond false o = refl

-- what is found of part k of row i
abbrev pub found : List TypeRow → List TermRow → ℕ → List ℕ → ℕ → Found
found ts es i names k = type_at ts es (part (get_or es i no_row) k) (under (bound_at ts (get_or es i no_row) k) names)

-- the lowest fault and the types of the first n parts
pub record Done (F : ℕ → Found) (n : ℕ) (low : Option ℕ) (types : List ℕ) : Type 0 where
  pub lowest : low ≡ lowered (λ k. fault (F k)) n
  pub three : length types ≡ 3
  pub same : (k : ℕ) → k < n → get_or types k 0 ≡ type_in (F k)
  pub none : (k : ℕ) → n ≤ k → get_or types k 0 ≡ 0

pub done_none : (F : ℕ → Found) → Done F 0 None (0 ∷ 0 ∷ 0 ∷ [])
done_none F = record { lowest = refl; three = refl; same = λ k h. absurd (omega arith); none = λ k h. zero_count 3 k }

pub done_at : {F : ℕ → Found} {n : ℕ} {low low' : Option ℕ} {types types' : List ℕ} → low' ≡ low → types' ≡ types → Done F n low types → Done F n low' types'
done_at {F} {n} {low} {low'} {types} {types'} e f d = subst (λ x. Done F n x types') (sym e) (subst (λ y. Done F n low y) (sym f) d)

pub done_ok : (F : ℕ → Found) (n : ℕ) (low : Option ℕ) (types : List ℕ) (t : ℕ) → n < 3 → Done F n low types → F n ≡ Ok t → Done F (n + 1) low (set types n t)
done_ok F n low types t h d e = record {
  lowest = d.lowest ∙ lower_last (lowered (λ k. fault (F k)) n) ∙ ap (lower (lowered (λ k. fault (F k)) n)) (ap fault (sym e)) ∙ ap (lowered (λ k. fault (F k))) (sym (add-one n));
  three = length-set types n t ∙ d.three;
  same = below_more (λ k. get_or (set types n t) k 0 ≡ type_in (F k)) n (λ k lt. get_or-set_other types n k t 0 (omega arith) ∙ d.same k lt) (get_or-set_same types n t 0 (omega (arith, d.three)) ∙ ap type_in (sym e));
  none = λ k le. get_or-set_other types n k t 0 (omega arith) ∙ d.none k (omega arith);
}

pub done_err : (F : ℕ → Found) (n : ℕ) (low : Option ℕ) (types : List ℕ) (q : ℕ) → Done F n low types → F n ≡ Err q → Done F (n + 1) (lower low (Some q)) types
done_err F n low types q d e = record {
  lowest = lowered_more (λ k. fault (F k)) n low (Some q) d.lowest (ap fault (sym e));
  three = d.three;
  same = below_more (λ k. get_or types k 0 ≡ type_in (F k)) n d.same (d.none n (omega arith) ∙ ap type_in (sym e));
  none = λ k le. d.none k (omega arith);
}

module _ (ts : List TypeRow) (es : List TermRow) (good : PartsPlaced es) (i : ℕ) (lt : i < length es) (names : List ℕ) (low : Option ℕ) (types : List ℕ) where
  abbrev part_found : ℕ → Found
  part_found k = cond (ltb k (arity (get_or es i no_row).kind)) (found ts es i names k) (Ok 0)

  type_found : Done (found ts es i names) (arity (get_or es i no_row).kind) low types → (k : ℕ) → get_or types k 0 ≡ type_in (part_found k)
  type_found d k =
      let n = arity (get_or es i no_row).kind in
      let F = found ts es i names k in
      ⊎_elim
      (λ (h : k < n). d.same k h ∙ ap (λ b. type_in (cond b F (Ok 0))) (sym (lt-ltb k n h)))
      (λ (h : n ≤ k). d.none k h ∙ ap (λ b. type_in (cond b F (Ok 0))) (sym (le-ltb k n h)))
      (cases_lt k n)

  -- what the parts come to
  pub type_parts : (n : ℕ) → n ≡ arity (get_or es i no_row).kind → Done (found ts es i names) n low types → settled i low (own_type ts (get_or es i no_row) (slice_get names (get_or es i no_row).number) (get_or types 0 0) (get_or types 1 0) (get_or types 2 0)) ≡ type_at ts es i names
  type_parts n e d' =
      let r = get_or es i no_row in
      let name = slice_get names r.number in
      let d = subst (λ m. Done (found ts es i names) m low types) e d' in
      let t = type_found d in
      let f : (k : ℕ) → cond (ltb k (arity r.kind)) (fault (found ts es i names k)) None ≡ fault (part_found k) = λ k. sym (fault_cond (ltb k (arity r.kind)) (found ts es i names k)) in
      ap (λ o. settled i o (own_type ts r name (get_or types 0 0) (get_or types 1 0) (get_or types 2 0))) (d.lowest ∙ lower_three (λ k. fault (found ts es i names k)) (arity r.kind) (arity_small r.kind))
      ∙ (λ j. settled i (lower (f 0 j) (lower (f 1 j) (f 2 j))) (own_type ts r name (t 0 j) (t 1 j) (t 2 j)))
      ∙ sym (type_step ts es good i names lt)

pub ok_or_settled : (p : ℕ) (t : Option ℕ) → ok_or t p ≡ settled p None t
ok_or_settled p None = refl
ok_or_settled p (Some t) = refl
