-- What the verdict means.
use Rattle.std.proofs.Common.{◌≡◌, ℕ, suc, ◌+◌, ◌-◌, ◌<◌, ◌≤◌, Bool, true, false, cond, not, eqb, ltb, ◌⊎◌, List, [], ◌∷◌, length, is_some, Some, None, Ok, Err, Option, Result, sym, refl, ap, ◌∙◌, subst, inl, inr, ⊎_elim, arith}
use Rattle.std.specs.List.{slice_get}
use Rattle.std.proofs.lemmas.Bool.{ltb-true, eqb-true, eqb-false, false≢true}
use Rattle.rows.specs.declared.tables.TermRow.{TermRow}
use Rattle.rows.specs.declared.tables.TypeRow.{TypeRow}
use Rattle.theory.specs.Syntax.{Ty, nat}
use Rattle.theory.specs.Emit.{Tables}
use Rattle.theory.specs.Stands.{term_at, rule_of}
use Rattle.theory.specs.Laws.{Lawful}
use Rattle.theory.specs.Typing.{◌⊢◌∶◌}
use Rattle.checker.specs.declared.refusal.Fault.TheVariants.{TableSize, BadType, BadTerm, PartUse, TooDeep, NotNat}
use Rattle.checker.specs.declared.refusal.Refusal.{Refusal}
use Rattle.checker.specs.Lowest.{first_of, lower, lowest}
use Rattle.checker.specs.RowTests.{arity, good_type, good_term}
use Rattle.checker.specs.Depths.{opens, deep_at}
use Rattle.checker.specs.Types.{Found, fault, type_in, settled, own_type, bound, under, no_type, type_at}
use Rattle.checker.specs.Verdicts.{refusal, at_row, sizes, rows_verdict, ends, verdict, answer, passes}
use Rattle.checker.specs.Contexts.{Context, Fills, HasType, row_at, Under}
use Rattle.checker.specs.Theorems.{Rule, Shallow, LowestDeep, LowestUntyped, OtherType, Says, Means, Deep, Lasts, VerdictMeans}
use Rattle.checker.proofs.Deeps.{deep_step}
use Rattle.checker.proofs.Shallows.{some_none, some_same, shallow, opens_bound}
use Rattle.checker.proofs.Sights.{length_under}
use Rattle.checker.proofs.Sheets.{Kept, kept, kept_placed}
use Rattle.checker.proofs.TableLaws.{lawful, keeps, kept_so}
use Rattle.checker.proofs.TypeRows.{ty_at, nat_at, one_place}
use Rattle.checker.proofs.Typings.{type_step}
use Rattle.checker.proofs.Parts.{fault_cond}
use Rattle.checker.proofs.Sound.{err_ok, at, context}
use Rattle.checker.proofs.Complete.{Typed, solid, fill, H}
use Rattle.checker.proofs.Typed.{sound, complete}
use Rattle.checker.proofs.Lifts.{enough}
use Rattle.checker.proofs.Faulty.{option_cases, found, every}

length_context : (ts : List TypeRow) (l : List ℕ) → length (context ts l) ≡ length l
length_context ts [] = refl
length_context ts (t ∷ l) = ap suc (length_context ts l)

-- ---- depth

module _ (s : Tables) (k : Kept s) (sight : ℕ) where
  abbrev deep_in : ℕ → List ℕ → Option ℕ
  deep_in p l = deep_at sight s.1 p (length l)

  abbrev deep_own : ℕ → List ℕ → Option ℕ
  deep_own p l = cond (ltb sight (length l)) (Some p) None

  first_depth : (r : TermRow) (l : List ℕ) → length l + cond (opens r.kind) 1 0 ≡ length (under (bound s.0 r) l)
  first_depth r l = omega (arith, length_under (bound s.0 r) l, opens_bound s.0 r)

  third_depth : (l : List ℕ) → length l + 1 ≡ length (0 ∷ l)
  third_depth l = omega arith

  deep_unfolds : (p : ℕ) (l : List ℕ) → p < length s.1 → deep_in p l ≡ first_of
      (lower (cond (ltb 0 (arity (row_at s p).kind)) (deep_in (row_at s p).a (under (bound s.0 (row_at s p)) l)) None)
      (lower (cond (ltb 1 (arity (row_at s p).kind)) (deep_in (row_at s p).b l) None)
      (cond (ltb 2 (arity (row_at s p).kind)) (deep_in (row_at s p).c (0 ∷ l)) None)))
      (deep_own p l)
  deep_unfolds p l lt =
      let r = row_at s p in
      let part = deep_at sight s.1 in
      deep_step sight s.1 (kept_placed s k) p (length l) lt
      ∙ ap (λ n. first_of (lower (cond (ltb 0 (arity r.kind)) (part r.a n) None) (lower (cond (ltb 1 (arity r.kind)) (part r.b (length l)) None) (cond (ltb 2 (arity r.kind)) (part r.c (length l + 1)) None))) (deep_own p l)) (first_depth r l)
      ∙ ap (λ n. first_of (lower (cond (ltb 0 (arity r.kind)) (part r.a (length (under (bound s.0 r) l))) None) (lower (cond (ltb 1 (arity r.kind)) (part r.b (length l)) None) (cond (ltb 2 (arity r.kind)) (part r.c n) None))) (deep_own p l)) (third_depth l)

  own_deep : (b : Bool) (p q : ℕ) → cond b (Some p) None ≡ Some q → (b ≡ true) × (p ≡ q)
  own_deep true p q e = (refl, some_same e)
  own_deep false p q e = absurd (some_none q (sym e))

  deep_owns : (p : ℕ) (l : List ℕ) (q : ℕ) → deep_own p l ≡ Some q → p ≡ q
  deep_owns p l q e = (own_deep (ltb sight (length l)) p q e).1

  -- a row under too many binders has a fault at no later row
  faulty : (T : ℕ → Type 0) → ((i j : ℕ) → i ≤ j → T i → T j) → ((j : ℕ) → deep_in (length s.1 - 1) [] ≡ Some j → T j) → (p : ℕ) (Γ : Context) → Under s p Γ → (length Γ ≤ sight) ⊎ ((j : ℕ) × T j × (j ≤ p))
  faulty T up top p Γ d =
      let w = every s k deep_in deep_own deep_unfolds deep_owns T up top d in
      ⊎_elim
      (λ (e : deep_in p w.names ≡ None). inl (omega (arith, shallow sight s.1 (kept_placed s k) p (length w.names) w.within e, ap length w.is, length_context s.0 w.names)))
      (λ (j : (q : ℕ) × (deep_in p w.names ≡ Some q)). let h = w.holds j.0 j.1 in inr (j.0, h.0, h.1))
      (option_cases (deep_in p w.names))

  pub shallow_so : deep_at sight s.1 (length s.1 - 1) 0 ≡ None → Shallow s sight
  shallow_so e p Γ d =
      ⊎_elim (λ (h : length Γ ≤ sight). h) (λ (w : (j : ℕ) × ⊥ × (j ≤ p)). absurd w.1)
      (faulty (λ _. ⊥) (λ i j h x. x) (λ j e'. some_none j (sym e' ∙ e)) p Γ d)

  pub lowest_deep : (q : ℕ) → deep_at sight s.1 (length s.1 - 1) 0 ≡ Some q → LowestDeep s sight q
  lowest_deep q e =
      let w = found s k deep_in deep_own deep_unfolds deep_owns q e in
      let own = own_deep (ltb sight (length w.names)) w.at q w.holds.2 in
      record {
        lawful = lawful s k;
        context = context s.0 w.names;
        under = subst (λ p. Under s p (context s.0 w.names)) own.1 w.under;
        deep = omega (arith, ltb-true sight (length w.names) own.0, length_context s.0 w.names);
        lower = λ p Γ lt d.
            ⊎_elim (λ (h : length Γ ≤ sight). h) (λ (x : (j : ℕ) × (q ≤ j) × (j ≤ p)). absurd (omega (arith, x.1, x.2, lt)))
            (faulty (λ j. q ≤ j) (λ i j h x. omega arith) (λ j e'. let z = some_same (sym e ∙ e') in omega (arith, z)) p Γ d);
      }

  pub not_deep : Shallow s sight → deep_at sight s.1 (length s.1 - 1) 0 ≡ None
  not_deep h =
      ⊎_elim (λ (e : deep_at sight s.1 (length s.1 - 1) 0 ≡ None). e)
      (λ (w : (q : ℕ) × (deep_at sight s.1 (length s.1 - 1) 0 ≡ Some q)). let x = lowest_deep w.0 w.1 in absurd (omega (arith, x.deep, h w.0 x.context x.under)))
      (option_cases (deep_at sight s.1 (length s.1 - 1) 0))

-- ---- types

found_cases : (o : Found) → ((t : ℕ) × (o ≡ Ok t)) ⊎ ((q : ℕ) × (o ≡ Err q))
found_cases (Ok t) = inl (t, refl)
found_cases (Err q) = inr (q, refl)

fault_err : (o : Found) (q : ℕ) → fault o ≡ Some q → o ≡ Err q
fault_err (Ok t) q e = absurd (some_none q (sym e))
fault_err (Err p) q e = ap (λ x. Err x) (some_same e)

fault_settled : (p : ℕ) (o t : Option ℕ) → fault (settled p o t) ≡ first_of o (fault (settled p None t))
fault_settled p (Some q) t = refl
fault_settled p None t = refl

fault_owns : (p : ℕ) (t : Option ℕ) (q : ℕ) → fault (settled p None t) ≡ Some q → p ≡ q
fault_owns p (Some t) q e = absurd (some_none q (sym e))
fault_owns p None q e = some_same e

fills : (ts : List TypeRow) (K : Ty) (l : List ℕ) → Fills (context ts l) (fill ts K l)
fills ts K [] = tt
fills ts K (t ∷ l) = go (eqb t no_type) (fills ts K l)
  where
    go : (b : Bool) → Fills (context ts l) (fill ts K l) → Fills (cond b None (Some (ty_at ts t)) ∷ context ts l) (cond b K (ty_at ts t) ∷ fill ts K l)
    go true h = h
    go false h = (refl, h)

module _ (s : Tables) (k : Kept s) where
  abbrev type_in_a : ℕ → List ℕ → Found
  type_in_a p l = cond (ltb 0 (arity (row_at s p).kind)) (type_at s.0 s.1 (row_at s p).a (under (bound s.0 (row_at s p)) l)) (Ok 0)

  abbrev type_in_b : ℕ → List ℕ → Found
  type_in_b p l = cond (ltb 1 (arity (row_at s p).kind)) (type_at s.0 s.1 (row_at s p).b l) (Ok 0)

  abbrev type_in_c : ℕ → List ℕ → Found
  type_in_c p l = cond (ltb 2 (arity (row_at s p).kind)) (type_at s.0 s.1 (row_at s p).c (0 ∷ l)) (Ok 0)

  abbrev fault_in : ℕ → List ℕ → Option ℕ
  fault_in p l = fault (type_at s.0 s.1 p l)

  abbrev fault_own : ℕ → List ℕ → Option ℕ
  fault_own p l = fault (settled p None (own_type s.0 (row_at s p) (slice_get l (row_at s p).number) (type_in (type_in_a p l)) (type_in (type_in_b p l)) (type_in (type_in_c p l))))

  fault_unfolds : (p : ℕ) (l : List ℕ) → p < length s.1 → fault_in p l ≡ first_of
      (lower (cond (ltb 0 (arity (row_at s p).kind)) (fault_in (row_at s p).a (under (bound s.0 (row_at s p)) l)) None)
      (lower (cond (ltb 1 (arity (row_at s p).kind)) (fault_in (row_at s p).b l) None)
      (cond (ltb 2 (arity (row_at s p).kind)) (fault_in (row_at s p).c (0 ∷ l)) None)))
      (fault_own p l)
  fault_unfolds p l lt =
      let r = row_at s p in
      let a = fault_cond (ltb 0 (arity r.kind)) (type_at s.0 s.1 r.a (under (bound s.0 r) l)) in
      let b = fault_cond (ltb 1 (arity r.kind)) (type_at s.0 s.1 r.b l) in
      let c = fault_cond (ltb 2 (arity r.kind)) (type_at s.0 s.1 r.c (0 ∷ l)) in
      ap fault (type_step s.0 s.1 (kept_placed s k) p l lt)
      ∙ fault_settled p (lower (fault (type_in_a p l)) (lower (fault (type_in_b p l)) (fault (type_in_c p l)))) (own_type s.0 r (slice_get l r.number) (type_in (type_in_a p l)) (type_in (type_in_b p l)) (type_in (type_in_c p l)))
      ∙ (λ i. first_of (lower (a i) (lower (b i) (c i))) (fault_own p l))

  fault_owned : (p : ℕ) (l : List ℕ) (q : ℕ) → fault_own p l ≡ Some q → p ≡ q
  fault_owned p l q e = fault_owns p _ q e

  last_within : length s.1 - 1 < length s.1
  last_within = omega (arith, k.some_terms)

  pub lowest_untyped : (sight q : ℕ) → Shallow s sight → type_at s.0 s.1 (length s.1 - 1) [] ≡ Err q → LowestUntyped s sight q
  lowest_untyped sight q sh e =
      let ts = s.0 in
      let w = found s k fault_in fault_own fault_unfolds fault_owned q (ap fault e) in
      let here = w.holds.0 in
      let err = fault_err (type_at ts s.1 w.at w.names) q w.holds.1 in
      record {
        lawful = lawful s k;
        shallow = sh;
        context = context ts w.names;
        under = subst (λ p. Under s p (context ts w.names)) here w.under;
        untyped = λ τ h.
            let h' = subst (λ p. HasType (context ts w.names) (term_at s p) τ) (sym here) h in
            let x = solid ts (type_at ts s.1 w.at w.names) τ τ refl (complete s k (suc w.at) w.at (omega arith) w.within w.names w.valid τ τ (h' (fill ts nat w.names) (fills ts nat w.names)) (h' (fill ts H w.names) (fills ts H w.names))) in
            err_ok q x.place (sym err ∙ x.is);
        lower = λ p Γ lt d.
            let y = every s k fault_in fault_own fault_unfolds fault_owned (λ j. q ≤ j) (λ i j h x. omega arith) (λ j e'. let z = some_same (sym (ap fault e) ∙ e') in omega (arith, z)) d in
            ⊎_elim
            (λ (t : (t : ℕ) × (type_at ts s.1 p y.names ≡ Ok t)). (ty_at ts t.0, subst (λ Δ. HasType Δ (term_at s p) (ty_at ts t.0)) (sym y.is) (sound s k (suc p) p (omega arith) y.within y.names t.0 t.1)))
            (λ (j : (j : ℕ) × (type_at ts s.1 p y.names ≡ Err j)). let x = y.holds j.0 (ap fault j.1) in absurd (omega (arith, x.0, x.1, lt)))
            (found_cases (type_at ts s.1 p y.names));
      }

  -- a rule's type is found
  pub rule_found : (τ : Ty) → [] ⊢ rule_of s ∶ τ → Typed s.0 (type_at s.0 s.1 (length s.1 - 1) []) τ
  rule_found τ d = solid s.0 _ τ τ refl (complete s k (length s.1) (length s.1 - 1) last_within last_within [] tt τ τ d d)

  pub rule_typed : (t : ℕ) → type_at s.0 s.1 (length s.1 - 1) [] ≡ Ok t → [] ⊢ rule_of s ∶ ty_at s.0 t
  rule_typed t e = sound s k (length s.1) (length s.1 - 1) last_within last_within [] t e [] tt

  pub nat_zero : (t : ℕ) → type_at s.0 s.1 (length s.1 - 1) [] ≡ Ok t → [] ⊢ rule_of s ∶ nat → t ≡ 0
  nat_zero t e d =
      let w = rule_found nat d in
      ok_same (sym e ∙ w.is) ∙ one_place s.0 k.types k.some_types (length s.0) w.place 0 w.valid w.valid k.some_types (w.type ∙ sym (nat_at s.0 k.types k.some_types))
    where
      ok_same : {x y : ℕ} → ◌≡◌ {A = Found} (Ok x) (Ok y) → x ≡ y
      ok_same e = cc

  pub other_type : (sight t : ℕ) → Shallow s sight → type_at s.0 s.1 (length s.1 - 1) [] ≡ Ok t → eqb t 0 ≡ false → OtherType s sight (length s.1 - 1)
  other_type sight t sh e z = record {
    lawful = lawful s k;
    shallow = sh;
    last = refl;
    type = ty_at s.0 t;
    typed = rule_typed t e;
    other = λ n. eqb-false t 0 z (nat_zero t e (at n (rule_typed t e)));
  }

-- ---- the verdict

-- a broken law says that the tables are not lawful
abbrev Tells : Tables → ℕ → Option Refusal → Type 0
Tells s sight None = Unit {0}
Tells s sight (Some f) = (Lawful s → ⊥) → Says s sight f.fault f.row

tells_first : (s : Tables) (sight : ℕ) (x y : Option Refusal) → Tells s sight x → Tells s sight y → Tells s sight (first_of x y)
tells_first s sight None y a b = b
tells_first s sight (Some f) y a b = a

tells_rows : (s : Tables) (sight : ℕ) → Tells s sight (rows_verdict s)
tells_rows s sight =
    tells_first s sight (sizes s) _ (of_sizes _)
    (tells_first s sight (at_row BadType (lowest (good_type s.0) (length s.0))) _ (of_types _)
    (tells_first s sight (at_row BadTerm (lowest (good_term (length s.0) s.1) (length s.1))) _ (of_terms _) (of_parts _)))
  where
    of_sizes : (b : Bool) → Tells s sight (cond b (Some (refusal TableSize 0)) None)
    of_sizes true = λ h. h
    of_sizes false = tt

    of_types : (o : Option ℕ) → Tells s sight (at_row BadType o)
    of_types None = tt
    of_types (Some p) = λ h. h

    of_terms : (o : Option ℕ) → Tells s sight (at_row BadTerm o)
    of_terms None = tt
    of_terms (Some p) = λ h. h

    of_parts : (o : Option ℕ) → Tells s sight (at_row PartUse o)
    of_parts None = tt
    of_parts (Some p) = λ h. h

-- how a verdict comes about
pub data Ways (s : Tables) (sight : ℕ) : Type 0 where
  broken : (f : Refusal) → rows_verdict s ≡ Some f → Ways s sight
  deep : Kept s → (p : ℕ) → deep_at sight s.1 (length s.1 - 1) 0 ≡ Some p → Ways s sight
  untyped : Kept s → deep_at sight s.1 (length s.1 - 1) 0 ≡ None → (p : ℕ) → type_at s.0 s.1 (length s.1 - 1) [] ≡ Err p → Ways s sight
  typed : Kept s → deep_at sight s.1 (length s.1 - 1) 0 ≡ None → (t : ℕ) → type_at s.0 s.1 (length s.1 - 1) [] ≡ Ok t → Ways s sight

ways : (s : Tables) (sight : ℕ) → Ways s sight
ways s sight =
    ⊎_elim
    (λ (e : rows_verdict s ≡ None).
    let k = kept s e in
    ⊎_elim
    (λ (d : deep_at sight s.1 (length s.1 - 1) 0 ≡ None).
    ⊎_elim (λ (t : (t : ℕ) × (type_at s.0 s.1 (length s.1 - 1) [] ≡ Ok t)). typed k d t.0 t.1)
    (λ (p : (p : ℕ) × (type_at s.0 s.1 (length s.1 - 1) [] ≡ Err p)). untyped k d p.0 p.1)
    (found_cases (type_at s.0 s.1 (length s.1 - 1) [])))
    (λ (p : (p : ℕ) × (deep_at sight s.1 (length s.1 - 1) 0 ≡ Some p)). deep k p.0 p.1)
    (option_cases (deep_at sight s.1 (length s.1 - 1) 0)))
    (λ (f : (f : Refusal) × (rows_verdict s ≡ Some f)). broken f.0 f.1)
    (option_cases (rows_verdict s))

-- the verdict of each way
verdict_broken : (s : Tables) (sight : ℕ) (f : Refusal) → rows_verdict s ≡ Some f → verdict s sight ≡ Some f
verdict_broken s sight f e = ap (λ o. first_of o (first_of (at_row TooDeep (deep_at sight s.1 (length s.1 - 1) 0)) (ends (length s.1 - 1) (type_at s.0 s.1 (length s.1 - 1) [])))) e

verdict_deep : (s : Tables) (sight : ℕ) → Kept s → (p : ℕ) → deep_at sight s.1 (length s.1 - 1) 0 ≡ Some p → verdict s sight ≡ Some (refusal TooDeep p)
verdict_deep s sight k p e =
    ap (λ o. first_of o (first_of (at_row TooDeep (deep_at sight s.1 (length s.1 - 1) 0)) (ends (length s.1 - 1) (type_at s.0 s.1 (length s.1 - 1) [])))) (kept_so s k)
    ∙ ap (λ o. first_of (at_row TooDeep o) (ends (length s.1 - 1) (type_at s.0 s.1 (length s.1 - 1) []))) e

verdict_end : (s : Tables) (sight : ℕ) → Kept s → deep_at sight s.1 (length s.1 - 1) 0 ≡ None → (o : Found) → type_at s.0 s.1 (length s.1 - 1) [] ≡ o → verdict s sight ≡ ends (length s.1 - 1) o
verdict_end s sight k d o e =
    ap (λ x. first_of x (first_of (at_row TooDeep (deep_at sight s.1 (length s.1 - 1) 0)) (ends (length s.1 - 1) (type_at s.0 s.1 (length s.1 - 1) [])))) (kept_so s k)
    ∙ ap (λ x. first_of (at_row TooDeep x) (ends (length s.1 - 1) (type_at s.0 s.1 (length s.1 - 1) []))) d
    ∙ ap (ends (length s.1 - 1)) e

means_end : (s : Tables) (sight : ℕ) (k : Kept s) → Shallow s sight → (t : ℕ) → type_at s.0 s.1 (length s.1 - 1) [] ≡ Ok t → (b : Bool) → eqb t 0 ≡ b → Means s sight (answer (cond b None (Some (refusal NotNat (length s.1 - 1)))))
means_end s sight k sh t e true z =
    (record { lawful = lawful s k; typed = at (ap (ty_at s.0) (eqb-true t 0 z) ∙ nat_at s.0 k.types k.some_types) (rule_typed s k t e) }, sh)
means_end s sight k sh t e false z = ((λ r _. eqb-false t 0 z (nat_zero s k t e r.typed)), other_type s k sight t sh e z)

means_so : (s : Tables) (sight : ℕ) → Ways s sight → Means s sight (answer (verdict s sight))
means_so s sight (broken f e) =
    let no : Lawful s → ⊥ = λ l. some_none f (sym e ∙ kept_so s (keeps s l)) in
    subst (λ o. Means s sight (answer o)) (sym (verdict_broken s sight f e)) ((λ r _. no r.lawful), subst (Tells s sight) e (tells_rows s sight) no)
means_so s sight (deep k p e) =
    subst (λ o. Means s sight (answer o)) (sym (verdict_deep s sight k p e)) ((λ r sh. some_none p (sym e ∙ not_deep s k sight sh)), lowest_deep s k sight p e)
means_so s sight (untyped k d p e) =
    subst (λ o. Means s sight (answer o)) (sym (verdict_end s sight k d (Err p) e))
    ((λ r _. let w = rule_found s k nat r.typed in err_ok p w.place (sym e ∙ w.is)), lowest_untyped s k sight p (shallow_so s k sight d) e)
means_so s sight (typed k d t e) =
    subst (λ o. Means s sight (answer o)) (sym (verdict_end s sight k d (Ok t) e)) (means_end s sight k (shallow_so s k sight d) t e (eqb t 0) refl)

-- ---- more sight rows

still : (s : Tables) (sight many : ℕ) (k : Kept s) → deep_at sight s.1 (length s.1 - 1) 0 ≡ None → sight ≤ many → deep_at many s.1 (length s.1 - 1) 0 ≡ None
still s sight many k d h = not_deep s k many (λ p Γ u. omega (arith, shallow_so s k sight d p Γ u))

more_so : (s : Tables) (sight : ℕ) → Ways s sight → Deep (answer (verdict s sight)) ⊎ ((many : ℕ) → sight ≤ many → answer (verdict s many) ≡ answer (verdict s sight))
more_so s sight (broken f e) = inr (λ many h. ap answer (verdict_broken s many f e ∙ sym (verdict_broken s sight f e)))
more_so s sight (deep k p e) = inl (p, ap answer (verdict_deep s sight k p e))
more_so s sight (untyped k d p e) = inr (λ many h. ap answer (verdict_end s many k (still s sight many k d h) (Err p) e ∙ sym (verdict_end s sight k d (Err p) e)))
more_so s sight (typed k d t e) = inr (λ many h. ap answer (verdict_end s many k (still s sight many k d h) (Ok t) e ∙ sym (verdict_end s sight k d (Ok t) e)))

pub verdict_means : VerdictMeans
verdict_means s sight =
    let m = means_so s sight (ways s sight) in (
      m,
      record {
        more = more_so s sight (ways s sight);
        enough = λ h d.
            let w = (subst (Means s sight) d.1 m).1 in
            let k = keeps s w.lawful in
            omega (arith, w.deep, shallow_so s k sight (enough s sight k h) d.0 w.context w.under);
        shallow = λ h l. let k = keeps s l in shallow_so s k sight (enough s sight k h);
      },
    )

pub passes_rule : (s : Tables) → passes s ≡ true → Rule s
passes_rule s e = (subst (Means s (length s.1)) (ap answer (none_of (verdict s (length s.1)) e)) (verdict_means s (length s.1)).0).0
  where
    none_of : (o : Option Refusal) → not (is_some o) ≡ true → o ≡ None
    none_of None e = refl
    none_of (Some f) e = absurd (false≢true e)

-- and so does an answer that is the verdict's
pub told : (s : Tables) (sight : ℕ) (r : Result (Unit {0}) Refusal) → r ≡ answer (verdict s sight) → Means s sight r × Lasts s sight r
told s sight r e = subst (λ o. Means s sight o × Lasts s sight o) (sym e) (verdict_means s sight)

pub answered : (o : Option Refusal) (x : Unit {0}) → Ok x ≡ answer o → o ≡ None
answered None x e = refl
answered (Some f) x e = absurd (let z : ◌≡◌ {A = ℕ} 0 1 = cc in omega arith)

-- tables that pass do so with sight rows enough
pub passes_so : (s : Tables) (sight : ℕ) → verdict s sight ≡ None → passes s ≡ true
passes_so s sight e =
    let r = (subst (λ o. Means s sight (answer o)) e (verdict_means s sight).0).0 in
    let m = verdict_means s (length s.1) in
    go (verdict s (length s.1)) m.0 r (m.1.shallow (omega arith) r.lawful)
  where
    go : (o : Option Refusal) → Means s (length s.1) (answer o) → Rule s → Shallow s (length s.1) → not (is_some o) ≡ true
    go None m r h = refl
    go (Some f) m r h = absurd (m.0 r h)
