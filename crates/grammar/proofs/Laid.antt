-- With rows enough, the maker of tables lays a term's rows.
use Rattle.std.proofs.Common.{◌≡◌, ℕ, ◌≤◌, Bool, true, false, cond, ltb, List, [], ◌∷◌, ◌++◌, map, length, Some, None, Option, sym, refl, ap, ◌∙◌, subst, arith, ltb-true, lt-ltb}
use Rattle.std.proofs.lemmas.List.{length_push}
use Rattle.theory.specs.Syntax.{Ty, Term}
use Rattle.rows.specs.declared.tables.TypeRow.{TypeRow}
use Rattle.rows.specs.declared.tables.TermRow.{TermRow}
use Rattle.rows.specs.Forms.{shape_kind}
use Rattle.grammar.specs.TableMaker.{into_tables, row_made, type_made}
use Rattle.rows.specs.Rows.{type_row, leaf_row, form_row, row_place}
use Rattle.grammar.specs.Reader.{Maker}
use Rattle.theory.specs.Lists.{All}
use Rattle.theory.specs.Folds.{shaped, built}
use Rattle.theory.specs.Emit.{Tables, Emits, add_type, add_term, emit_all, type_emits, emit_type, term_emits, emit}
use Rattle.theory.specs.Induction.{by_shapes, fold_shaped, by_forms, fold_built}
use Rattle.grammar.proofs.Grow.{onward, onward_some, nothing, put, each, growing_types, grow_type, growing, grow}

module _ (type_room term_room : ℕ) where
  abbrev Within : Tables → Type 0
  Within s = (length s.0 ≤ type_room) × (length s.1 ≤ term_room)

  -- a making and a laying agree: it gives what is laid where that is within the rooms, and nothing else
  pub record Agrees {Z : Type 0} (g : Tables → Option (Tables × Z)) (l : Tables → Tables × Z) : Type 0 where
    pub grows : (s : Tables) → (length s.0 ≤ length (l s).0.0) × (length s.1 ≤ length (l s).0.1)
    pub gives : (s : Tables) → Within (l s).0 → g s ≡ Some (l s)
    pub only : (s : Tables) (r : Tables × Z) → Within s → g s ≡ Some r → (l s ≡ r) × Within (l s).0

  -- one after the other
  in_turn : {Z W : Type 0} (g : Tables → Option (Tables × Z)) (l : Tables → Tables × Z) (G : Z → Tables → Option (Tables × W)) (L : Z → Tables → Tables × W) → Agrees g l → ((z : Z) → Agrees (G z) (L z))
      → Agrees (λ s. onward (g s) (λ p. G p.1 p.0)) (λ s. L (l s).1 (l s).0)
  in_turn g l G L a b = record {
    grows = λ s. let h = a.grows s in let k = (b (l s).1).grows (l s).0 in (omega arith, omega arith);
    gives = λ s w.
        let k = (b (l s).1).grows (l s).0 in
        ap (λ o. onward o (λ p. G p.1 p.0)) (a.gives s (omega arith, omega arith)) ∙ (b (l s).1).gives (l s).0 w;
    only = λ s r w e.
        let p = onward_some (g s) (λ p. G p.1 p.0) r e in
        let h = a.only s p.0 w p.1 in
        let k : G (l s).1 (l s).0 ≡ Some r = ap (λ q. G q.1 q.0) h.0 ∙ p.2 in
        (b (l s).1).only (l s).0 r h.1 k;
  }

  same : {Z : Type 0} (z : Z) → Agrees (λ s. Some (s, z)) (λ s. (s, z))
  same z = record { grows = λ s. (omega arith, omega arith); gives = λ s w. refl; only = λ s r w e. (let q : (s, z) ≡ r = cc in q, w) }

  type_agrees : (r : TypeRow) → Agrees (type_made type_room r) (add_type r)
  type_agrees r = record { grows = λ s. grows s (ltb (row_place r s.0) (length s.0)); gives = λ s w. gives s (ltb (row_place r s.0) (length s.0)) w; only = λ s q w e. only s (ltb (row_place r s.0) (length s.0)) (ltb (length s.0) type_room) refl q w e }
    where
      emitted : Tables → Bool → Tables × ℕ
      emitted s t = cond t (s, row_place r s.0) ((s.0 ++ r ∷ [], s.1), length s.0)

      grows : (s : Tables) (t : Bool) → (length s.0 ≤ length (emitted s t).0.0) × (length s.1 ≤ length (emitted s t).0.1)
      grows s true = (omega arith, omega arith)
      grows s false = let l = length_push s.0 r in (omega arith, omega arith)

      gives : (s : Tables) (t : Bool) → Within (emitted s t).0 → cond t (Some (s, row_place r s.0)) (cond (ltb (length s.0) type_room) (Some ((s.0 ++ r ∷ [], s.1), length s.0)) None) ≡ Some (emitted s t)
      gives s true w = refl
      gives s false w = let l = length_push s.0 r in ap (λ b. cond b (Some ((s.0 ++ r ∷ [], s.1), length s.0)) None) (lt-ltb (length s.0) type_room (omega arith))

      only : (s : Tables) (t u : Bool) → ltb (length s.0) type_room ≡ u → (q : Tables × ℕ) → Within s → cond t (Some (s, row_place r s.0)) (cond u (Some ((s.0 ++ r ∷ [], s.1), length s.0)) None) ≡ Some q → (emitted s t ≡ q) × Within (emitted s t).0
      only s true u d q w e = (let z : (s, row_place r s.0) ≡ q = cc in z, w)
      only s false true d q w e =
          let l = length_push s.0 r in
          let lt = ltb-true (length s.0) type_room d in
          (let z : ((s.0 ++ r ∷ [], s.1), length s.0) ≡ q = cc in z, (omega arith, omega arith))
      only s false false d q w e = absurd (nothing e)

  term_agrees : (r : TermRow) → Agrees (row_made term_room r) (add_term r)
  term_agrees r = record {
    grows = λ s. let l = length_push s.1 r in (omega arith, omega arith);
    gives = λ s w. let l = length_push s.1 r in ap (λ b. cond b (Some ((s.0, s.1 ++ r ∷ []), length s.1)) None) (lt-ltb (length s.1) term_room (omega arith));
    only = λ s q w e. only s (ltb (length s.1) term_room) refl q w e;
  }
    where
      only : (s : Tables) (u : Bool) → ltb (length s.1) term_room ≡ u → (q : Tables × ℕ) → Within s → cond u (Some ((s.0, s.1 ++ r ∷ []), length s.1)) None ≡ Some q → (((s.0, s.1 ++ r ∷ []), length s.1) ≡ q) × Within (s.0, s.1 ++ r ∷ [])
      only s true d q w e =
          let l = length_push s.1 r in
          let lt = ltb-true (length s.1) term_room d in
          (let z : ((s.0, s.1 ++ r ∷ []), length s.1) ≡ q = cc in z, (omega arith, omega arith))
      only s false d q w e = absurd (nothing e)

  each_agrees : {A : Type 0} (g : A → Tables → Option (Tables × ℕ)) (l : A → Emits) (xs : List A) → All (λ x. Agrees (g x) (l x)) xs → Agrees (each (map g xs)) (emit_all (map l xs))
  each_agrees g l [] h = same []
  each_agrees g l (x ∷ xs) h =
      in_turn (g x) (l x) (λ z s. onward (each (map g xs) s) (put z)) (λ z s. ((emit_all (map l xs) s).0, z ∷ (emit_all (map l xs) s).1)) h.0
      (λ z. in_turn (each (map g xs)) (emit_all (map l xs)) (λ zs s. Some (s, z ∷ zs)) (λ zs s. (s, z ∷ zs)) (each_agrees g l xs h.1) (λ zs. same (z ∷ zs)))

  abbrev m : Maker Tables ℕ ℕ
  m = into_tables type_room term_room

  laid_type : (T : Ty) → Agrees (grow_type m T) (emit_type T)
  laid_type = by_shapes (λ T. Agrees (grow_type m T) (emit_type T)) (same 0)
      (λ k T U a b.
      subst (λ g. Agrees g (emit_type (shaped k T U))) (sym (fold_shaped (growing_types m) k T U))
      (subst (λ l. Agrees ((growing_types m).shape k (grow_type m T) (grow_type m U)) l) (sym (fold_shaped type_emits k T U))
      (in_turn (grow_type m T) (emit_type T) (λ x s. onward (grow_type m U s) (λ q. type_made type_room (type_row (shape_kind k) x q.1) q.0)) (λ x s. add_type (type_row (shape_kind k) x (emit_type U s).1) (emit_type U s).0) a
      (λ x. in_turn (grow_type m U) (emit_type U) (λ y. type_made type_room (type_row (shape_kind k) x y)) (λ y. add_type (type_row (shape_kind k) x y)) b (λ y. type_agrees (type_row (shape_kind k) x y))))))

  laid_types : (Ts : List Ty) → All (λ T. Agrees (grow_type m T) (emit_type T)) Ts
  laid_types [] = tt
  laid_types (T ∷ Ts) = (laid_type T, laid_types Ts)

  pub emitted : (e : Term) → Agrees (grow m e) (emit e)
  emitted = by_forms (λ e. Agrees (grow m e) (emit e)) (λ n. term_agrees (leaf_row 0 n)) (λ n. term_agrees (leaf_row 1 n))
      (λ f Ts es d e h.
      subst (λ g. Agrees g (emit (built f Ts es))) (sym (fold_built (growing m) f Ts es d e))
      (subst (λ l. Agrees ((growing m).form f Ts (map (grow m) es)) l) (sym (fold_built term_emits f Ts es d e))
      (in_turn (each (map (grow_type m) Ts)) (emit_all (map emit_type Ts))
      (λ xs s. onward (each (map (grow m) es) s) (λ q. row_made term_room (form_row f xs q.1) q.0))
      (λ xs s. add_term (form_row f xs (emit_all (map emit es) s).1) (emit_all (map emit es) s).0)
      (each_agrees (grow_type m) emit_type Ts (laid_types Ts))
      (λ xs. in_turn (each (map (grow m) es)) (emit_all (map emit es)) (λ ys. row_made term_room (form_row f xs ys)) (λ ys. add_term (form_row f xs ys)) (each_agrees (grow m) emit es h) (λ ys. term_agrees (form_row f xs ys))))))
