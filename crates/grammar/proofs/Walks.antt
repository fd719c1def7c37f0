-- The account of a list of tokens and the machine over them; and the makers that follow the maker of tables.
use Rattle.std.proofs.Common.{◌≡◌, ℕ, ◌<◌, ◌≤◌, Bool, true, false, cond, ltb, List, [], ◌∷◌, ◌++◌, length, Some, None, Option, sym, refl, ap, ◌∙◌, subst, map-id, arith, ltb-false, ltb-true, le-ltb, lt-ltb}
use Rattle.std.proofs.lemmas.List.{length_push}
use Rattle.rows.specs.declared.tables.TypeRow.{TypeRow}
use Rattle.rows.specs.declared.tables.TermRow.{TermRow}
use Rattle.rows.specs.Forms.{shape_kind}
use Rattle.rows.specs.Rows.{type_row, leaf_row, form_row, row_place}
use Rattle.theory.specs.Emit.{Tables}
use Rattle.grammar.specs.declared.fault.Fault.{Fault}
use Rattle.grammar.specs.declared.fault.Fault.TheVariants.{Misplaced}
use Rattle.grammar.specs.Tokens.{Tok}
use Rattle.grammar.specs.Reader.{Maker, Bracket, Turn, go, done, stop, turn}
use Rattle.grammar.specs.TableMaker.{row_made, type_made, into_tables}
use Rattle.grammar.proofs.Grow.{nothing, finished, turned, drive}
use Rattle.grammar.proofs.Follows.{walk, Image, Like, Follows}
use Rattle.grammar.proofs.Completes.{any}

module _ {S X Y : Type 0} (m : Maker S X Y) (room : ℕ) where
  pub walk_stop : (ts : List Tok) (k : Fault) → walk m room ts (stop k) ≡ stop k
  walk_stop [] k = refl
  walk_stop (t ∷ ts) k = refl

  pub walk_append : (ts us : List Tok) (d : Turn S X Y) → walk m room (ts ++ us) d ≡ walk m room us (walk m room ts d)
  walk_append [] us d = refl
  walk_append (t ∷ ts) us (go s fs) = walk_append ts us (turn m room t s fs)
  walk_append (t ∷ ts) us (done s y) = sym (walk_stop us Misplaced)
  walk_append (t ∷ ts) us (stop k) = sym (walk_stop us k)

  pub no_go : (s : S) (fs : List (Bracket X Y)) (a : S) (b : Y) → go s fs ≡ done a b → ⊥
  no_go s fs a b h = let z : ◌≡◌ {A = ℕ} 0 1 = cc in omega arith

  pub no_stop : (k : Fault) (a : S) (b : Y) → ◌≡◌ {A = Turn S X Y} (stop k) (done a b) → ⊥
  no_stop k a b h = let z : ◌≡◌ {A = ℕ} 0 1 = cc in omega arith

  at_end : (ts : List Tok) (s : S) (y : Y) (r : S × Y) → finished ts s y ≡ Some r → walk m room ts (done s y) ≡ done r.0 r.1
  at_end [] s y r h = let e : (s, y) ≡ r = cc in ap (λ p. done p.0 p.1) e
  at_end (t ∷ ts) s y r h = absurd (nothing h)

  pub drive_walk : (ts : List Tok) (s : S) (fs : List (Bracket X Y)) (r : S × Y) → drive m room ts s fs ≡ Some r → walk m room ts (go s fs) ≡ done r.0 r.1
  drive_walk [] s fs r h = absurd (nothing h)
  drive_walk (t ∷ ts) s fs r h = by (turn m room t s fs) (λ s fs. drive_walk ts s fs r) h
    where
      by : (d : Turn S X Y) → ((s : S) (fs : List (Bracket X Y)) → drive m room ts s fs ≡ Some r → walk m room ts (go s fs) ≡ done r.0 r.1) → turned ts (drive m room ts) d ≡ Some r → walk m room ts d ≡ done r.0 r.1
      by (go s fs) ih h = ih s fs h
      by (done s y) ih h = at_end ts s y r h
      by (stop k) ih h = absurd (nothing h)

  from_end : (ts : List Tok) (s a : S) (y b : Y) → walk m room ts (done s y) ≡ done a b → finished ts s y ≡ Some (a, b)
  from_end [] s a y b h =
      let e : s ≡ a = cc in
      let f : y ≡ b = cc in
      λ i. Some (e i, f i)
  from_end (t ∷ ts) s a y b h = absurd (no_stop Misplaced a b h)

  pub walk_drive : (ts : List Tok) (s : S) (fs : List (Bracket X Y)) (a : S) (b : Y) → walk m room ts (go s fs) ≡ done a b → drive m room ts s fs ≡ Some (a, b)
  walk_drive [] s fs a b h = absurd (no_go s fs a b h)
  walk_drive (t ∷ ts) s fs a b h = by (turn m room t s fs) (λ s fs. walk_drive ts s fs a b) h
    where
      by : (d : Turn S X Y) → ((s : S) (fs : List (Bracket X Y)) → walk m room ts (go s fs) ≡ done a b → drive m room ts s fs ≡ Some (a, b)) → walk m room ts d ≡ done a b → turned ts (drive m room ts) d ≡ Some (a, b)
      by (go s fs) ih h = ih s fs h
      by (done s y) ih h = from_end ts s a y b h
      by (stop k) ih h = absurd (no_stop k a b (sym (walk_stop ts k) ∙ h))

-- ---- tables with more room

-- a making where there was no room: nothing is made with no more room, and with more something is
abbrev pub Full : ℕ → ℕ → Option (Tables × ℕ) → Type 0
Full n n' o = (n' ≤ n → o ≡ None) × (n < n' → (p : Tables × ℕ) × (o ≡ Some p))

-- tables with more room
abbrev pub wider : ℕ → ℕ → ℕ → ℕ → Image Tables ℕ ℕ Tables ℕ ℕ
wider t u t' u' = record { state = λ s. s; type = λ x. x; term = λ y. y; KeptFact = λ s. (length s.0 ≤ t) × (length s.1 ≤ u); NoType = Full t t'; NoTerm = Full u u' }

module _ (t u t' u' : ℕ) (more_types : t ≤ t') (more_terms : u ≤ u') where
  abbrev Within : Tables → Type 0
  Within s = (length s.0 ≤ t) × (length s.1 ≤ u)

  abbrev Widens : (Option (Tables × ℕ) → Type 0) → Option (Tables × ℕ) → Option (Tables × ℕ) → Type 0
  Widens = Like (wider t u t' u') (λ z. z)

  type_wider : (r : TypeRow) (s : Tables) → Within s → Widens (Full t t') (type_made t r s) (type_made t' r s)
  type_wider r s k = by (ltb (row_place r s.0) (length s.0)) (ltb (length s.0) t) refl
    where
      by : (b c : Bool) → ltb (length s.0) t ≡ c → Widens (Full t t') (cond b (Some (s, row_place r s.0)) (cond c (Some ((s.0 ++ r ∷ [], s.1), length s.0)) None)) (cond b (Some (s, row_place r s.0)) (cond (ltb (length s.0) t') (Some ((s.0 ++ r ∷ [], s.1), length s.0)) None))
      by true c e = (refl, k)
      by false true e =
          let l = ltb-true (length s.0) t e in
          let n = length_push s.0 r in
          (ap (λ b. cond b (Some ((s.0 ++ r ∷ [], s.1), length s.0)) None) (lt-ltb (length s.0) t' (omega arith)), (omega arith, k.1))
      by false false e =
          let l = ltb-false (length s.0) t e in (
            λ few. ap (λ b. cond b (Some ((s.0 ++ r ∷ [], s.1), length s.0)) None) (le-ltb (length s.0) t' (omega arith)),
            λ some. (((s.0 ++ r ∷ [], s.1), length s.0), ap (λ b. cond b (Some ((s.0 ++ r ∷ [], s.1), length s.0)) None) (lt-ltb (length s.0) t' (let j = k.0 in omega arith))),
          )

  row_wider : (r : TermRow) (s : Tables) → Within s → Widens (Full u u') (row_made u r s) (row_made u' r s)
  row_wider r s k = by (ltb (length s.1) u) refl
    where
      by : (c : Bool) → ltb (length s.1) u ≡ c → Widens (Full u u') (cond c (Some ((s.0, s.1 ++ r ∷ []), length s.1)) None) (row_made u' r s)
      by true e =
          let l = ltb-true (length s.1) u e in
          let n = length_push s.1 r in
          (ap (λ b. cond b (Some ((s.0, s.1 ++ r ∷ []), length s.1)) None) (lt-ltb (length s.1) u' (omega arith)), (k.0, omega arith))
      by false e =
          let l = ltb-false (length s.1) u e in (
            λ few. ap (λ b. cond b (Some ((s.0, s.1 ++ r ∷ []), length s.1)) None) (le-ltb (length s.1) u' (omega arith)),
            λ some. (((s.0, s.1 ++ r ∷ []), length s.1), ap (λ b. cond b (Some ((s.0, s.1 ++ r ∷ []), length s.1)) None) (lt-ltb (length s.1) u' (let j = k.1 in omega arith))),
          )

  pub widens : Follows (wider t u t' u') (into_tables t u) (into_tables t' u')
  widens = record {
    natural = refl;
    shape = λ k l r s w. type_wider (type_row (shape_kind k) l r) s w;
    leaf = λ k n s w. row_wider (leaf_row k n) s w;
    form = λ f xs ys s w. subst (λ (p : List ℕ × List ℕ). Widens (Full u u') (row_made u (form_row f xs ys) s) (row_made u' (form_row f p.0 p.1) s)) (λ i. (sym (map-id xs) i, sym (map-id ys) i)) (row_wider (form_row f xs ys) s w);
  }

-- ---- the maker that always can

-- it can
abbrev pub Can : Option (Unit {0} × Unit {0}) → Type 0
Can o = o ≡ Some (tt, tt)

abbrev pub free : Image Tables ℕ ℕ (Unit {0}) (Unit {0}) (Unit {0})
free = record { state = λ s. tt; type = λ x. tt; term = λ y. tt; KeptFact = λ s. Unit {0}; NoType = Can; NoTerm = Can }

module _ (m : Maker Tables ℕ ℕ) where
  can : (o : Option (Tables × ℕ)) → Like free (λ (z : ℕ). tt) Can o (Some (tt, tt))
  can None = refl
  can (Some p) = (refl, tt)

  pub frees : Follows free m any
  frees = record { natural = refl; shape = λ k l r s w. can (m.shape k l r s); leaf = λ k n s w. can (m.leaf k n s); form = λ f xs ys s w. can (m.form f xs ys s) }
