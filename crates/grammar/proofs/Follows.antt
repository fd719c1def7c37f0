-- Two makers side by side: where the second makes what the first does, its readings follow the first one's.
use Rattle.std.proofs.Common.{◌≡◌, ℕ, zero, suc, ◌≤◌, Bool, true, false, cond, ltb, List, [], ◌∷◌, ◌++◌, map, length, get_or, Some, None, codes, Option, sym, refl, ap, ◌∙◌, subst, arith, ltb-false, ltb-true, le-ltb, lt-ltb}
use mathlib.Core.List.{map-append}
use Rattle.std.proofs.lemmas.List.{length-map}
use Rattle.grammar.specs.declared.fault.Fault.{Fault}
use Rattle.grammar.specs.declared.fault.Fault.TheVariants.{TooLong, BadByte, BadNumber, Misplaced, TooDeep, NoTypeRow, NoTermRow}
use Rattle.rows.specs.declared.forms.Form.{Form}
use Rattle.rows.specs.declared.forms.Shape.{Shape}
use Rattle.rows.specs.Forms.{types, parts}
use Rattle.grammar.specs.Words.{form_of, shape_of, same}
use Rattle.grammar.specs.Tokens.{Tok, Step, lpar, rpar, word, number, name, over, took, refused, token, trimmed}
use Rattle.grammar.specs.Reader.{Maker, Bracket, term_word, type_word, open_type, open_term, Want, a_term, a_type, a_term_word, a_type_word, a_close, wanted, Turn, go, done, stop, give, give_type, made, made_type, opened, replaced, as_form, as_shape, closed, meet, turn, Outcome, accepted, refused_at, ended, place, after_turn, after_token, reading}

-- what a bracket is part of
abbrev pub role : {X Y : Type 0} → Bracket X Y → Want
role term_word = a_term
role type_word = a_type
role (open_type k xs) = a_type
role (open_term f xs ys) = a_term

-- each bracket is where the one around it wants it
abbrev pub Good : {X Y : Type 0} → List (Bracket X Y) → Type 0
Good [] = Unit {0}
Good (b ∷ fs) = (wanted fs ≡ role b) × Good fs

-- the account of a list of tokens
abbrev pub walk : {S X Y : Type 0} → Maker S X Y → ℕ → List Tok → Turn S X Y → Turn S X Y
walk m room [] d = d
walk m room (t ∷ ts) (go s fs) = walk m room ts (turn m room t s fs)
walk m room (t ∷ ts) (done s y) = stop Misplaced
walk m room (t ∷ ts) (stop k) = stop k

moved : {S Y S' Y' : Type 0} (k f : Fault) (q p : ℕ) → ◌≡◌ {A = Outcome S Y} (refused_at k q) (refused_at f p) → ◌≡◌ {A = Outcome S' Y'} (refused_at k q) (refused_at f p)
moved k f q p h =
    let a : k ≡ f = cc in
    let b : q ≡ p = cc in
    λ i. refused_at (a i) (b i)

fault_of : {S Y : Type 0} (k f : Fault) (q p : ℕ) → ◌≡◌ {A = Outcome S Y} (refused_at k q) (refused_at f p) → k ≡ f
fault_of k f q p h = cc

kept_nothing : {S Y : Type 0} (s : S) (y : Y) (f : Fault) (p : ℕ) → accepted s y ≡ refused_at f p → ⊥
kept_nothing s y f p h = let z : ◌≡◌ {A = ℕ} 0 1 = cc in omega arith

get_d_map : {X X' : Type 0} (g : X → X') (xs : List X) (i : ℕ) (d : X) (d' : X') → g d ≡ d' → get_or (map g xs) i d' ≡ g (get_or xs i d)
get_d_map g [] i d d' e = sym e
get_d_map g (x ∷ xs) zero d d' e = refl
get_d_map g (x ∷ xs) (suc i) d d' e = get_d_map g xs i d d' e

-- what one maker makes, as another makes it; a fact of all that the first has made; and what is known of the second
-- where the first makes nothing
pub record Image (S X Y S' X' Y' : Type 0) : Type 1 where
  pub state : S → S'
  pub type : X → X'
  pub term : Y → Y'
  pub KeptFact : S → Type 0
  pub NoType : Option (S' × X') → Type 0
  pub NoTerm : Option (S' × Y') → Type 0

module _ {S X Y S' X' Y' : Type 0} (image : Image S X Y S' X' Y') where
  open image use {state as es, type as ex, term as ey, KeptFact as Inv, NoType, NoTerm}

  abbrev pub Like : {Z Z' : Type 0} → (Z → Z') → (Option (S' × Z') → Type 0) → Option (S × Z) → Option (S' × Z') → Type 0
  Like ez No None o = No o
  Like ez No (Some p) o = (o ≡ Some (es p.0, ez p.1)) × Inv p.0

  pub record Follows (m : Maker S X Y) (m' : Maker S' X' Y') : Type 0 where
    pub natural : ex m.natural ≡ m'.natural
    pub shape : (k : Shape) (l r : X) (s : S) → Inv s → Like ex NoType (m.shape k l r s) (m'.shape k (ex l) (ex r) (es s))
    pub leaf : (k n : ℕ) (s : S) → Inv s → Like ey NoTerm (m.leaf k n s) (m'.leaf k n (es s))
    pub form : (f : Form) (xs : List X) (ys : List Y) (s : S) → Inv s → Like ey NoTerm (m.form f xs ys s) (m'.form f (map ex xs) (map ey ys) (es s))

  abbrev pub eb : Bracket X Y → Bracket X' Y'
  eb term_word = term_word
  eb type_word = type_word
  eb (open_type k xs) = open_type k (map ex xs)
  eb (open_term f xs ys) = open_term f (map ex xs) (map ey ys)

  abbrev pub other : List (Bracket X Y) → List (Bracket X' Y')
  other fs = map eb fs

  pub wanted_other : (fs : List (Bracket X Y)) → wanted (other fs) ≡ wanted fs
  wanted_other [] = refl
  wanted_other (term_word ∷ fs) = refl
  wanted_other (type_word ∷ fs) = refl
  wanted_other (open_type k xs ∷ fs) = ap (λ n. cond (ltb n 2) a_type a_close) (length-map xs ex)
  wanted_other (open_term f xs ys ∷ fs) =
      ap (λ n. cond (ltb n (types f)) a_type (cond (ltb (length (map ey ys)) (parts f)) a_term a_close)) (length-map xs ex)
      ∙ ap (λ n. cond (ltb (length xs) (types f)) a_type (cond (ltb n (parts f)) a_term a_close)) (length-map ys ey)

  role_other : (b : Bracket X Y) → role (eb b) ≡ role b
  role_other term_word = refl
  role_other type_word = refl
  role_other (open_type k xs) = refl
  role_other (open_term f xs ys) = refl

  pub good_other : (fs : List (Bracket X Y)) → Good fs → Good (other fs)
  good_other [] g = tt
  good_other (b ∷ fs) g = (wanted_other fs ∙ g.0 ∙ sym (role_other b), good_other fs g.1)

  module _ (m : Maker S X Y) (m' : Maker S' X' Y') (room room' : ℕ) where
    -- brackets that are open, with what has been made
    abbrev pub Fine : S → List (Bracket X Y) → Type 0
    Fine s fs = Good fs × Inv s × (length fs ≤ room)

    -- how a turn of the second maker follows one of the first, with these brackets open before
    abbrev pub After : List (Bracket X Y) → Turn S X Y → Turn S' X' Y' → Type 0
    After now (go s fs) d = (d ≡ go (es s) (other fs)) × Fine s fs
    After now (done s y) d = d ≡ done (es s) (ey y)
    After now (stop TooLong) d = ⊥
    After now (stop BadByte) d = ⊥
    After now (stop BadNumber) d = ⊥
    After now (stop Misplaced) d = d ≡ stop Misplaced
    After now (stop TooDeep) d = (s : S') × (b : Bracket X Y) × (d ≡ opened room' (eb b) s (other now)) × (room ≡ length now) × Good (b ∷ now)
    After now (stop NoTypeRow) d = (o : Option (S' × X')) × (fs : List (Bracket X Y)) × (d ≡ made_type o (other fs)) × NoType o × (wanted fs ≡ a_type) × Good fs
    After now (stop NoTermRow) d = (o : Option (S' × Y')) × (fs : List (Bracket X Y)) × (d ≡ made o (other fs)) × NoTerm o × (wanted fs ≡ a_term) × Good fs

    give_after : (now : List (Bracket X Y)) (s : S) (y : Y) (fs : List (Bracket X Y)) → Fine s fs → After now (give s y fs) (give (es s) (ey y) (other fs))
    give_after now s y [] g = refl
    give_after now s y (term_word ∷ fs) g = refl
    give_after now s y (type_word ∷ fs) g = refl
    give_after now s y (open_type k xs ∷ fs) g = refl
    give_after now s y (open_term f xs ys ∷ fs) g = by (ltb (length ys) (parts f)) (ap (λ n. ltb n (parts f)) (length-map ys ey))
      where
        by : (b : Bool) → ltb (length (map ey ys)) (parts f) ≡ b
            → After now (cond b (go s (open_term f xs (ys ++ y ∷ []) ∷ fs)) (stop Misplaced)) (cond (ltb (length (map ey ys)) (parts f)) (go (es s) (open_term f (map ex xs) (map ey ys ++ ey y ∷ []) ∷ other fs)) (stop Misplaced))
        by true e = (
          ap (λ b. cond b (go (es s) (open_term f (map ex xs) (map ey ys ++ ey y ∷ []) ∷ other fs)) (stop Misplaced)) e
              ∙ ap (λ l. go (es s) (open_term f (map ex xs) l ∷ other fs)) (sym (map-append ey ys (y ∷ []))),
          g,
        )
        by false e = ap (λ b. cond b (go (es s) (open_term f (map ex xs) (map ey ys ++ ey y ∷ []) ∷ other fs)) (stop Misplaced)) e

    give_type_after : (now : List (Bracket X Y)) (s : S) (x : X) (fs : List (Bracket X Y)) → Fine s fs → After now (give_type s x fs) (give_type (es s) (ex x) (other fs))
    give_type_after now s x [] g = refl
    give_type_after now s x (term_word ∷ fs) g = refl
    give_type_after now s x (type_word ∷ fs) g = refl
    give_type_after now s x (open_type k xs ∷ fs) g = by (ltb (length xs) 2) (ap (λ n. ltb n 2) (length-map xs ex))
      where
        by : (b : Bool) → ltb (length (map ex xs)) 2 ≡ b
            → After now (cond b (go s (open_type k (xs ++ x ∷ []) ∷ fs)) (stop Misplaced)) (cond (ltb (length (map ex xs)) 2) (go (es s) (open_type k (map ex xs ++ ex x ∷ []) ∷ other fs)) (stop Misplaced))
        by true e = (
          ap (λ b. cond b (go (es s) (open_type k (map ex xs ++ ex x ∷ []) ∷ other fs)) (stop Misplaced)) e
              ∙ ap (λ l. go (es s) (open_type k l ∷ other fs)) (sym (map-append ex xs (x ∷ []))),
          g,
        )
        by false e = ap (λ b. cond b (go (es s) (open_type k (map ex xs ++ ex x ∷ []) ∷ other fs)) (stop Misplaced)) e
    give_type_after now s x (open_term f xs ys ∷ fs) g = by (ltb (length xs) (types f)) (ap (λ n. ltb n (types f)) (length-map xs ex))
      where
        by : (b : Bool) → ltb (length (map ex xs)) (types f) ≡ b
            → After now (cond b (go s (open_term f (xs ++ x ∷ []) ys ∷ fs)) (stop Misplaced)) (cond (ltb (length (map ex xs)) (types f)) (go (es s) (open_term f (map ex xs ++ ex x ∷ []) (map ey ys) ∷ other fs)) (stop Misplaced))
        by true e = (
          ap (λ b. cond b (go (es s) (open_term f (map ex xs ++ ex x ∷ []) (map ey ys) ∷ other fs)) (stop Misplaced)) e
              ∙ ap (λ l. go (es s) (open_term f l (map ey ys) ∷ other fs)) (sym (map-append ex xs (x ∷ []))),
          g,
        )
        by false e = ap (λ b. cond b (go (es s) (open_term f (map ex xs ++ ex x ∷ []) (map ey ys) ∷ other fs)) (stop Misplaced)) e

    made_after : (now : List (Bracket X Y)) (s : S) (o : Option (S × Y)) (o' : Option (S' × Y')) (fs : List (Bracket X Y)) → Like ey NoTerm o o' → wanted fs ≡ a_term → Fine s fs → After now (made o fs) (made o' (other fs))
    made_after now s None o' fs l w g = (o', fs, refl, l, w, g.0)
    made_after now s (Some p) o' fs l w g = subst (λ o. After now (give p.0 p.1 fs) (made o (other fs))) (sym l.0) (give_after now p.0 p.1 fs (g.0, l.1, g.2))

    made_type_after : (now : List (Bracket X Y)) (s : S) (o : Option (S × X)) (o' : Option (S' × X')) (fs : List (Bracket X Y)) → Like ex NoType o o' → wanted fs ≡ a_type → Fine s fs → After now (made_type o fs) (made_type o' (other fs))
    made_type_after now s None o' fs l w g = (o', fs, refl, l, w, g.0)
    made_type_after now s (Some p) o' fs l w g = subst (λ o. After now (give_type p.0 p.1 fs) (made_type o (other fs))) (sym l.0) (give_type_after now p.0 p.1 fs (g.0, l.1, g.2))

    module _ (fol : Follows m m') (more : room ≤ room') where
      opened_after : (b : Bracket X Y) (s : S) (fs : List (Bracket X Y)) → wanted fs ≡ role b → Fine s fs → After fs (opened room b s fs) (opened room' (eb b) (es s) (other fs))
      opened_after b s fs w g = by (ltb (length fs) room) refl
        where
          by : (t : Bool) → ltb (length fs) room ≡ t → After fs (cond t (go s (b ∷ fs)) (stop TooDeep)) (opened room' (eb b) (es s) (other fs))
          by true e =
              let n = length-map fs eb in
              let l = ltb-true (length fs) room e in
              (ap (λ t. cond t (go (es s) (eb b ∷ other fs)) (stop TooDeep)) (lt-ltb (length (other fs)) room' (omega arith)), ((w, g.0), g.1, omega arith))
          by false e =
              let l = ltb-false (length fs) room e in
              let k = g.2 in
              (es s, b, refl, omega arith, (w, g.0))

      form_worded : (o : Option Form) (s : S) (fs : List (Bracket X Y)) → wanted fs ≡ a_term_word → Fine s fs → After fs (replaced (as_form o) s fs) (replaced (as_form o) (es s) (other fs))
      form_worded None s fs w g = refl
      form_worded (Some f) s [] w g = refl
      form_worded (Some f) s (term_word ∷ fs) w g = (refl, g)
      form_worded (Some f) s (type_word ∷ fs) w g = let z : ◌≡◌ {A = ℕ} 0 1 = cc in absurd (omega arith)
      form_worded (Some f) s (open_type k xs ∷ fs) w g = absurd (type_wants (ltb (length xs) 2) w)
        where
          type_wants : (b : Bool) → cond b a_type a_close ≡ a_term_word → ⊥
          type_wants true h = let z : ◌≡◌ {A = ℕ} 0 1 = cc in omega arith
          type_wants false h = let z : ◌≡◌ {A = ℕ} 0 1 = cc in omega arith
      form_worded (Some f) s (open_term a xs ys ∷ fs) w g = (refl, g)

      shape_worded : (o : Option Shape) (s : S) (fs : List (Bracket X Y)) → wanted fs ≡ a_type_word → Fine s fs → After fs (replaced (as_shape o) s fs) (replaced (as_shape o) (es s) (other fs))
      shape_worded None s fs w g = refl
      shape_worded (Some k) s [] w g = refl
      shape_worded (Some k) s (term_word ∷ fs) w g = let z : ◌≡◌ {A = ℕ} 0 1 = cc in absurd (omega arith)
      shape_worded (Some k) s (type_word ∷ fs) w g = (refl, g)
      shape_worded (Some k) s (open_type j xs ∷ fs) w g = (refl, g)
      shape_worded (Some k) s (open_term f xs ys ∷ fs) w g = absurd (term_wants (ltb (length xs) (types f)) (ltb (length ys) (parts f)) w)
        where
          term_wants : (b c : Bool) → cond b a_type (cond c a_term a_close) ≡ a_type_word → ⊥
          term_wants true c h = let z : ◌≡◌ {A = ℕ} 0 1 = cc in omega arith
          term_wants false true h = let z : ◌≡◌ {A = ℕ} 0 1 = cc in omega arith
          term_wants false false h = let z : ◌≡◌ {A = ℕ} 0 1 = cc in omega arith

      closed_after : (now : List (Bracket X Y)) (s : S) (fs : List (Bracket X Y)) → Fine s fs → After now (closed m room s fs) (closed m' room' (es s) (other fs))
      closed_after now s [] g = refl
      closed_after now s (term_word ∷ fs) g = refl
      closed_after now s (type_word ∷ fs) g = refl
      closed_after now s (open_type k xs ∷ fs) g =
          let l : Like ex NoType (m.shape k (get_or xs 0 m.natural) (get_or xs 1 m.natural) s) (m'.shape k (get_or (map ex xs) 0 m'.natural) (get_or (map ex xs) 1 m'.natural) (es s)) =
          subst (λ (q : X' × X'). Like ex NoType (m.shape k (get_or xs 0 m.natural) (get_or xs 1 m.natural) s) (m'.shape k q.0 q.1 (es s)))
          (λ i. (sym (get_d_map ex xs 0 m.natural m'.natural fol.natural) i, sym (get_d_map ex xs 1 m.natural m'.natural fol.natural) i))
          (fol.shape k (get_or xs 0 m.natural) (get_or xs 1 m.natural) s g.1)
          in
          let deep = g.2 in
          made_type_after now s (m.shape k (get_or xs 0 m.natural) (get_or xs 1 m.natural) s) (m'.shape k (get_or (map ex xs) 0 m'.natural) (get_or (map ex xs) 1 m'.natural) (es s)) fs l g.0.0 (g.0.1, g.1, omega arith)
      closed_after now s (open_term f xs ys ∷ fs) g = let k = g.2 in made_after now s (m.form f xs ys s) (m'.form f (map ex xs) (map ey ys) (es s)) fs (fol.form f xs ys s g.1) g.0.0 (g.0.1, g.1, omega arith)

      meet_after : (w : Want) (t : Tok) (s : S) (fs : List (Bracket X Y)) → wanted fs ≡ w → Fine s fs → After fs (meet m room w t s fs) (meet m' room' w t (es s) (other fs))
      meet_after a_term lpar s fs w g = opened_after term_word s fs w g
      meet_after a_term rpar s fs w g = refl
      meet_after a_term (word v) s fs w g = refl
      meet_after a_term (number n) s fs w g = made_after fs s (m.leaf 0 n s) (m'.leaf 0 n (es s)) fs (fol.leaf 0 n s g.1) w g
      meet_after a_term (name n) s fs w g = made_after fs s (m.leaf 1 n s) (m'.leaf 1 n (es s)) fs (fol.leaf 1 n s g.1) w g
      meet_after a_type lpar s fs w g = opened_after type_word s fs w g
      meet_after a_type rpar s fs w g = refl
      meet_after a_type (word v) s fs w g = by (same v (codes "nat"))
        where
          by : (b : Bool) → After fs (cond b (give_type s m.natural fs) (stop Misplaced)) (cond b (give_type (es s) m'.natural (other fs)) (stop Misplaced))
          by true = subst (λ x. After fs (give_type s m.natural fs) (give_type (es s) x (other fs))) fol.natural (give_type_after fs s m.natural fs g)
          by false = refl
      meet_after a_type (number n) s fs w g = refl
      meet_after a_type (name n) s fs w g = refl
      meet_after a_term_word lpar s fs w g = refl
      meet_after a_term_word rpar s fs w g = refl
      meet_after a_term_word (word v) s fs w g = form_worded (form_of v) s fs w g
      meet_after a_term_word (number n) s fs w g = refl
      meet_after a_term_word (name n) s fs w g = refl
      meet_after a_type_word lpar s fs w g = refl
      meet_after a_type_word rpar s fs w g = refl
      meet_after a_type_word (word v) s fs w g = shape_worded (shape_of v) s fs w g
      meet_after a_type_word (number n) s fs w g = refl
      meet_after a_type_word (name n) s fs w g = refl
      meet_after a_close lpar s fs w g = refl
      meet_after a_close rpar s fs w g = closed_after fs s fs g
      meet_after a_close (word v) s fs w g = refl
      meet_after a_close (number n) s fs w g = refl
      meet_after a_close (name n) s fs w g = refl

      pub turn_after : (t : Tok) (s : S) (fs : List (Bracket X Y)) → Fine s fs → After fs (turn m room t s fs) (turn m' room' t (es s) (other fs))
      turn_after t s fs g =
          subst (λ w. After fs (turn m room t s fs) (meet m' room' w t (es s) (other fs))) (sym (wanted_other fs)) (meet_after (wanted fs) t s fs refl g)

      -- ---- a list of tokens

      abbrev pub Kept : Turn S X Y → Turn S' X' Y' → Type 0
      Kept (go s fs) d = (d ≡ go (es s) (other fs)) × Fine s fs
      Kept (done s y) d = d ≡ done (es s) (ey y)
      Kept (stop k) d = Unit {0}

      weaken : (now : List (Bracket X Y)) (c : Turn S X Y) (d : Turn S' X' Y') → After now c d → Kept c d
      weaken now (go s fs) d a = a
      weaken now (done s y) d a = a
      weaken now (stop k) d a = tt

      pub walk_after : (ts : List Tok) (c : Turn S X Y) (d : Turn S' X' Y') → Kept c d → Kept (walk m room ts c) (walk m' room' ts d)
      walk_after [] c d k = k
      walk_after (t ∷ ts) (go s fs) d k =
          subst (λ d. Kept (walk m room ts (turn m room t s fs)) (walk m' room' (t ∷ ts) d)) (sym k.0)
          (walk_after ts (turn m room t s fs) (turn m' room' t (es s) (other fs)) (weaken fs (turn m room t s fs) (turn m' room' t (es s) (other fs)) (turn_after t s fs k.1)))
      walk_after (t ∷ ts) (done s y) d k = tt
      walk_after (t ∷ ts) (stop f) d k = tt

      -- ---- a text

      -- the second maker lacks what the first one does
      abbrev pub Still : Fault → Type 0
      Still TooLong = Unit {0}
      Still BadByte = Unit {0}
      Still BadNumber = Unit {0}
      Still Misplaced = Unit {0}
      Still TooDeep = room' ≤ room
      Still NoTypeRow = (o : Option (S' × X')) → NoType o → o ≡ None
      Still NoTermRow = (o : Option (S' × Y')) → NoTerm o → o ≡ None

      pub still : (now : List (Bracket X Y)) (f : Fault) (d : Turn S' X' Y') → Still f → After now (stop f) d → d ≡ stop f
      still now TooLong d k a = absurd a
      still now BadByte d k a = absurd a
      still now BadNumber d k a = absurd a
      still now Misplaced d k a = a
      still now TooDeep d k a =
          let n = length-map now eb in
          let l = a.3 in
          a.2 ∙ ap (λ t. cond t (go a.0 (eb a.1 ∷ other now)) (stop TooDeep)) (le-ltb (length (other now)) room' (omega arith))
      still now NoTypeRow d k a = a.2 ∙ ap (λ o. made_type o (other a.1)) (k a.0 a.3)
      still now NoTermRow d k a = a.2 ∙ ap (λ o. made o (other a.1)) (k a.0 a.3)

      module _ (long : ℕ) (f : Fault) (p : ℕ) (k : Still f) where
        abbrev Keeps : ℕ → Type 0
        Keeps n = (bs : List ℕ) (s : S) (fs : List (Bracket X Y)) → Fine s fs → reading m room long n bs s fs ≡ refused_at f p → reading m' room' long n bs (es s) (other fs) ≡ refused_at f p

        module _ (n : ℕ) (ih : Keeps n) (bs cs : List ℕ) where
          at_end : (s : S) (y : Y) (st : Step) → ended (place m room long cs) s y st ≡ refused_at f p → ended (place m room long cs) (es s) (ey y) st ≡ refused_at f p
          at_end s y over h = absurd (kept_nothing s y f p h)
          at_end s y (took t ds) h = moved Misplaced f (place m room long cs) p h
          at_end s y (refused j) h = moved j f (place m room long cs) p h

          at_turn : (now : List (Bracket X Y)) (c : Turn S X Y) (d : Turn S' X' Y') → After now c d → after_turn m room long (reading m room long n) (place m room long bs) cs c ≡ refused_at f p
              → after_turn m' room' long (reading m' room' long n) (place m room long bs) cs d ≡ refused_at f p
          at_turn now (go s fs) d a h = ap (after_turn m' room' long (reading m' room' long n) (place m room long bs) cs) a.0 ∙ ih cs s fs a.1 h
          at_turn now (done s y) d a h = ap (after_turn m' room' long (reading m' room' long n) (place m room long bs) cs) a ∙ at_end s y (token (trimmed cs)) h
          at_turn now (stop j) d a h =
              let e = fault_of j f (place m room long bs) p h in
              ap (after_turn m' room' long (reading m' room' long n) (place m room long bs) cs) (still now j d (subst Still (sym e) k) a) ∙ moved j f (place m room long bs) p h

        pub keeps : (n : ℕ) → Keeps n
        keeps zero bs s fs g h = moved Misplaced f long p h
        keeps (suc n) bs s fs g h = by (token (trimmed bs)) (keeps n) h
          where
            by : (st : Step) → Keeps n → after_token m room long (reading m room long n) (place m room long bs) st s fs ≡ refused_at f p
                → after_token m' room' long (reading m' room' long n) (place m room long bs) st (es s) (other fs) ≡ refused_at f p
            by over ih h = moved Misplaced f long p h
            by (refused j) ih h = moved j f (place m room long bs) p h
            by (took t cs) ih h = at_turn n ih bs cs fs (turn m room t s fs) (turn m' room' t (es s) (other fs)) (turn_after t s fs g) h
