-- What the machine makes of tokens is a term, and the tokens are its.
use Rattle.std.proofs.Common.{◌≡◌, ℕ, zero, suc, ◌+◌, ◌<◌, ◌≤◌, Bool, true, false, cond, ltb, List, [], ◌∷◌, ◌++◌, map, length, Some, None, codes, Option, sym, refl, ap, ◌∙◌, append_assoc, arith, ltb-true, le-ltb, lt-ltb}
use Rattle.std.proofs.lemmas.List.{append-nil, length_push, length-map}
use Rattle.grammar.specs.declared.fault.Fault.TheVariants.{Misplaced, TooDeep}
use Rattle.grammar.specs.Tokens.{Tok, lpar, rpar, word, number, name as hash}
use Rattle.theory.specs.Syntax.{Ty, nat, Term, num, name}
use Rattle.rows.specs.declared.forms.Form.{Form}
use Rattle.rows.specs.declared.forms.Shape.{Shape}
use Rattle.rows.specs.Forms.{types, parts}
use Rattle.grammar.specs.Words.{word as word_of, shape_word, form_of, shape_of, same}
use Rattle.grammar.specs.Reader.{Maker, Bracket, term_word, type_word, open_type, open_term, a_term, a_type, a_close, wanted, Turn, go, stop, give, give_type, made, made_type, replaced, as_form, as_shape, meet}
use Rattle.theory.specs.Folds.{shaped, built, most}
use Rattle.grammar.specs.TermTokens.{joined, toks_type, toks, type_depths, depth_type, term_depths, depth}
use Rattle.theory.specs.Induction.{fold_shaped, fold_built}
use Rattle.grammar.proofs.Words.{same_true, form_is, shape_is}
use Rattle.grammar.proofs.Grow.{onward, nothing, each, each_some, each_length, growing_types, grow_type, growing, grow, finished, turned, drive}
use Rattle.grammar.proofs.Driven.{toks_shaped, toks_built}

module _ {S X Y : Type 0} (m : Maker S X Y) (room : ℕ) where
  abbrev on : List Tok → Turn S X Y → Option (S × Y)
  on ts t = turned ts (drive m room ts) t

  -- a type at the front of the tokens, and how the machine goes on behind it
  pub record FoundType (ts : List Tok) (s : S) (fs : List (Bracket X Y)) (r : S × Y) : Type 0 where
    pub type : Ty
    pub rest : List Tok
    pub at : S × X
    pub split : ts ≡ toks_type type ++ rest
    pub shorter : length rest < length ts
    pub fits : length fs + depth_type type ≤ room
    pub grown : grow_type m type s ≡ Some at
    pub goes : on rest (give_type at.0 at.1 fs) ≡ Some r

  abbrev FindsType : ℕ → Type 0
  FindsType n = (ts : List Tok) (s : S) (fs : List (Bracket X Y)) (r : S × Y) → length ts ≤ n → length fs ≤ room → wanted fs ≡ a_type → drive m room ts s fs ≡ Some r → FoundType ts s fs r

  module _ (fs : List (Bracket X Y)) (r : S × Y) where
    -- the closing bracket of a type
    shut_type : (k : Shape) (x y : X) (s : S) (ts : List Tok) → drive m room ts s (open_type k (x ∷ y ∷ []) ∷ fs) ≡ Some r
        → (rest : List Tok) × (at : S × X) × (ts ≡ rpar ∷ rest) × (m.shape k x y s ≡ Some at) × (on rest (give_type at.0 at.1 fs) ≡ Some r)
    shut_type k x y s [] h = absurd (nothing h)
    shut_type k x y s (lpar ∷ ts) h = absurd (nothing h)
    shut_type k x y s (word v ∷ ts) h = absurd (nothing h)
    shut_type k x y s (number n ∷ ts) h = absurd (nothing h)
    shut_type k x y s (hash n ∷ ts) h = absurd (nothing h)
    shut_type k x y s (rpar ∷ ts) h = by (m.shape k x y s) refl h
      where
        by : (o : Option (S × X)) → m.shape k x y s ≡ o → on ts (made_type o fs) ≡ Some r
            → (rest : List Tok) × (at : S × X) × (rpar ∷ ts ≡ rpar ∷ rest) × (m.shape k x y s ≡ Some at) × (on rest (give_type at.0 at.1 fs) ≡ Some r)
        by None e q = absurd (nothing q)
        by (Some p) e q = (ts, p, refl, e, q)

    module _ (n : ℕ) (ih : FindsType n) (s : S) where
      whole_type : (k : Shape) (ts : List Tok) → length ts ≤ n → length fs < room → drive m room ts s (open_type k [] ∷ fs) ≡ Some r → FoundType (lpar ∷ word (shape_word k) ∷ ts) s fs r
      whole_type k ts l o h =
          let A = ih ts s (open_type k [] ∷ fs) r l o refl h in
          let B = ih A.rest A.at.0 (open_type k (A.at.1 ∷ []) ∷ fs) r (omega (arith, A.shorter)) o refl A.goes in
          let C = shut_type k A.at.1 B.at.1 B.at.0 B.rest B.goes in
          record {
            type = shaped k A.type B.type;
            rest = C.0;
            at = C.1;
            split = ap (λ l. lpar ∷ word (shape_word k) ∷ l) (A.split ∙ ap (λ l. toks_type A.type ++ l) (B.split ∙ ap (λ l. toks_type B.type ++ l) C.2)) ∙ sym (toks_shaped k A.type B.type C.0);
            shorter = omega (arith, A.shorter, B.shorter, ap length C.2);
            fits = omega (arith, A.fits, B.fits, fold_shaped type_depths k A.type B.type);
            grown = ap (λ g. g s) (fold_shaped (growing_types m) k A.type B.type) ∙ ap (λ o. onward o (λ p. onward (grow_type m B.type p.0) (λ q. m.shape k p.1 q.1 q.0))) A.grown ∙ ap (λ o. onward o (λ q. m.shape k A.at.1 q.1 q.0)) B.grown ∙ C.3;
            goes = C.4;
          }

      worded_type : (ts : List Tok) → length ts ≤ suc n → length fs < room → drive m room ts s (type_word ∷ fs) ≡ Some r → FoundType (lpar ∷ ts) s fs r
      worded_type [] l o h = absurd (nothing h)
      worded_type (lpar ∷ ts) l o h = absurd (nothing h)
      worded_type (rpar ∷ ts) l o h = absurd (nothing h)
      worded_type (number k ∷ ts) l o h = absurd (nothing h)
      worded_type (hash k ∷ ts) l o h = absurd (nothing h)
      worded_type (word v ∷ ts) l o h = by (shape_of v) refl h
        where
          by : (a : Option Shape) → shape_of v ≡ a → on ts (replaced (as_shape a) s (type_word ∷ fs)) ≡ Some r → FoundType (lpar ∷ word v ∷ ts) s fs r
          by None e q = absurd (nothing q)
          by (Some k) e q = rw (shape_is v k e) (whole_type k ts (omega arith) o q)

      met_type : (t : Tok) (ts : List Tok) → length ts ≤ suc n → length fs ≤ room → on ts (meet m room a_type t s fs) ≡ Some r → FoundType (t ∷ ts) s fs r
      met_type lpar ts l o h = by (ltb (length fs) room) refl h
        where
          by : (b : Bool) → ltb (length fs) room ≡ b → on ts (cond b (go s (type_word ∷ fs)) (stop TooDeep)) ≡ Some r → FoundType (lpar ∷ ts) s fs r
          by true e q = worded_type ts l (ltb-true (length fs) room e) q
          by false e q = absurd (nothing q)
      met_type rpar ts l o h = absurd (nothing h)
      met_type (number k) ts l o h = absurd (nothing h)
      met_type (hash k) ts l o h = absurd (nothing h)
      met_type (word v) ts l o h = by (same v (codes "nat")) refl h
        where
          by : (b : Bool) → same v (codes "nat") ≡ b → on ts (cond b (give_type s m.natural fs) (stop Misplaced)) ≡ Some r → FoundType (word v ∷ ts) s fs r
          by true e q = record { type = nat; rest = ts; at = (s, m.natural); split = ap (λ w. word w ∷ ts) (same_true v (codes "nat") e); shorter = omega arith; fits = omega arith; grown = refl; goes = q }
          by false e q = absurd (nothing q)

  pub found_type : (n : ℕ) → FindsType n
  found_type zero [] s fs r l o w h = absurd (nothing h)
  found_type zero (t ∷ ts) s fs r l o w h = absurd (omega arith)
  found_type (suc n) [] s fs r l o w h = absurd (nothing h)
  found_type (suc n) (t ∷ ts) s fs r l o w h = met_type fs r n (found_type n) s t ts (omega arith) o (sym (ap (λ w. on ts (meet m room w t s fs)) w) ∙ h)

  -- the types that a form still lacks
  pub record FoundTypes (f : Form) (k : ℕ) (ts : List Tok) (xs : List X) (s : S) (fs : List (Bracket X Y)) (r : S × Y) : Type 0 where
    pub list : List Ty
    pub rest : List Tok
    pub at : S × List X
    pub count : length list ≡ k
    pub split : ts ≡ joined (map toks_type list) ++ rest
    pub shorter : length rest ≤ length ts
    pub fits : suc (length fs) + most (map depth_type list) ≤ room
    pub grown : each (map (grow_type m) list) s ≡ Some at
    pub goes : drive m room rest at.0 (open_term f (xs ++ at.1) [] ∷ fs) ≡ Some r

  found_types : (f : Form) (k : ℕ) (ts : List Tok) (xs : List X) (s : S) (fs : List (Bracket X Y)) (r : S × Y) → length xs + k ≡ types f → length fs < room → drive m room ts s (open_term f xs [] ∷ fs) ≡ Some r → FoundTypes f k ts xs s fs r
  found_types f zero ts xs s fs r e o h =
      record { list = []; rest = ts; at = (s, []); count = refl; split = refl; shorter = omega arith; fits = omega arith; grown = refl; goes = ap (λ l. drive m room ts s (open_term f l [] ∷ fs)) (append-nil xs) ∙ h }
  found_types f (suc k) ts xs s fs r e o h =
      let less : ltb (length xs) (types f) ≡ true = lt-ltb (length xs) (types f) (omega arith) in
      let A = found_type (length ts) ts s (open_term f xs [] ∷ fs) r (omega arith) o (ap (λ b. cond b a_type (cond (ltb 0 (parts f)) a_term a_close)) less) h in
      let on_less : drive m room A.rest A.at.0 (open_term f (xs ++ A.at.1 ∷ []) [] ∷ fs) ≡ Some r = sym (ap (λ b. on A.rest (cond b (go A.at.0 (open_term f (xs ++ A.at.1 ∷ []) [] ∷ fs)) (stop Misplaced))) less) ∙ A.goes in
      let B = found_types f k A.rest (xs ++ A.at.1 ∷ []) A.at.0 fs r (let l = length_push xs A.at.1 in omega arith) o on_less in
      record {
        list = A.type ∷ B.list;
        rest = B.rest;
        at = (B.at.0, A.at.1 ∷ B.at.1);
        count = ap suc B.count;
        split = A.split ∙ ap (λ l. toks_type A.type ++ l) B.split ∙ sym (append_assoc (toks_type A.type) (joined (map toks_type B.list)) B.rest);
        shorter = omega (arith, A.shorter, B.shorter);
        fits = omega (arith, A.fits, B.fits);
        grown = each_some (grow_type m A.type) (map (grow_type m) B.list) s A.at B.at A.grown B.grown;
        goes = ap (λ l. drive m room B.rest B.at.0 (open_term f l [] ∷ fs)) (sym (append_assoc xs (A.at.1 ∷ []) B.at.1)) ∙ B.goes;
      }

  -- a term at the front of the tokens
  pub record Found (ts : List Tok) (s : S) (fs : List (Bracket X Y)) (r : S × Y) : Type 0 where
    pub term : Term
    pub rest : List Tok
    pub at : S × Y
    pub split : ts ≡ toks term ++ rest
    pub shorter : length rest < length ts
    pub fits : length fs + depth term ≤ room
    pub grown : grow m term s ≡ Some at
    pub goes : on rest (give at.0 at.1 fs) ≡ Some r

  abbrev Finds : ℕ → Type 0
  Finds n = (ts : List Tok) (s : S) (fs : List (Bracket X Y)) (r : S × Y) → length ts ≤ n → length fs ≤ room → wanted fs ≡ a_term → drive m room ts s fs ≡ Some r → Found ts s fs r

  pub record FoundTerms (f : Form) (k : ℕ) (ts : List Tok) (xs : List X) (ys : List Y) (s : S) (fs : List (Bracket X Y)) (r : S × Y) : Type 0 where
    pub list : List Term
    pub rest : List Tok
    pub at : S × List Y
    pub count : length list ≡ k
    pub split : ts ≡ joined (map toks list) ++ rest
    pub shorter : length rest ≤ length ts
    pub fits : suc (length fs) + most (map depth list) ≤ room
    pub grown : each (map (grow m) list) s ≡ Some at
    pub goes : drive m room rest at.0 (open_term f xs (ys ++ at.1) ∷ fs) ≡ Some r

  found_terms : (n : ℕ) → Finds n → (f : Form) (k : ℕ) (ts : List Tok) (xs : List X) (ys : List Y) (s : S) (fs : List (Bracket X Y)) (r : S × Y) → length ts ≤ n → length xs ≡ types f → length ys + k ≡ parts f → length fs < room → drive m room ts s (open_term f xs ys ∷ fs) ≡ Some r → FoundTerms f k ts xs ys s fs r
  found_terms n ih f zero ts xs ys s fs r l d e o h =
      record { list = []; rest = ts; at = (s, []); count = refl; split = refl; shorter = omega arith; fits = omega arith; grown = refl; goes = ap (λ l. drive m room ts s (open_term f xs l ∷ fs)) (append-nil ys) ∙ h }
  found_terms n ih f (suc k) ts xs ys s fs r l d e o h =
      let none : ltb (length xs) (types f) ≡ false = le-ltb (length xs) (types f) (omega arith) in
      let less : ltb (length ys) (parts f) ≡ true = lt-ltb (length ys) (parts f) (omega arith) in
      let A = ih ts s (open_term f xs ys ∷ fs) r l o (ap (λ b. cond b a_type (cond (ltb (length ys) (parts f)) a_term a_close)) none ∙ ap (λ b. cond b a_term a_close) less) h in
      let on_less : drive m room A.rest A.at.0 (open_term f xs (ys ++ A.at.1 ∷ []) ∷ fs) ≡ Some r = sym (ap (λ b. on A.rest (cond b (go A.at.0 (open_term f xs (ys ++ A.at.1 ∷ []) ∷ fs)) (stop Misplaced))) less) ∙ A.goes in
      let B = found_terms n ih f k A.rest xs (ys ++ A.at.1 ∷ []) A.at.0 fs r (omega (arith, A.shorter)) d (let l = length_push ys A.at.1 in omega arith) o on_less in
      record {
        list = A.term ∷ B.list;
        rest = B.rest;
        at = (B.at.0, A.at.1 ∷ B.at.1);
        count = ap suc B.count;
        split = A.split ∙ ap (λ l. toks A.term ++ l) B.split ∙ sym (append_assoc (toks A.term) (joined (map toks B.list)) B.rest);
        shorter = omega (arith, A.shorter, B.shorter);
        fits = omega (arith, A.fits, B.fits);
        grown = each_some (grow m A.term) (map (grow m) B.list) s A.at B.at A.grown B.grown;
        goes = ap (λ l. drive m room B.rest B.at.0 (open_term f xs l ∷ fs)) (sym (append_assoc ys (A.at.1 ∷ []) B.at.1)) ∙ B.goes;
      }

  module _ (fs : List (Bracket X Y)) (r : S × Y) where
    shut : (f : Form) (xs : List X) (ys : List Y) (s : S) (ts : List Tok) → wanted (open_term f xs ys ∷ fs) ≡ a_close → drive m room ts s (open_term f xs ys ∷ fs) ≡ Some r
        → (rest : List Tok) × (at : S × Y) × (ts ≡ rpar ∷ rest) × (m.form f xs ys s ≡ Some at) × (on rest (give at.0 at.1 fs) ≡ Some r)
    shut f xs ys s [] w h = absurd (nothing h)
    shut f xs ys s (t ∷ ts) w h = by t (sym (ap (λ w. on ts (meet m room w t s (open_term f xs ys ∷ fs))) w) ∙ h)
      where
        with : (o : Option (S × Y)) → m.form f xs ys s ≡ o → on ts (made o fs) ≡ Some r
            → (rest : List Tok) × (at : S × Y) × (rpar ∷ ts ≡ rpar ∷ rest) × (m.form f xs ys s ≡ Some at) × (on rest (give at.0 at.1 fs) ≡ Some r)
        with None e q = absurd (nothing q)
        with (Some p) e q = (ts, p, refl, e, q)

        by : (t : Tok) → on ts (meet m room a_close t s (open_term f xs ys ∷ fs)) ≡ Some r
            → (rest : List Tok) × (at : S × Y) × (t ∷ ts ≡ rpar ∷ rest) × (m.form f xs ys s ≡ Some at) × (on rest (give at.0 at.1 fs) ≡ Some r)
        by lpar q = absurd (nothing q)
        by rpar q = with (m.form f xs ys s) refl q
        by (word v) q = absurd (nothing q)
        by (number n) q = absurd (nothing q)
        by (hash n) q = absurd (nothing q)

    module _ (n : ℕ) (ih : Finds n) (s : S) where
      leafed : (t : Tok) (e : Term) (ts : List Tok) → t ∷ [] ≡ toks e → depth e ≡ 0 → length fs ≤ room → (o : Option (S × Y)) → grow m e s ≡ o → on ts (made o fs) ≡ Some r → Found (t ∷ ts) s fs r
      leafed t e ts is flat l None g h = absurd (nothing h)
      leafed t e ts is flat l (Some p) g h = record { term = e; rest = ts; at = p; split = ap (λ l. l ++ ts) is; shorter = omega arith; fits = omega arith; grown = g; goes = h }

      outcome : (f : Form) (ts : List Tok) → length ts ≤ n → length fs < room → drive m room ts s (open_term f [] [] ∷ fs) ≡ Some r → Found (lpar ∷ word (word_of f) ∷ ts) s fs r
      outcome f ts l o h =
          let A = found_types f (types f) ts [] s fs r (omega arith) o h in
          let d = A.count in
          let xl : length A.at.1 ≡ types f = each_length (map (grow_type m) A.list) s A.at A.grown ∙ length-map A.list (grow_type m) ∙ d in
          let B = found_terms n ih f (parts f) A.rest A.at.1 [] A.at.0 fs r (omega (arith, A.shorter)) xl (omega arith) o A.goes in
          let e = B.count in
          let yl : length B.at.1 ≡ parts f = each_length (map (grow m) B.list) A.at.0 B.at B.grown ∙ length-map B.list (grow m) ∙ e in
          let none : ltb (length A.at.1) (types f) ≡ false = le-ltb (length A.at.1) (types f) (omega arith) in
          let full : ltb (length B.at.1) (parts f) ≡ false = le-ltb (length B.at.1) (parts f) (omega arith) in
          let C = shut f A.at.1 B.at.1 B.at.0 B.rest (ap (λ b. cond b a_type (cond (ltb (length B.at.1) (parts f)) a_term a_close)) none ∙ ap (λ b. cond b a_term a_close) full) B.goes in
          record {
            term = built f A.list B.list;
            rest = C.0;
            at = C.1;
            split = ap (λ l. lpar ∷ word (word_of f) ∷ l) (A.split ∙ ap (λ l. joined (map toks_type A.list) ++ l) (B.split ∙ ap (λ l. joined (map toks B.list) ++ l) C.2)) ∙ sym (toks_built f A.list B.list C.0 d e);
            shorter = omega (arith, A.shorter, B.shorter, ap length C.2);
            fits = omega (arith, A.fits, B.fits, fold_built term_depths f A.list B.list d e);
            grown = ap (λ g. g s) (fold_built (growing m) f A.list B.list d e)
                ∙ ap (λ o. onward o (λ p. onward (each (map (grow m) B.list) p.0) (λ q. m.form f p.1 q.1 q.0))) A.grown
                ∙ ap (λ o. onward o (λ q. m.form f A.at.1 q.1 q.0)) B.grown ∙ C.3;
            goes = C.4;
          }

      worded : (ts : List Tok) → length ts ≤ suc n → length fs < room → drive m room ts s (term_word ∷ fs) ≡ Some r → Found (lpar ∷ ts) s fs r
      worded [] l o h = absurd (nothing h)
      worded (lpar ∷ ts) l o h = absurd (nothing h)
      worded (rpar ∷ ts) l o h = absurd (nothing h)
      worded (number k ∷ ts) l o h = absurd (nothing h)
      worded (hash k ∷ ts) l o h = absurd (nothing h)
      worded (word v ∷ ts) l o h = by (form_of v) refl h
        where
          by : (a : Option Form) → form_of v ≡ a → on ts (replaced (as_form a) s (term_word ∷ fs)) ≡ Some r → Found (lpar ∷ word v ∷ ts) s fs r
          by None e q = absurd (nothing q)
          by (Some f) e q = rw (form_is v f e) (outcome f ts (omega arith) o q)

      met : (t : Tok) (ts : List Tok) → length ts ≤ suc n → length fs ≤ room → on ts (meet m room a_term t s fs) ≡ Some r → Found (t ∷ ts) s fs r
      met lpar ts l o h = by (ltb (length fs) room) refl h
        where
          by : (b : Bool) → ltb (length fs) room ≡ b → on ts (cond b (go s (term_word ∷ fs)) (stop TooDeep)) ≡ Some r → Found (lpar ∷ ts) s fs r
          by true e q = worded ts l (ltb-true (length fs) room e) q
          by false e q = absurd (nothing q)
      met rpar ts l o h = absurd (nothing h)
      met (word v) ts l o h = absurd (nothing h)
      met (number k) ts l o h = leafed (number k) (num k) ts refl refl o (m.leaf 0 k s) refl h
      met (hash k) ts l o h = leafed (hash k) (name k) ts refl refl o (m.leaf 1 k s) refl h

  pub found : (n : ℕ) → Finds n
  found zero [] s fs r l o w h = absurd (nothing h)
  found zero (t ∷ ts) s fs r l o w h = absurd (omega arith)
  found (suc n) [] s fs r l o w h = absurd (nothing h)
  found (suc n) (t ∷ ts) s fs r l o w h = met fs r n (found n) s t ts (omega arith) o (sym (ap (λ w. on ts (meet m room w t s fs)) w) ∙ h)

  -- tokens that the machine takes whole are those of a term, which is what is made
  pub record Driven (ts : List Tok) (s : S) (r : S × Y) : Type 0 where
    pub term : Term
    pub split : ts ≡ toks term
    pub fits : depth term ≤ room
    pub grown : grow m term s ≡ Some r

  pub finds : (ts : List Tok) (s : S) (r : S × Y) → drive m room ts s [] ≡ Some r → Driven ts s r
  finds ts s r h =
      let A = found (length ts) ts s [] r (omega arith) (omega arith) refl h in
      let at_end = ended A.rest A.at A.goes in
      record {
        term = A.term;
        split = A.split ∙ ap (λ l. toks A.term ++ l) at_end.0 ∙ append-nil (toks A.term);
        fits = omega (arith, A.fits);
        grown = A.grown ∙ ap Some at_end.1;
      }
    where
      ended : (rest : List Tok) (at : S × Y) → finished rest at.0 at.1 ≡ Some r → (rest ≡ []) × (at ≡ r)
      ended [] at h = (refl, let e : (at.0, at.1) ≡ r = cc in e)
      ended (t ∷ ts) at h = absurd (nothing h)
