-- The tokens of a term make the machine make that term.
use Rattle.std.proofs.Common.{◌≡◌, ℕ, suc, ◌+◌, ◌<◌, ◌≤◌, true, false, cond, ltb, List, [], ◌∷◌, ◌++◌, map, length, Some, None, codes, Option, sym, refl, ap, ◌∙◌, append_assoc, arith, le-ltb, lt-ltb}
use Rattle.std.proofs.lemmas.List.{append-nil, length_push, length-map}
use Rattle.grammar.specs.declared.fault.Fault.TheVariants.{Misplaced, TooDeep}
use Rattle.grammar.specs.Tokens.{Tok, lpar, rpar, word, number, name as hash}
use Rattle.theory.specs.Syntax.{Ty, Term}
use Rattle.rows.specs.declared.forms.Form.{Form}
use Rattle.rows.specs.declared.forms.Shape.{Shape}
use Rattle.rows.specs.Forms.{types, parts}
use Rattle.grammar.specs.Words.{word as word_of, shape_word}
use Rattle.grammar.specs.Reader.{Maker, Bracket, term_word, type_word, open_type, open_term, a_term, a_type, a_close, wanted, Turn, go, stop, made, made_type, replaced, as_form, as_shape, meet}
use Rattle.theory.specs.Lists.{All}
use Rattle.theory.specs.Folds.{shaped, built, most}
use Rattle.grammar.specs.TermTokens.{joined, type_tokens, toks_type, term_tokens, toks, type_depths, depth_type, term_depths, depth}
use Rattle.theory.specs.Induction.{by_shapes, fold_shaped, by_forms, fold_built}
use Rattle.grammar.proofs.Words.{form_word, shape_word_of}
use Rattle.grammar.proofs.Grow.{onward, put, each, each_length, growing_types, grow_type, growing, grow, turned, drive}

pub toks_shaped : (k : Shape) (T U : Ty) (ts : List Tok) → toks_type (shaped k T U) ++ ts ≡ lpar ∷ word (shape_word k) ∷ (toks_type T ++ (toks_type U ++ rpar ∷ ts))
toks_shaped k T U ts = ap (λ l. l ++ ts) (fold_shaped type_tokens k T U) ∙ simp append_assoc

pub toks_built : (f : Form) (Ts : List Ty) (es : List Term) (ts : List Tok) → length Ts ≡ types f → length es ≡ parts f
    → toks (built f Ts es) ++ ts ≡ lpar ∷ word (word_of f) ∷ (joined (map toks_type Ts) ++ (joined (map toks es) ++ rpar ∷ ts))
toks_built f Ts es ts d e = ap (λ l. l ++ ts) (fold_built term_tokens f Ts es d e) ∙ simp append_assoc

module _ {S X Y : Type 0} (m : Maker S X Y) (room : ℕ) where
  abbrev on : List Tok → Turn S X Y → Option (S × Y)
  on ts t = turned ts (drive m room ts) t

  abbrev ReadsType : Ty → Type 0
  ReadsType T = (s : S) (fs : List (Bracket X Y)) (ts : List Tok) → wanted fs ≡ a_type → length fs + depth_type T ≤ room → drive m room (toks_type T ++ ts) s fs ≡ on ts (made_type (grow_type m T s) fs)

  -- a bracket and a word
  opens_type : (k : Shape) (s : S) (fs : List (Bracket X Y)) (ts : List Tok) → wanted fs ≡ a_type → length fs < room → drive m room (lpar ∷ word (shape_word k) ∷ ts) s fs ≡ drive m room ts s (open_type k [] ∷ fs)
  opens_type k s fs ts e h =
      ap (λ w. on (word (shape_word k) ∷ ts) (meet m room w lpar s fs)) e
      ∙ ap (λ b. on (word (shape_word k) ∷ ts) (cond b (go s (type_word ∷ fs)) (stop TooDeep))) (lt-ltb (length fs) room h)
      ∙ ap (λ o. on ts (replaced (as_shape o) s (type_word ∷ fs))) (shape_word_of k)

  opens : (f : Form) (s : S) (fs : List (Bracket X Y)) (ts : List Tok) → wanted fs ≡ a_term → length fs < room → drive m room (lpar ∷ word (word_of f) ∷ ts) s fs ≡ drive m room ts s (open_term f [] [] ∷ fs)
  opens f s fs ts e h =
      ap (λ w. on (word (word_of f) ∷ ts) (meet m room w lpar s fs)) e
      ∙ ap (λ b. on (word (word_of f) ∷ ts) (cond b (go s (term_word ∷ fs)) (stop TooDeep))) (lt-ltb (length fs) room h)
      ∙ ap (λ o. on ts (replaced (as_form o) s (term_word ∷ fs))) (form_word f)

  second : (k : Shape) (x : X) (fs : List (Bracket X Y)) (ts : List Tok) (o : Option (S × X))
      → on (rpar ∷ ts) (made_type o (open_type k (x ∷ []) ∷ fs)) ≡ on ts (made_type (onward o (λ q. m.shape k x q.1 q.0)) fs)
  second k x fs ts None = refl
  second k x fs ts (Some q) = refl

  first : (k : Shape) (T U : Ty) (fs : List (Bracket X Y)) (ts : List Tok) → ReadsType U → length fs + suc (depth_type U) ≤ room → (o : Option (S × X))
      → on (toks_type U ++ rpar ∷ ts) (made_type o (open_type k [] ∷ fs)) ≡ on ts (made_type (onward o (λ p. onward (grow_type m U p.0) (λ q. m.shape k p.1 q.1 q.0))) fs)
  first k T U fs ts r h None = refl
  first k T U fs ts r h (Some p) = r p.0 (open_type k (p.1 ∷ []) ∷ fs) (rpar ∷ ts) refl (omega arith) ∙ second k p.1 fs ts (grow_type m U p.0)

  pub reads_type : (T : Ty) → ReadsType T
  reads_type = by_shapes ReadsType
      (λ s fs ts e h. ap (λ w. on ts (meet m room w (word (codes "nat")) s fs)) e)
      (λ k T U rT rU s fs ts e h.
      let d = fold_shaped type_depths k T U in
      ap (λ l. drive m room l s fs) (toks_shaped k T U ts) ∙ opens_type k s fs (toks_type T ++ (toks_type U ++ rpar ∷ ts)) e (omega arith)
      ∙ rT s (open_type k [] ∷ fs) (toks_type U ++ rpar ∷ ts) refl (omega arith)
      ∙ first k T U fs ts rU (omega arith) (grow_type m T s)
      ∙ sym (ap (λ g. on ts (made_type (g s) fs)) (fold_shaped (growing_types m) k T U)))

  -- the types of a form
  more_types : (f : Form) (xs : List X) (fs : List (Bracket X Y)) (ts : List Tok) (x : X) (o : Option (S × List X))
      → onward o (λ q. drive m room ts q.0 (open_term f (xs ++ x ∷ [] ++ q.1) [] ∷ fs)) ≡ onward (onward o (put x)) (λ p. drive m room ts p.0 (open_term f (xs ++ p.1) [] ∷ fs))
  more_types f xs fs ts x None = refl
  more_types f xs fs ts x (Some q) = ap (λ l. drive m room ts q.0 (open_term f l [] ∷ fs)) (append_assoc xs (x ∷ []) q.1)

  fill_types : (f : Form) (Ts : List Ty) (xs : List X) (s : S) (fs : List (Bracket X Y)) (ts : List Tok) → length xs + length Ts ≡ types f → suc (length fs) + most (map depth_type Ts) ≤ room
      → drive m room (joined (map toks_type Ts) ++ ts) s (open_term f xs [] ∷ fs) ≡ onward (each (map (grow_type m) Ts) s) (λ p. drive m room ts p.0 (open_term f (xs ++ p.1) [] ∷ fs))
  fill_types f [] xs s fs ts e h = ap (λ l. drive m room ts s (open_term f l [] ∷ fs)) (sym (append-nil xs))
  fill_types f (T ∷ Ts) xs s fs ts e h =
      let less : ltb (length xs) (types f) ≡ true = lt-ltb (length xs) (types f) (omega arith) in
      ap (λ l. drive m room l s (open_term f xs [] ∷ fs)) (append_assoc (toks_type T) (joined (map toks_type Ts)) ts)
      ∙ reads_type T s (open_term f xs [] ∷ fs) (joined (map toks_type Ts) ++ ts) (ap (λ b. cond b a_type (cond (ltb 0 (parts f)) a_term a_close)) less) (omega arith)
      ∙ next less (λ p. fill_types f Ts (xs ++ p.1 ∷ []) p.0 fs ts (let l = length_push xs p.1 in omega arith) (omega arith)) (grow_type m T s)
    where
      next : ltb (length xs) (types f) ≡ true
          → ((p : S × X) → drive m room (joined (map toks_type Ts) ++ ts) p.0 (open_term f (xs ++ p.1 ∷ []) [] ∷ fs) ≡ onward (each (map (grow_type m) Ts) p.0) (λ q. drive m room ts q.0 (open_term f (xs ++ p.1 ∷ [] ++ q.1) [] ∷ fs)))
          → (o : Option (S × X))
          → on (joined (map toks_type Ts) ++ ts) (made_type o (open_term f xs [] ∷ fs)) ≡ onward (onward o (λ p. onward (each (map (grow_type m) Ts) p.0) (put p.1))) (λ p. drive m room ts p.0 (open_term f (xs ++ p.1) [] ∷ fs))
      next less ih None = refl
      next less ih (Some p) =
          ap (λ b. on (joined (map toks_type Ts) ++ ts) (cond b (go p.0 (open_term f (xs ++ p.1 ∷ []) [] ∷ fs)) (stop Misplaced))) less
          ∙ ih p ∙ more_types f xs fs ts p.1 (each (map (grow_type m) Ts) p.0)

  abbrev Reads : Term → Type 0
  Reads e = (s : S) (fs : List (Bracket X Y)) (ts : List Tok) → wanted fs ≡ a_term → length fs + depth e ≤ room → drive m room (toks e ++ ts) s fs ≡ on ts (made (grow m e s) fs)

  -- and its terms
  more_terms : (f : Form) (xs : List X) (ys : List Y) (fs : List (Bracket X Y)) (ts : List Tok) (y : Y) (o : Option (S × List Y))
      → onward o (λ q. drive m room ts q.0 (open_term f xs (ys ++ y ∷ [] ++ q.1) ∷ fs)) ≡ onward (onward o (put y)) (λ p. drive m room ts p.0 (open_term f xs (ys ++ p.1) ∷ fs))
  more_terms f xs ys fs ts y None = refl
  more_terms f xs ys fs ts y (Some q) = ap (λ l. drive m room ts q.0 (open_term f xs l ∷ fs)) (append_assoc ys (y ∷ []) q.1)

  fill_terms : (f : Form) (es : List Term) (xs : List X) (ys : List Y) (s : S) (fs : List (Bracket X Y)) (ts : List Tok) → All Reads es → length xs ≡ types f → length ys + length es ≡ parts f → suc (length fs) + most (map depth es) ≤ room
      → drive m room (joined (map toks es) ++ ts) s (open_term f xs ys ∷ fs) ≡ onward (each (map (grow m) es) s) (λ p. drive m room ts p.0 (open_term f xs (ys ++ p.1) ∷ fs))
  fill_terms f [] xs ys s fs ts r d e h = ap (λ l. drive m room ts s (open_term f xs l ∷ fs)) (sym (append-nil ys))
  fill_terms f (a ∷ es) xs ys s fs ts r d e h =
      let none : ltb (length xs) (types f) ≡ false = le-ltb (length xs) (types f) (omega arith) in
      let less : ltb (length ys) (parts f) ≡ true = lt-ltb (length ys) (parts f) (omega arith) in
      ap (λ l. drive m room l s (open_term f xs ys ∷ fs)) (append_assoc (toks a) (joined (map toks es)) ts)
      ∙ r.0 s (open_term f xs ys ∷ fs) (joined (map toks es) ++ ts) (ap (λ b. cond b a_type (cond (ltb (length ys) (parts f)) a_term a_close)) none ∙ ap (λ b. cond b a_term a_close) less) (omega arith)
      ∙ next less (λ p. fill_terms f es xs (ys ++ p.1 ∷ []) p.0 fs ts r.1 d (let l = length_push ys p.1 in omega arith) (omega arith)) (grow m a s)
    where
      next : ltb (length ys) (parts f) ≡ true
          → ((p : S × Y) → drive m room (joined (map toks es) ++ ts) p.0 (open_term f xs (ys ++ p.1 ∷ []) ∷ fs) ≡ onward (each (map (grow m) es) p.0) (λ q. drive m room ts q.0 (open_term f xs (ys ++ p.1 ∷ [] ++ q.1) ∷ fs)))
          → (o : Option (S × Y))
          → on (joined (map toks es) ++ ts) (made o (open_term f xs ys ∷ fs)) ≡ onward (onward o (λ p. onward (each (map (grow m) es) p.0) (put p.1))) (λ p. drive m room ts p.0 (open_term f xs (ys ++ p.1) ∷ fs))
      next less ih None = refl
      next less ih (Some p) =
          ap (λ b. on (joined (map toks es) ++ ts) (cond b (go p.0 (open_term f xs (ys ++ p.1 ∷ []) ∷ fs)) (stop Misplaced))) less
          ∙ ih p ∙ more_terms f xs ys fs ts p.1 (each (map (grow m) es) p.0)

  closes : (f : Form) (xs : List X) (ys : List Y) (s : S) (fs : List (Bracket X Y)) (ts : List Tok) → length xs ≡ types f → length ys ≡ parts f
      → drive m room (rpar ∷ ts) s (open_term f xs ys ∷ fs) ≡ on ts (made (m.form f xs ys s) fs)
  closes f xs ys s fs ts d e =
      let none : ltb (length xs) (types f) ≡ false = le-ltb (length xs) (types f) (omega arith) in
      let full : ltb (length ys) (parts f) ≡ false = le-ltb (length ys) (parts f) (omega arith) in
      ap (λ w. on ts (meet m room w rpar s (open_term f xs ys ∷ fs))) (ap (λ b. cond b a_type (cond (ltb (length ys) (parts f)) a_term a_close)) none ∙ ap (λ b. cond b a_term a_close) full)

  module _ (f : Form) (Ts : List Ty) (es : List Term) (d : length Ts ≡ types f) (e : length es ≡ parts f) (r : All Reads es) (fs : List (Bracket X Y)) (ts : List Tok) (h : suc (length fs) + most (map depth es) ≤ room) where
    with_terms : (xs : List X) (s : S) → length xs ≡ types f → (o : Option (S × List Y)) → each (map (grow m) es) s ≡ o
        → onward o (λ p. drive m room (rpar ∷ ts) p.0 (open_term f xs p.1 ∷ fs)) ≡ on ts (made (onward o (λ q. m.form f xs q.1 q.0)) fs)
    with_terms xs s l None q = refl
    with_terms xs s l (Some p) q = closes f xs p.1 p.0 fs ts l (each_length (map (grow m) es) s p q ∙ length-map es (grow m) ∙ e)

    with_types : (s : S) (o : Option (S × List X)) → each (map (grow_type m) Ts) s ≡ o
        → onward o (λ p. drive m room (joined (map toks es) ++ rpar ∷ ts) p.0 (open_term f p.1 [] ∷ fs))
        ≡ on ts (made (onward o (λ p. onward (each (map (grow m) es) p.0) (λ q. m.form f p.1 q.1 q.0))) fs)
    with_types s None q = refl
    with_types s (Some p) q =
        let l = each_length (map (grow_type m) Ts) s p q ∙ length-map Ts (grow_type m) ∙ d in
        fill_terms f es p.1 [] p.0 fs (rpar ∷ ts) r l (omega arith) h ∙ with_terms p.1 p.0 l (each (map (grow m) es) p.0) refl

  pub reads : (e : Term) → Reads e
  reads = by_forms Reads
      (λ n s fs ts e h. ap (λ w. on ts (meet m room w (number n) s fs)) e)
      (λ n s fs ts e h. ap (λ w. on ts (meet m room w (hash n) s fs)) e)
      (λ f Ts es d e r s fs ts w h.
      let deep = fold_built term_depths f Ts es d e in
      ap (λ l. drive m room l s fs) (toks_built f Ts es ts d e) ∙ opens f s fs (joined (map toks_type Ts) ++ (joined (map toks es) ++ rpar ∷ ts)) w (omega arith)
      ∙ fill_types f Ts [] s fs (joined (map toks es) ++ rpar ∷ ts) (omega arith) (omega arith)
      ∙ with_types f Ts es d e r fs ts (omega arith) s (each (map (grow_type m) Ts) s) refl
      ∙ sym (ap (λ g. on ts (made (g s) fs)) (fold_built (growing m) f Ts es d e)))

  -- a whole rule
  pub driven : (e : Term) (s : S) → depth e ≤ room → drive m room (toks e) s [] ≡ grow m e s
  driven e s h = ap (λ l. drive m room l s []) (sym (append-nil (toks e))) ∙ reads e s [] [] refl (omega arith) ∙ outcome (grow m e s)
    where
      outcome : (o : Option (S × Y)) → on [] (made o []) ≡ o
      outcome None = refl
      outcome (Some p) = refl
