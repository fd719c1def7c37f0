-- Turns by the bracket on top.
use Rattle.std.proofs.Common.{◌≡◌, ℕ, Bool, true, false, cond, List, [], ◌∷◌, map, drop, set, Some, None, sym, refl, ap, ◌∙◌}
use Rattle.std.specs.List.{slice_get}
use Rattle.theory.specs.Emit.{Tables}
use Rattle.grammar.specs.declared.fault.Fault.TheVariants.{Misplaced}
use Rattle.grammar.specs.Reader as m
use Rattle.grammar.specs.Reader.{Bracket, wanted}
use Rattle.text.specs.declared.opens.OpenForm.{OpenForm}
use Rattle.text.specs.declared.opens.Part.{Part}
use Rattle.text.specs.declared.opens.Part.TheVariants as p
use Rattle.text.specs.Brackets.{bracket, with_part, given}

-- what looking at the top of a list says of the list
pub head_none : {X : Type 0} (xs : List X) → None ≡ slice_get xs 0 → xs ≡ []
head_none [] e = refl
head_none (x ∷ xs) e = cc

pub head_some : {X : Type 0} (xs : List X) (x : X) → Some x ≡ slice_get xs 0 → xs ≡ x ∷ drop 1 xs
head_some [] x e = cc
head_some (y ∷ xs) x e = let z : y ≡ x = cc in ap (λ t. t ∷ xs) z

-- only the bracket on top says what is wanted
pub wanted_top : (g : Bracket ℕ ℕ) (fs : List (Bracket ℕ ℕ)) → wanted (g ∷ []) ≡ wanted (g ∷ fs)
wanted_top m.term_word fs = refl
wanted_top m.type_word fs = refl
wanted_top (m.open_type k xs) fs = refl
wanted_top (m.open_term f xs ys) fs = refl

pub wanted_none : (os : List OpenForm) → None ≡ slice_get os 0 → m.a_term ≡ wanted (map bracket os)
wanted_none os e = sym (ap (λ l. wanted (map bracket l)) (head_none os e))

pub wanted_some : (os : List OpenForm) (o : OpenForm) → Some o ≡ slice_get os 0 → wanted (bracket o ∷ []) ≡ wanted (map bracket os)
wanted_some os o e = wanted_top (bracket o) (map bracket (drop 1 os)) ∙ sym (ap (λ l. wanted (map bracket l)) (head_some os o e))

-- a part more, where the bracket on top wants it
module _ (s : Tables) (fs : List (Bracket ℕ ℕ)) where
  one_more : (b : Bool) (g g' : Bracket ℕ ℕ) → Some g' ≡ cond b (Some g) None → ◌≡◌ {A = m.Turn Tables ℕ ℕ} (m.go s (g' ∷ fs)) (cond b (m.go s (g ∷ fs)) (m.stop Misplaced))
  one_more true g g' e = let z : g' ≡ g = cc in ap (λ t. m.go s (t ∷ fs)) z
  one_more false g g' e = cc

  no_more : (b : Bool) (g : Bracket ℕ ℕ) → None ≡ cond b (Some g) None → ◌≡◌ {A = m.Turn Tables ℕ ℕ} (m.stop Misplaced) (cond b (m.go s (g ∷ fs)) (m.stop Misplaced))
  no_more true g e = cc
  no_more false g e = refl

  more : (g g' : Bracket ℕ ℕ) (q : Part) → Some g' ≡ with_part g q → m.go s (g' ∷ fs) ≡ given q s (g ∷ fs)
  more m.term_word g' (p.Type x) e = cc
  more m.term_word g' (p.Term y) e = cc
  more m.type_word g' (p.Type x) e = cc
  more m.type_word g' (p.Term y) e = cc
  more (m.open_type k xs) g' (p.Type x) e = one_more _ _ g' e
  more (m.open_type k xs) g' (p.Term y) e = cc
  more (m.open_term f xs ys) g' (p.Type x) e = one_more _ _ g' e
  more (m.open_term f xs ys) g' (p.Term y) e = one_more _ _ g' e

  full : (g : Bracket ℕ ℕ) (q : Part) → None ≡ with_part g q → m.stop Misplaced ≡ given q s (g ∷ fs)
  full m.term_word (p.Type x) e = refl
  full m.term_word (p.Term y) e = refl
  full m.type_word (p.Type x) e = refl
  full m.type_word (p.Term y) e = refl
  full (m.open_type k xs) (p.Type x) e = no_more _ _ e
  full (m.open_type k xs) (p.Term y) e = refl
  full (m.open_term f xs ys) (p.Type x) e = no_more _ _ e
  full (m.open_term f xs ys) (p.Term y) e = no_more _ _ e

-- the same of the code's open brackets
module _ (os : List OpenForm) (q : Part) (s : Tables) where
  pub given_none : None ≡ slice_get os 0 → given q s [] ≡ given q s (map bracket os)
  given_none e = sym (ap (λ l. given q s (map bracket l)) (head_none os e))

  pub given_more : (os' : List OpenForm) (o o' : OpenForm) → Some o ≡ slice_get os 0 → Some (bracket o') ≡ with_part (bracket o) q → os' ≡ set os 0 o' → m.go s (map bracket os') ≡ given q s (map bracket os)
  given_more os' o o' top e h =
      ap (λ l. m.go s (map bracket l)) (h ∙ ap (λ l. set l 0 o') (head_some os o top)) ∙ more s (map bracket (drop 1 os)) (bracket o) (bracket o') q e
      ∙ sym (ap (λ l. given q s (map bracket l)) (head_some os o top))

  pub given_full : (o : OpenForm) → Some o ≡ slice_get os 0 → None ≡ with_part (bracket o) q → m.stop Misplaced ≡ given q s (map bracket os)
  given_full o top e = full s (map bracket (drop 1 os)) (bracket o) q e ∙ sym (ap (λ l. given q s (map bracket l)) (head_some os o top))

-- the word of the bracket on top
pub spelt : (os os' : List OpenForm) (x o : OpenForm) (s : Tables) → Some x ≡ slice_get os 0 → os' ≡ set os 0 o → m.go s (map bracket os') ≡ m.replaced (Some (bracket o)) s (map bracket os)
spelt os os' x o s top h =
    ap (λ l. m.go s (map bracket l)) (h ∙ ap (λ l. set l 0 o) (head_some os x top)) ∙ sym (ap (λ l. m.replaced (Some (bracket o)) s (map bracket l)) (head_some os x top))
