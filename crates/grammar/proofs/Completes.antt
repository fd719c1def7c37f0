-- What is open can be closed: each bracket, by a word, nat for each type and 0 for each term that it still wants.
use Rattle.std.proofs.Common.{◌≡◌, ℕ, zero, suc, ◌+◌, ◌≤◌, Bool, true, false, cond, ltb, List, [], ◌∷◌, ◌++◌, length, Some, codes, sym, refl, ap, ◌∙◌, subst, arith, le-ltb}
use Rattle.std.proofs.lemmas.List.{length_push}
use Rattle.rows.specs.declared.forms.Form.{Form}
use Rattle.rows.specs.declared.forms.Form.TheVariants.{Succ}
use Rattle.rows.specs.declared.forms.Shape.{Shape}
use Rattle.rows.specs.declared.forms.Shape.TheVariants.{To}
use Rattle.rows.specs.Forms.{types, parts}
use Rattle.theory.specs.Lists.{All}
use Rattle.grammar.specs.declared.fault.Fault.TheVariants.{Misplaced}
use Rattle.grammar.specs.Tokens.{Tok, rpar, word, number}
use Rattle.grammar.specs.Reader.{Maker, Bracket, term_word, type_word, open_type, open_term, a_term, a_type, a_close, wanted, Turn, go, done, stop, give, give_type, meet, turn}
use Rattle.grammar.specs.Renders.{spelling, Fits, Written, end, space, token}
use Rattle.grammar.proofs.Follows.{Good, role, walk}

-- a maker that makes nothing, and always can
abbrev pub any : Maker (Unit {0}) (Unit {0}) (Unit {0})
any = record { natural = tt; shape = λ k l r s. Some (tt, tt); leaf = λ k n s. Some (tt, tt); form = λ f xs ys s. Some (tt, tt) }

abbrev pub Open : Type 0
Open = Bracket (Unit {0}) (Unit {0})

abbrev pub Told : Type 0
Told = Turn (Unit {0}) (Unit {0}) (Unit {0})

-- a token that may stand before a space
abbrev pub Plain : Tok → Type 0
Plain t = (cs : List ℕ) → Fits t (32 ∷ cs)

-- the text of some tokens
abbrev pub spaced : List Tok → List ℕ
spaced [] = []
spaced (t ∷ ts) = spelling t ++ 32 ∷ spaced ts

pub spaced_written : (ts : List Tok) → All Plain ts → Written (spaced ts) ts
spaced_written [] h = end
spaced_written (t ∷ ts) h = token refl (h.0 (spaced ts)) (space (spaced_written ts h.1))

nat_plain : Plain (word (codes "nat"))
nat_plain cs = (omega arith, refl, refl)

s_plain : Plain (word (codes "s"))
s_plain cs = (omega arith, refl, refl)

to_plain : Plain (word (codes "to"))
to_plain cs = (omega arith, refl, refl)

zero_plain : Plain (number 0)
zero_plain cs = (omega arith, refl)

rpar_plain : Plain rpar
rpar_plain cs = tt

module _ (room : ℕ) where
  -- tokens that complete what has been read
  pub record Completes (d : Told) : Type 0 where
    pub tokens : List Tok
    pub plain : All Plain tokens
    pub walked : walk any room tokens d ≡ done tt tt

  by_token : (t : Tok) → Plain t → (fs : List Open) → Completes (turn any room t tt fs) → Completes (go tt fs)
  by_token t h fs c = record { tokens = t ∷ c.tokens; plain = (h, c.plain); walked = c.walked }

  module _ (fs : List Open) where
    module _ (f : Form) (xs : List (Unit {0})) (full : ltb (length xs) (types f) ≡ false) (c : Completes (give tt tt fs)) where
      wants : (ys : List (Unit {0})) (b : Bool) → ltb (length ys) (parts f) ≡ b → wanted (open_term f xs ys ∷ fs) ≡ cond b a_term a_close
      wants ys b e = ap (λ b. cond b a_type (cond (ltb (length ys) (parts f)) a_term a_close)) full ∙ ap (λ b. cond b a_term a_close) e

      -- the terms that a form still lacks
      no_term : (ys : List (Unit {0})) → ltb (length ys) (parts f) ≡ false → Completes (go tt (open_term f xs ys ∷ fs))
      no_term ys e = by_token rpar rpar_plain (open_term f xs ys ∷ fs) (subst (λ w. Completes (meet any room w rpar tt (open_term f xs ys ∷ fs))) (sym (wants ys false e)) c)

      a_term_more : (ys : List (Unit {0})) → Completes (go tt (open_term f xs (ys ++ tt ∷ []) ∷ fs)) → (b : Bool) → ltb (length ys) (parts f) ≡ b → Completes (go tt (open_term f xs ys ∷ fs))
      a_term_more ys d true e =
          by_token (number 0) zero_plain (open_term f xs ys ∷ fs)
          (subst (λ w. Completes (meet any room w (number 0) tt (open_term f xs ys ∷ fs))) (sym (wants ys true e))
          (subst (λ b. Completes (cond b (go tt (open_term f xs (ys ++ tt ∷ []) ∷ fs)) (stop Misplaced))) (sym e) d))
      a_term_more ys d false e = no_term ys e

      terms_more : (n : ℕ) (ys : List (Unit {0})) → parts f ≤ length ys + n → Completes (go tt (open_term f xs ys ∷ fs))
      terms_more zero ys h = no_term ys (le-ltb (length ys) (parts f) (omega arith))
      terms_more (suc n) ys h = a_term_more ys (terms_more n (ys ++ tt ∷ []) (let l = length_push ys tt in omega arith)) (ltb (length ys) (parts f)) refl

    -- and its types
    module _ (f : Form) (ys : List (Unit {0})) (c : Completes (give tt tt fs)) where
      a_type_more : (xs : List (Unit {0})) → Completes (go tt (open_term f (xs ++ tt ∷ []) ys ∷ fs)) → (b : Bool) → ltb (length xs) (types f) ≡ b → Completes (go tt (open_term f xs ys ∷ fs))
      a_type_more xs d true e =
          by_token (word (codes "nat")) nat_plain (open_term f xs ys ∷ fs)
          (subst (λ w. Completes (meet any room w (word (codes "nat")) tt (open_term f xs ys ∷ fs))) (sym (ap (λ b. cond b a_type (cond (ltb (length ys) (parts f)) a_term a_close)) e))
          (subst (λ b. Completes (cond b (go tt (open_term f (xs ++ tt ∷ []) ys ∷ fs)) (stop Misplaced))) (sym e) d))
      a_type_more xs d false e = terms_more f xs e c (parts f) ys (omega arith)

      types_more : (n : ℕ) (xs : List (Unit {0})) → types f ≤ length xs + n → Completes (go tt (open_term f xs ys ∷ fs))
      types_more zero xs h = terms_more f xs (le-ltb (length xs) (types f) (omega arith)) c (parts f) ys (omega arith)
      types_more (suc n) xs h = a_type_more xs (types_more n (xs ++ tt ∷ []) (let l = length_push xs tt in omega arith)) (ltb (length xs) (types f)) refl

    -- the types that a type still lacks
    module _ (k : Shape) (c : Completes (give_type tt tt fs)) where
      no_part : (xs : List (Unit {0})) → ltb (length xs) 2 ≡ false → Completes (go tt (open_type k xs ∷ fs))
      no_part xs e = by_token rpar rpar_plain (open_type k xs ∷ fs) (subst (λ w. Completes (meet any room w rpar tt (open_type k xs ∷ fs))) (sym (ap (λ b. cond b a_type a_close) e)) c)

      a_part_more : (xs : List (Unit {0})) → Completes (go tt (open_type k (xs ++ tt ∷ []) ∷ fs)) → (b : Bool) → ltb (length xs) 2 ≡ b → Completes (go tt (open_type k xs ∷ fs))
      a_part_more xs d true e =
          by_token (word (codes "nat")) nat_plain (open_type k xs ∷ fs)
          (subst (λ w. Completes (meet any room w (word (codes "nat")) tt (open_type k xs ∷ fs))) (sym (ap (λ b. cond b a_type a_close) e))
          (subst (λ b. Completes (cond b (go tt (open_type k (xs ++ tt ∷ []) ∷ fs)) (stop Misplaced))) (sym e) d))
      a_part_more xs d false e = no_part xs e

      parts_more : (n : ℕ) (xs : List (Unit {0})) → 2 ≤ length xs + n → Completes (go tt (open_type k xs ∷ fs))
      parts_more zero xs h = no_part xs (le-ltb (length xs) 2 (omega arith))
      parts_more (suc n) xs h = a_part_more xs (parts_more n (xs ++ tt ∷ []) (let l = length_push xs tt in omega arith)) (ltb (length xs) 2) refl

    -- the bracket on top, if what is around it can be completed
    on_top : (b : Open) → (role b ≡ a_term → Completes (give tt tt fs)) → (role b ≡ a_type → Completes (give_type tt tt fs)) → Completes (go tt (b ∷ fs))
    on_top term_word c d = by_token (word (codes "s")) s_plain (term_word ∷ fs) (types_more Succ [] (c refl) 0 [] (omega arith))
    on_top type_word c d = by_token (word (codes "to")) to_plain (type_word ∷ fs) (parts_more To (d refl) 2 [] (omega arith))
    on_top (open_type k xs) c d = parts_more k (d refl) 2 xs (omega arith)
    on_top (open_term f xs ys) c d = types_more f ys (c refl) (types f) xs (omega arith)

  pub completed : Completes (done tt tt)
  completed = record { tokens = []; plain = tt; walked = refl }

  -- a term that is wanted is taken, and then the brackets can be completed
  mutual
    pub given : (fs : List Open) → Good fs → wanted fs ≡ a_term → Completes (give tt tt fs)
    given [] g w = completed
    given (term_word ∷ fs) g w = let z : ◌≡◌ {A = ℕ} 0 1 = cc in absurd (omega arith)
    given (type_word ∷ fs) g w = let z : ◌≡◌ {A = ℕ} 0 1 = cc in absurd (omega arith)
    given (open_type k xs ∷ fs) g w = absurd (by (ltb (length xs) 2) w)
      where
        by : (b : Bool) → cond b a_type a_close ≡ a_term → ⊥
        by true e = let z : ◌≡◌ {A = ℕ} 0 1 = cc in omega arith
        by false e = let z : ◌≡◌ {A = ℕ} 0 1 = cc in omega arith
    given (open_term f xs ys ∷ fs) g w = by (ltb (length xs) (types f)) (ltb (length ys) (parts f)) w (λ zs. on_top fs (open_term f xs zs) (λ e. given fs g.1 (g.0 ∙ e)) (λ e. given_type fs g.1 (g.0 ∙ e)))
      where
        by : (b c : Bool) → cond b a_type (cond c a_term a_close) ≡ a_term → ((zs : List (Unit {0})) → Completes (go tt (open_term f xs zs ∷ fs))) → Completes (cond c (go tt (open_term f xs (ys ++ tt ∷ []) ∷ fs)) (stop Misplaced))
        by true c e h = let z : ◌≡◌ {A = ℕ} 0 1 = cc in absurd (omega arith)
        by false true e h = h (ys ++ tt ∷ [])
        by false false e h = let z : ◌≡◌ {A = ℕ} 0 1 = cc in absurd (omega arith)

    pub given_type : (fs : List Open) → Good fs → wanted fs ≡ a_type → Completes (give_type tt tt fs)
    given_type [] g w = let z : ◌≡◌ {A = ℕ} 0 1 = cc in absurd (omega arith)
    given_type (term_word ∷ fs) g w = let z : ◌≡◌ {A = ℕ} 0 1 = cc in absurd (omega arith)
    given_type (type_word ∷ fs) g w = let z : ◌≡◌ {A = ℕ} 0 1 = cc in absurd (omega arith)
    given_type (open_type k xs ∷ fs) g w = by (ltb (length xs) 2) w (λ zs. on_top fs (open_type k zs) (λ e. given fs g.1 (g.0 ∙ e)) (λ e. given_type fs g.1 (g.0 ∙ e)))
      where
        by : (b : Bool) → cond b a_type a_close ≡ a_type → ((zs : List (Unit {0})) → Completes (go tt (open_type k zs ∷ fs))) → Completes (cond b (go tt (open_type k (xs ++ tt ∷ []) ∷ fs)) (stop Misplaced))
        by true e h = h (xs ++ tt ∷ [])
        by false e h = let z : ◌≡◌ {A = ℕ} 0 1 = cc in absurd (omega arith)
    given_type (open_term f xs ys ∷ fs) g w = by (ltb (length xs) (types f)) (ltb (length ys) (parts f)) w (λ zs. on_top fs (open_term f zs ys) (λ e. given fs g.1 (g.0 ∙ e)) (λ e. given_type fs g.1 (g.0 ∙ e)))
      where
        by : (b c : Bool) → cond b a_type (cond c a_term a_close) ≡ a_type → ((zs : List (Unit {0})) → Completes (go tt (open_term f zs ys ∷ fs))) → Completes (cond b (go tt (open_term f (xs ++ tt ∷ []) ys ∷ fs)) (stop Misplaced))
        by true c e h = h (xs ++ tt ∷ [])
        by false true e h = let z : ◌≡◌ {A = ℕ} 0 1 = cc in absurd (omega arith)
        by false false e h = let z : ◌≡◌ {A = ℕ} 0 1 = cc in absurd (omega arith)

  -- what is open can be completed
  pub completes : (fs : List Open) → Good fs → Completes (go tt fs)
  completes [] g = by_token (number 0) zero_plain [] completed
  completes (b ∷ fs) g = on_top fs b (λ e. given fs g.1 (g.0 ∙ e)) (λ e. given_type fs g.1 (g.0 ∙ e))
