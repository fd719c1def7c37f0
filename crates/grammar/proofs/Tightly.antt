-- The tight text of a term is a text of it.
use Rattle.std.proofs.Common.{◌≡◌, ℕ, ◌<◌, ◌≤◌, List, [], ◌∷◌, ◌++◌, map, length, codes, sym, refl, ap, subst₂, append_assoc, arith}
use Rattle.std.proofs.lemmas.List.{append-nil}
use Rattle.grammar.specs.declared.bytes.Class.TheVariants.{Digit, Letter}
use Rattle.grammar.specs.Bytes.{run}
use Rattle.grammar.specs.Tokens.{Tok, lpar, rpar, word, number, name as hash}
use Rattle.theory.specs.Syntax.{Ty, Term}
use Rattle.rows.specs.Limits.{top}
use Rattle.rows.specs.declared.forms.Form.{Form}
use Rattle.rows.specs.declared.forms.Form.TheVariants.{Succ, Ifz, Lam, Ap, Fix, Pair, Fst, Snd, Add, Sub, Mul, Get, Fail, Catch}
use Rattle.rows.specs.declared.forms.Shape.{Shape}
use Rattle.rows.specs.declared.forms.Shape.TheVariants.{To, Both}
use Rattle.grammar.specs.Words.{word as word_of, shape_word}
use Rattle.theory.specs.Lists.{All}
use Rattle.theory.specs.Folds.{most, numbers_in, largest}
use Rattle.grammar.specs.Tight.{spaced, bracketed, tight_types, tight_type, tight_terms, tight}
use Rattle.grammar.specs.TermTokens.{joined, between, type_tokens, toks_type, term_tokens, toks}
use Rattle.grammar.specs.Theorems.{TightRenders}
use Rattle.grammar.specs.Renders.{Written, space, token, end}
use Rattle.theory.specs.Induction.{by_shapes, fold_shaped, by_forms, fold_built}

abbrev Clear : List ℕ → Type 0
Clear bs = (run Letter bs ≡ 0) × (run Digit bs ≡ 0)

abbrev Goes : {A : Type 0} → (A → List ℕ) → (A → List Tok) → A → Type 0
Goes f g a = (bs : List ℕ) (ts : List Tok) → Clear bs → Written bs ts → Written (f a ++ bs) (g a ++ ts)

clear_spaced : (xs : List (List ℕ)) (bs : List ℕ) → Clear bs → Clear (spaced xs ++ bs)
clear_spaced [] bs c = c
clear_spaced (x ∷ xs) bs c = (refl, refl)

spread : {A : Type 0} (f : A → List ℕ) (g : A → List Tok) (xs : List A) → All (Goes f g) xs → (bs : List ℕ) (ts : List Tok) → Clear bs → Written bs ts → Written (spaced (map f xs) ++ bs) (joined (map g xs) ++ ts)
spread f g [] q bs ts c h = h
spread f g (a ∷ xs) q bs ts c h =
    space (subst₂ Written (sym (append_assoc (f a) (spaced (map f xs)) bs)) (sym (append_assoc (g a) (joined (map g xs)) ts))
    (q.0 (spaced (map f xs) ++ bs) (joined (map g xs) ++ ts) (clear_spaced (map f xs) bs c) (spread f g xs q.1 bs ts c h)))

abbrev Worded : List ℕ → Type 0
Worded v = (0 < length v) × (run Letter v ≡ length v)

in_brackets : {A B : Type 0} (f : A → List ℕ) (g : A → List Tok) (f' : B → List ℕ) (g' : B → List Tok) (v : List ℕ) (xs : List A) (es : List B) → Worded v → All (Goes f g) xs → All (Goes f' g') es
    → (bs : List ℕ) (ts : List Tok) → Written bs ts → Written (bracketed v (map f xs) (map f' es) ++ bs) (between v (map g xs) (map g' es) ++ ts)
in_brackets f g f' g' v xs es w p q bs ts h =
    let c : Clear (41 ∷ bs) = (refl, refl) in
    let text : bracketed v (map f xs) (map f' es) ++ bs ≡ 40 ∷ (v ++ (spaced (map f xs) ++ (spaced (map f' es) ++ 41 ∷ bs))) = simp append_assoc in
    let toks : between v (map g xs) (map g' es) ++ ts ≡ lpar ∷ word v ∷ (joined (map g xs) ++ (joined (map g' es) ++ rpar ∷ ts)) = simp append_assoc in
    let parts = spread f' g' es q (41 ∷ bs) (rpar ∷ ts) c (token {t = rpar} refl tt h) in
    let all = spread f g xs p (spaced (map f' es) ++ 41 ∷ bs) (joined (map g' es) ++ rpar ∷ ts) (clear_spaced (map f' es) (41 ∷ bs) c) parts in
    let clear = clear_spaced (map f xs) (spaced (map f' es) ++ 41 ∷ bs) (clear_spaced (map f' es) (41 ∷ bs) c) in
    subst₂ Written (sym text) (sym toks) (token {t = lpar} refl tt (token {t = word v} refl (w.0, w.1, clear.0) all))

shape_letters : (k : Shape) → Worded (shape_word k)
shape_letters To = (omega arith, refl)
shape_letters Both = (omega arith, refl)

form_letters : (f : Form) → Worded (word_of f)
form_letters Succ = (omega arith, refl)
form_letters Ifz = (omega arith, refl)
form_letters Lam = (omega arith, refl)
form_letters Ap = (omega arith, refl)
form_letters Fix = (omega arith, refl)
form_letters Pair = (omega arith, refl)
form_letters Fst = (omega arith, refl)
form_letters Snd = (omega arith, refl)
form_letters Add = (omega arith, refl)
form_letters Sub = (omega arith, refl)
form_letters Mul = (omega arith, refl)
form_letters Get = (omega arith, refl)
form_letters Fail = (omega arith, refl)
form_letters Catch = (omega arith, refl)

type_goes : (T : Ty) → Goes tight_type toks_type T
type_goes = by_shapes (Goes tight_type toks_type)
    (λ bs ts c h. token {t = word (codes "nat")} refl (omega arith, refl, c.0) h)
    (λ k T U p q bs ts c h.
    subst₂ Written (ap (λ l. l ++ bs) (sym (fold_shaped tight_types k T U))) (ap (λ l. l ++ ts) (sym (fold_shaped type_tokens k T U)))
    (in_brackets tight_type toks_type tight_type toks_type (shape_word k) (T ∷ U ∷ []) [] (shape_letters k) (p, (q, tt)) tt bs ts h))

types_go : (Ts : List Ty) → All (Goes tight_type toks_type) Ts
types_go [] = tt
types_go (T ∷ Ts) = (type_goes T, types_go Ts)

abbrev SmallGoes : Term → Type 0
SmallGoes e = largest e ≤ top → Goes tight toks e

small_all : (es : List Term) → All SmallGoes es → most (map largest es) ≤ top → All (Goes tight toks) es
small_all [] q h = tt
small_all (e ∷ es) q h = (q.0 (omega arith), small_all es q.1 (omega arith))

term_goes : (e : Term) → SmallGoes e
term_goes = by_forms SmallGoes
    (λ n l bs ts c h. token {t = number n} refl (l, c.1) h)
    (λ n l bs ts c h. token {t = hash n} refl (l, c.1) h)
    (λ f Ts es d e q l bs ts c h.
    let small = fold_built numbers_in f Ts es d e in
    subst₂ Written (ap (λ l. l ++ bs) (sym (fold_built tight_terms f Ts es d e))) (ap (λ l. l ++ ts) (sym (fold_built term_tokens f Ts es d e)))
    (in_brackets tight_type toks_type tight toks (word_of f) Ts es (form_letters f) (types_go Ts) (small_all es q (omega arith)) bs ts h))

pub tight_renders : TightRenders 999999999
tight_renders e l = subst₂ Written (append-nil (tight e)) (append-nil (toks e)) (term_goes e l [] [] (refl, refl) end)
