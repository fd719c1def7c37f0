-- A token's spelling is what the lexer takes it from.
use Rattle.std.proofs.Common.{◌≡◌, ℕ, suc, ◌<◌, ◌≤◌, Bool, true, false, cond, eqb, leb, List, [], ◌∷◌, ◌++◌, length, get_or, take, drop, Some, None, decimal, Option, sym, refl, ap, ◌∙◌, subst, ⊎_elim, arith, take-append-drop, length-take, ne_eqb, eqb-true, le-leb, leb-true}
use Rattle.std.specs.Int.{IsInRange}
use Rattle.std.proofs.str.Laws.{order}
use Rattle.std.proofs.lemmas.List.{take_at, drop_at}
use Rattle.std.proofs.lemmas.Str.Parse.{IsDigitsTest, IsNumeralModel, numerals_by_fold}
use Rattle.std.proofs.lemmas.Fmt.{decimal_nonempty, decimal_digit, first_decimal, digits_decimal, digits_value-decimal, decimal-digits_value}
use Rattle.grammar.specs.declared.bytes.Class.{Class}
use Rattle.grammar.specs.declared.bytes.Class.TheVariants.{Space, Open, Close, Hash, Digit, Letter, Other}
use Rattle.grammar.specs.Bytes.{between, class, alike, run, value}
use Rattle.grammar.specs.Bytes as y
use Rattle.grammar.specs.Tokens.{Tok, Step, over, took, refused, token, begun, numbered, numeral, lawful, lpar, rpar, word, number, name as hash}
use Rattle.grammar.specs.Runs.{alike_same, alike_apart}
use Rattle.grammar.specs.Renders.{spelling, Fits}

-- ---- classes

abbrev back : ℕ → Class
back n = cond (eqb n 0) Space (cond (eqb n 1) Open (cond (eqb n 2) Close (cond (eqb n 3) Hash (cond (eqb n 4) Digit (cond (eqb n 5) Letter Other)))))

back_is : (k : Class) → back (y.number k) ≡ k
back_is Space = refl
back_is Open = refl
back_is Close = refl
back_is Hash = refl
back_is Digit = refl
back_is Letter = refl
back_is Other = refl

pub alike_true : (a k : Class) → alike a k ≡ true → a ≡ k
alike_true a k h = sym (back_is a) ∙ ap back (eqb-true (y.number a) (y.number k) h) ∙ back_is k

-- what a byte of a class is
abbrev By : Class → ℕ → Type 0
By Space b = b ≡ 32
By Open b = b ≡ 40
By Close b = b ≡ 41
By Hash b = b ≡ 35
By Digit b = IsInRange 48 57 b
By Letter b = Unit {0}
By Other b = Unit {0}

between_true : (a b c : ℕ) → between a b c ≡ true → IsInRange a c b
between_true a b c h = go (leb a b) refl h
  where
    go : (t : Bool) → leb a b ≡ t → cond t (leb b c) false ≡ true → IsInRange a c b
    go true e h = (leb-true a b e, leb-true b c h)
    go false e h = let z : ◌≡◌ {A = ℕ} 0 1 = cc in absurd (omega arith)

in_class : (b : ℕ) → By (class b) b
in_class b = go (eqb b 32) (eqb b 40) (eqb b 41) (eqb b 35) (between 48 b 57) (between 97 b 122) refl refl refl refl refl
  where
    go : (t u v w x y : Bool) → eqb b 32 ≡ t → eqb b 40 ≡ u → eqb b 41 ≡ v → eqb b 35 ≡ w → between 48 b 57 ≡ x → By (cond t Space (cond u Open (cond v Close (cond w Hash (cond x Digit (cond y Letter Other)))))) b
    go true u v w x y e f g h i = eqb-true b 32 e
    go false true v w x y e f g h i = eqb-true b 40 f
    go false false true w x y e f g h i = eqb-true b 41 g
    go false false false true x y e f g h i = eqb-true b 35 h
    go false false false false true y e f g h i = between_true 48 b 57 i
    go false false false false false true e f g h i = tt
    go false false false false false false e f g h i = tt

digit_class : (b : ℕ) → IsInRange 48 57 b → class b ≡ Digit
digit_class b h =
    ap (λ t. cond t Space (cond (eqb b 40) Open (cond (eqb b 41) Close (cond (eqb b 35) Hash (cond (between 48 b 57) Digit (cond (between 97 b 122) Letter Other)))))) (ne_eqb b 32 (λ e. omega arith))
    ∙ ap (λ t. cond t Open (cond (eqb b 41) Close (cond (eqb b 35) Hash (cond (between 48 b 57) Digit (cond (between 97 b 122) Letter Other))))) (ne_eqb b 40 (λ e. omega arith))
    ∙ ap (λ t. cond t Close (cond (eqb b 35) Hash (cond (between 48 b 57) Digit (cond (between 97 b 122) Letter Other)))) (ne_eqb b 41 (λ e. omega arith))
    ∙ ap (λ t. cond t Hash (cond (between 48 b 57) Digit (cond (between 97 b 122) Letter Other))) (ne_eqb b 35 (λ e. omega arith))
    ∙ ap (λ t. cond (cond t (leb b 57) false) Digit (cond (between 97 b 122) Letter Other)) (le-leb 48 b h.0)
    ∙ ap (λ t. cond t Digit (cond (between 97 b 122) Letter Other)) (le-leb b 57 h.1)

-- ---- runs

pub all_of : (k : Class) (b : ℕ) (bs : List ℕ) → run k (b ∷ bs) ≡ suc (length bs) → (class b ≡ k) × (run k bs ≡ length bs)
all_of k b bs h = go (alike (class b) k) refl h
  where
    go : (t : Bool) → alike (class b) k ≡ t → cond t (suc (run k bs)) 0 ≡ suc (length bs) → (class b ≡ k) × (run k bs ≡ length bs)
    go true e h = (alike_true (class b) k e, omega arith)
    go false e h = absurd (omega arith)

all_more : (k : Class) (b : ℕ) (bs : List ℕ) → class b ≡ k → run k bs ≡ length bs → run k (b ∷ bs) ≡ suc (length bs)
all_more k b bs c h = ap (λ t. cond t (suc (run k bs)) 0) (alike_same (class b) k c) ∙ ap suc h

pub run_append : (k : Class) (w cs : List ℕ) → run k w ≡ length w → run k cs ≡ 0 → run k (w ++ cs) ≡ length w
run_append k [] cs h z = z
run_append k (b ∷ w) cs h z = let a = all_of k b w h in ap (λ t. cond t (suc (run k (w ++ cs))) 0) (alike_same (class b) k a.0) ∙ ap suc (run_append k w cs a.1 z)

run_front : (k : Class) (bs : List ℕ) → run k (take (run k bs) bs) ≡ length (take (run k bs) bs)
run_front k [] = refl
run_front k (b ∷ bs) = go (alike (class b) k) refl (run_front k bs)
  where
    go : (t : Bool) → alike (class b) k ≡ t → run k (take (run k bs) bs) ≡ length (take (run k bs) bs) → run k (take (cond t (suc (run k bs)) 0) (b ∷ bs)) ≡ length (take (cond t (suc (run k bs)) 0) (b ∷ bs))
    go true e h = ap (λ t. cond t (suc (run k (take (run k bs) bs))) 0) e ∙ ap suc h
    go false e h = refl

pub run_after : (k : Class) (bs : List ℕ) → run k (drop (run k bs) bs) ≡ 0
run_after k [] = refl
run_after k (b ∷ bs) = go (alike (class b) k) refl (run_after k bs)
  where
    go : (t : Bool) → alike (class b) k ≡ t → run k (drop (run k bs) bs) ≡ 0 → run k (drop (cond t (suc (run k bs)) 0) (b ∷ bs)) ≡ 0
    go true e h = h
    go false e h = ap (λ t. cond t (suc (run k bs)) 0) e

-- ---- numbers

abbrev Digits : List ℕ → Type 0
Digits ds = run Digit ds ≡ length ds

tells : IsDigitsTest Digits
tells = record {
  empty = refl;
  parts = λ c cs h. (let a = all_of Digit c cs h in subst (λ k. By k c) a.0 (in_class c), (all_of Digit c cs h).1);
  more = λ c cs i h. all_more Digit c cs (digit_class c i) h;
}

own : IsNumeralModel Digits (λ ds. value ds 0)
own = numerals_by_fold Digits tells (λ n ds. value ds n) (record { empty = λ n. refl; more = λ n c cs h. refl })

pub decimal_digits : (n : ℕ) → n ≤ 999999999 → Digits (decimal n)
decimal_digits n h = digits_decimal own n (omega arith)

lawful_decimal : (n : ℕ) → n ≤ 999999999 → lawful (decimal n) ≡ true
lawful_decimal n h = go (decimal n) refl
  where
    go : (ds : List ℕ) → decimal n ≡ ds → lawful ds ≡ true
    go [] e = let some = decimal_nonempty n (omega arith) in let l = ap length e in absurd (omega arith)
    go (d ∷ []) e = refl
    go (d ∷ c ∷ ds) e =
        let big : 10 ≤ n = ⊎_elim (λ small. let l = ap length (sym e ∙ decimal_digit n small) in absurd (omega arith)) (λ g. g) (order n 10) in
        let first : 48 < get_or (d ∷ c ∷ ds) 0 0 = subst (λ l. 48 < get_or l 0 0) e (first_decimal n (omega arith) (omega arith)) in
        let is : value (d ∷ c ∷ ds) 0 ≡ n = ap (λ l. value l 0) (sym e) ∙ digits_value-decimal own n (omega arith) in
        ap (λ t. cond t false (leb (value (d ∷ c ∷ ds) 0) 999999999)) (ne_eqb d 48 (λ q. omega arith)) ∙ le-leb (value (d ∷ c ∷ ds) 0) 999999999 (omega arith)

pub numeral_is : (n : ℕ) (cs : List ℕ) → n ≤ 999999999 → run Digit cs ≡ 0 → numeral (decimal n ++ cs) ≡ Some (n, cs)
numeral_is n cs h z =
    let ds = decimal n in
    let r = run_append Digit ds cs (digits_decimal own n (omega arith)) z in
    ap (λ k. cond (lawful (take k (ds ++ cs))) (Some (value (take k (ds ++ cs)) 0, drop k (ds ++ cs))) None) r
    ∙ ap (λ l. cond (lawful l) (Some (value l 0, drop (length ds) (ds ++ cs))) None) (take_at ds cs (length ds) refl)
    ∙ ap (λ l. cond (lawful ds) (Some (value ds 0, l)) None) (drop_at ds cs (length ds) refl)
    ∙ ap (λ t. cond t (Some (value ds 0, cs)) None) (lawful_decimal n h)
    ∙ ap (λ v. Some (v, cs)) (digits_value-decimal own n (omega arith))

-- lawful digits are those of their number
lawful_value : (ds : List ℕ) → Digits ds → lawful ds ≡ true → (ds ≡ decimal (value ds 0)) × (value ds 0 ≤ 999999999)
lawful_value [] d h = let z : ◌≡◌ {A = ℕ} 0 1 = cc in absurd (omega arith)
lawful_value (a ∷ []) d h =
    let i = tells.parts a [] d in
    (sym (decimal-digits_value own (a ∷ []) d (omega arith) (λ q. refl) (omega arith)), omega arith)
lawful_value (a ∷ b ∷ ds) d h = go (eqb a 48) refl h
  where
    go : (t : Bool) → eqb a 48 ≡ t → cond t false (leb (value (a ∷ b ∷ ds) 0) 999999999) ≡ true → (a ∷ b ∷ ds ≡ decimal (value (a ∷ b ∷ ds) 0)) × (value (a ∷ b ∷ ds) 0 ≤ 999999999)
    go true e q = let z : ◌≡◌ {A = ℕ} 0 1 = cc in absurd (omega arith)
    go false e q =
        let small = leb-true (value (a ∷ b ∷ ds) 0) 999999999 q in
        (sym (decimal-digits_value own (a ∷ b ∷ ds) d (omega arith) (λ k. absurd (apart e k)) (omega arith)), small)
      where
        apart : eqb a 48 ≡ false → a ≡ 48 → ⊥
        apart e k = let z : ◌≡◌ {A = ℕ} 0 1 = cc in omega arith

-- ---- tokens

-- a text that begins with a run of a class begins with that class
module _ (cs : List ℕ) where
  begins : (k : Class) (w : List ℕ) → 0 < length w → run k w ≡ length w → token (w ++ cs) ≡ begun k (w ++ cs)
  begins k [] h a = absurd (omega arith)
  begins k (b ∷ w) h a = ap (λ c. begun c (b ∷ (w ++ cs))) (all_of k b w a).0

  clear : (k : Class) (w : List ℕ) → (k ≡ Space → ⊥) → 0 < length w → run k w ≡ length w → run Space (w ++ cs) ≡ 0
  clear k [] ne h a = absurd (omega arith)
  clear k (b ∷ w) ne h a =
      let apart : class b ≡ Space → ⊥ = λ e. ne (sym (all_of k b w a).0 ∙ e) in
      ap (λ t. cond t (suc (run Space (w ++ cs))) 0) (alike_apart (class b) Space apart)

  no_space : Letter ≡ Space → ⊥
  no_space e = let z : ◌≡◌ {A = ℕ} 0 1 = cc in omega arith

  no_space' : Digit ≡ Space → ⊥
  no_space' e = let z : ◌≡◌ {A = ℕ} 0 1 = cc in omega arith

  pub unspaced : (t : Tok) → Fits t cs → run Space (spelling t ++ cs) ≡ 0
  unspaced lpar f = refl
  unspaced rpar f = refl
  unspaced (word w) f = clear Letter w no_space f.0 f.1
  unspaced (number n) f = clear Digit (decimal n) no_space' (decimal_nonempty n (omega (arith, f.0))) (digits_decimal own n (omega (arith, f.0)))
  unspaced (hash n) f = refl

  pub token_is : (t : Tok) → Fits t cs → token (spelling t ++ cs) ≡ took t cs
  token_is lpar f = refl
  token_is rpar f = refl
  token_is (word w) f =
      let r = run_append Letter w cs f.1 f.2 in
      begins Letter w f.0 f.1 ∙ ap (λ k. took (word (take k (w ++ cs))) (drop k (w ++ cs))) r
      ∙ ap (λ l. took (word l) (drop (length w) (w ++ cs))) (take_at w cs (length w) refl) ∙ ap (λ l. took (word w) l) (drop_at w cs (length w) refl)
  token_is (number n) f =
      begins Digit (decimal n) (decimal_nonempty n (omega (arith, f.0))) (digits_decimal own n (omega (arith, f.0))) ∙ ap (numbered number) (numeral_is n cs f.0 f.1)
  token_is (hash n) f = ap (numbered hash) (numeral_is n cs f.0 f.1)

-- what the lexer takes is spelt at the front
abbrev pub Right : List ℕ → Step → Type 0
Right bs over = bs ≡ []
Right bs (took t cs) = (bs ≡ spelling t ++ cs) × Fits t cs
Right bs (refused n) = Unit {0}

numeral_right : (bs : List ℕ) (P : Option (ℕ × List ℕ) → Type 0) → P None
    → ((n : ℕ) (cs : List ℕ) → bs ≡ decimal n ++ cs → n ≤ 999999999 → run Digit cs ≡ 0 → P (Some (n, cs))) → P (numeral bs)
numeral_right bs P nope some = go (lawful (take (run Digit bs) bs)) refl
  where
    go : (t : Bool) → lawful (take (run Digit bs) bs) ≡ t → P (cond t (Some (value (take (run Digit bs) bs) 0, drop (run Digit bs) bs)) None)
    go false e = nope
    go true e =
        let ds = take (run Digit bs) bs in
        let v = lawful_value ds (run_front Digit bs) e in
        some (value ds 0) (drop (run Digit bs) bs) (sym (take-append-drop (run Digit bs) bs) ∙ ap (λ l. l ++ drop (run Digit bs) bs) v.0) v.1 (run_after Digit bs)

pub right : (bs : List ℕ) → Right bs (token bs)
right [] = refl
right (b ∷ bs) = go (class b) refl (in_class b)
  where
    go : (k : Class) → class b ≡ k → By k b → Right (b ∷ bs) (begun k (b ∷ bs))
    go Space e i = tt
    go Open e i = (ap (λ c. c ∷ bs) i, tt)
    go Close e i = (ap (λ c. c ∷ bs) i, tt)
    go Hash e i = numeral_right bs (λ o. Right (b ∷ bs) (numbered hash o)) tt (λ n cs is small clear. ((λ j. i j ∷ is j), (small, clear)))
    go Digit e i = numeral_right (b ∷ bs) (λ o. Right (b ∷ bs) (numbered number o)) tt (λ n cs is small clear. (is, (small, clear)))
    go Letter e i =
        let r = run Letter (b ∷ bs) in
        let some : 0 < r = subst (λ n. 0 < n) (sym (ap (λ t. cond t (suc (run Letter bs)) 0) (alike_same (class b) Letter e))) (omega arith) in
        let l = length-take r (b ∷ bs) in
        (sym (take-append-drop r (b ∷ bs)), (omega arith, run_front Letter (b ∷ bs), run_after Letter (b ∷ bs)))
    go Other e i = tt

pub space_byte : (b : ℕ) → class b ≡ Space → b ≡ 32
space_byte b e = subst (λ k. By k b) e (in_class b)
