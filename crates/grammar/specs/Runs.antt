-- Laws of runs and tokens, a byte at a time.
use Rattle.std.specs.Prelude.{◌≡◌, ℕ, suc, ◌+◌, ◌-◌, ◌*◌, ◌<◌, ◌≤◌, min, Bool, true, false, cond, List, [], ◌∷◌, length, take, drop, Some, None, ◌==◌, ◌≢◌, slice_index, refl}
use Rattle.std.proofs.Common.{sym, ap, ◌∙◌, arith, length-drop, eq-eqb, ne_eqb}
use Rattle.std.proofs.lemmas.List.{take_rest}
use Rattle.grammar.specs.declared.bytes.Class.{Class}
use Rattle.grammar.specs.declared.bytes.Class.TheVariants.{Space, Open, Close, Hash, Digit, Letter, Other}
use Rattle.grammar.specs.Bytes.{class, number, alike, run, value}
use Rattle.grammar.specs.Tokens.{Tok, Step, took, token, trimmed, begun, numbered, numeral, lawful, number as numeral_token, name}

-- what `[first, rest @ ..]` calls the rest
abbrev pub rest : {X : Type 0} → List X → List X
rest xs = take (length xs - 1) (drop 1 xs)

pub split : (xs : List ℕ) → 0 < length xs → xs ≡ slice_index xs 0 ∷ rest xs
split [] h = absurd (omega arith)
split (x ∷ xs) h = ap (λ l. x ∷ l) (sym (take_rest (x ∷ xs) 1))

abbrev numbered_back : ℕ → Class
numbered_back n = cond (n == 0) Space (cond (n == 1) Open (cond (n == 2) Close (cond (n == 3) Hash (cond (n == 4) Digit (cond (n == 5) Letter Other)))))

back : (k : Class) → numbered_back (number k) ≡ k
back Space = refl
back Open = refl
back Close = refl
back Hash = refl
back Digit = refl
back Letter = refl
back Other = refl

pub alike_same : (a k : Class) → a ≡ k → alike a k ≡ true
alike_same a k e = eq-eqb (number a) (number k) (ap number e)

pub alike_apart : (a k : Class) → (a ≢ k) → alike a k ≡ false
alike_apart a k ne = ne_eqb (number a) (number k) (λ e. ne (sym (back a) ∙ ap numbered_back e ∙ back k))

-- one more byte of the class
pub run_more : (k : Class) (xs : List ℕ) → 0 < length xs → class (slice_index xs 0) ≡ k → run k xs ≡ suc (run k (rest xs))
run_more k xs h e = ap (run k) (split xs h) ∙ ap (λ t. cond t (suc (run k (rest xs))) 0) (alike_same _ k e)

-- the first byte is of another
pub run_none : (k : Class) (xs : List ℕ) → 0 < length xs → (class (slice_index xs 0) ≢ k) → run k xs ≡ 0
run_none k xs h e = ap (run k) (split xs h) ∙ ap (λ t. cond t (suc (run k (rest xs))) 0) (alike_apart _ k e)

run_le_one : (t : Bool) (n m : ℕ) → n ≤ m → cond t (suc n) 0 ≤ suc m
run_le_one true n m h = omega arith
run_le_one false n m h = omega arith

pub run_le : (k : Class) (xs : List ℕ) → run k xs ≤ length xs
run_le k [] = omega arith
run_le k (x ∷ xs) = run_le_one (alike (class x) k) _ _ (run_le k xs)

-- a value past the largest amount stays past it, so it may be cut there at each digit
pub capped : (bs : List ℕ) (m n : ℕ) → min 1000000000 m ≡ min 1000000000 n → min 1000000000 (value bs m) ≡ min 1000000000 (value bs n)
capped [] m n e = e
capped (b ∷ bs) m n e = capped bs (m * 10 + (b - 48)) (n * 10 + (b - 48)) (omega arith)

-- what `[first, rest @ ..]` binds: the first byte decides, and the rest is the text after it
pub began : (xs : List ℕ) → 0 < length xs → token xs ≡ begun (class (slice_index xs 0)) xs
began [] h = absurd (omega arith)
began (x ∷ xs) h = refl

pub rest_is : (xs : List ℕ) → rest xs ≡ drop 1 xs
rest_is xs = take_rest xs 1

pub taking : (xs : List ℕ) (k : Class) (s : Step) → 0 < length xs → k ≡ class (slice_index xs 0) → s ≡ begun k xs → s ≡ token xs
taking xs k s h is e = e ∙ ap (λ t. begun t xs) is ∙ sym (began xs h)

-- ---- a token takes at least a byte off the text

-- a number's token leaves what its digits leave
pub numbered_rest : (f : ℕ → Tok) (bs cs : List ℕ) (t : Tok) → numbered f (numeral bs) ≡ took t cs → cs ≡ drop (run Digit bs) bs
numbered_rest f bs cs t = go (lawful (take (run Digit bs) bs))
  where
    go : (b : Bool) → numbered f (cond b (Some (value (take (run Digit bs) bs) 0, drop (run Digit bs) bs)) None) ≡ took t cs → cs ≡ drop (run Digit bs) bs
    go true e = cc
    go false e = let z : ◌≡◌ {A = ℕ} 0 1 = cc in absurd (omega arith)

begun_shorter : (b : ℕ) (bs cs : List ℕ) (t : Tok) (k : Class) → class b ≡ k → begun k (b ∷ bs) ≡ took t cs → length cs < suc (length bs)
begun_shorter b bs cs t Space c e = let z : ◌≡◌ {A = ℕ} 0 1 = cc in absurd (omega arith)
begun_shorter b bs cs t Open c e = let z : cs ≡ bs = cc in let n = ap length z in omega arith
begun_shorter b bs cs t Close c e = let z : cs ≡ bs = cc in let n = ap length z in omega arith
begun_shorter b bs cs t Hash c e = let n = ap length (numbered_rest name bs cs t e) ∙ length-drop (run Digit bs) bs in omega arith
begun_shorter b bs cs t Digit c e =
    let n = ap length (numbered_rest numeral_token (b ∷ bs) cs t e) ∙ length-drop (run Digit (b ∷ bs)) (b ∷ bs) in
    let more = run_more Digit (b ∷ bs) (omega arith) c in
    omega arith
begun_shorter b bs cs t Letter c e =
    let z : cs ≡ drop (run Letter (b ∷ bs)) (b ∷ bs) = cc in
    let n = ap length z ∙ length-drop (run Letter (b ∷ bs)) (b ∷ bs) in
    let more = run_more Letter (b ∷ bs) (omega arith) c in
    omega arith
begun_shorter b bs cs t Other c e = let z : ◌≡◌ {A = ℕ} 0 1 = cc in absurd (omega arith)

token_shorter : (bs cs : List ℕ) (t : Tok) → token bs ≡ took t cs → length cs < length bs
token_shorter [] cs t e = let z : ◌≡◌ {A = ℕ} 0 1 = cc in absurd (omega arith)
token_shorter (b ∷ bs) cs t e = begun_shorter b bs cs t (class b) refl e

pub shorter : (bs cs : List ℕ) (t : Tok) → token (trimmed bs) ≡ took t cs → length cs < length bs
shorter bs cs t e = let n = length-drop (run Space bs) bs in let h = token_shorter (trimmed bs) cs t e in omega arith
