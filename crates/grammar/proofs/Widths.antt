-- What stands at the front of a text, and of another with the same bytes there.
use Rattle.std.proofs.Common.{◌≡◌, ℕ, zero, suc, ◌+◌, ◌-◌, ◌<◌, ◌≤◌, Bool, true, false, cond, List, [], ◌∷◌, ◌++◌, length, take, drop, Some, None, decimal, Option, sym, refl, ap, ◌∙◌, subst, arith, length-append, length-drop}
use Rattle.grammar.specs.declared.bytes.Class.{Class}
use Rattle.grammar.specs.declared.bytes.Class.TheVariants.{Space, Open, Close, Hash, Digit, Letter, Other}
use Rattle.grammar.specs.declared.fault.Fault.{Fault}
use Rattle.grammar.specs.declared.fault.Fault.TheVariants.{TooLong, BadByte, BadNumber, Misplaced, TooDeep, NoTypeRow, NoTermRow}
use Rattle.grammar.specs.Bytes.{class, alike, run, value}
use Rattle.grammar.specs.Tokens.{Tok, Step, over, took, refused, token, begun, numbered, numeral, lawful, lpar, rpar, word, number, name as hash}
use Rattle.grammar.specs.Runs.{run_le, run_more, numbered_rest}
use Rattle.grammar.specs.Renders.{spelling, Fits}
use Rattle.grammar.specs.Refusals.{together, width}
use Rattle.grammar.proofs.Lexed.{all_of, run_append, decimal_digits, Right, right}

-- ---- one text

together_some : (k : Class) (b : ℕ) (bs : List ℕ) → class b ≡ k → 0 < together k (b ∷ bs)
together_some Space b bs e = omega arith
together_some Open b bs e = omega arith
together_some Close b bs e = omega arith
together_some Hash b bs e = omega arith
together_some Digit b bs e = let r = run_more Digit (b ∷ bs) (omega arith) e in omega arith
together_some Letter b bs e = let r = run_more Letter (b ∷ bs) (omega arith) e in omega arith
together_some Other b bs e = omega arith

width_some : (b : ℕ) (bs : List ℕ) → 0 < width (b ∷ bs)
width_some b bs = together_some (class b) b bs refl

pub token_some : (bs : List ℕ) (t : Tok) (cs : List ℕ) → token bs ≡ took t cs → 0 < width bs
token_some [] t cs e = let z : ◌≡◌ {A = ℕ} 0 1 = cc in absurd (omega arith)
token_some (b ∷ bs) t cs e = width_some b bs

-- the lexer finds no faults but these
abbrev pub Lexical : Fault → Type 0
Lexical TooLong = ⊥
Lexical BadByte = Unit {0}
Lexical BadNumber = Unit {0}
Lexical Misplaced = ⊥
Lexical TooDeep = ⊥
Lexical NoTypeRow = ⊥
Lexical NoTermRow = ⊥

abbrev Fair : Step → Type 0
Fair over = Unit {0}
Fair (took t cs) = Unit {0}
Fair (refused k) = Lexical k

numbered_fair : (f : ℕ → Tok) (o : Option (ℕ × List ℕ)) → Fair (numbered f o)
numbered_fair f None = tt
numbered_fair f (Some p) = tt

begun_fair : (k : Class) (bs : List ℕ) → Fair (begun k bs)
begun_fair Space bs = tt
begun_fair Open bs = tt
begun_fair Close bs = tt
begun_fair Hash bs = numbered_fair hash (numeral (drop 1 bs))
begun_fair Digit bs = numbered_fair number (numeral bs)
begun_fair Letter bs = tt
begun_fair Other bs = tt

token_fair : (bs : List ℕ) → Fair (token bs)
token_fair [] = tt
token_fair (b ∷ bs) = begun_fair (class b) (b ∷ bs)

pub lexical : (bs : List ℕ) (k : Fault) → token bs ≡ refused k → Lexical k
lexical bs k e = subst Fair e (token_fair bs)

-- a token is as wide as its spelling
drop_width : (n : ℕ) (bs w cs : List ℕ) → n ≤ length bs → bs ≡ w ++ cs → cs ≡ drop n bs → n ≡ length w
drop_width n bs w cs h e d =
    let a = ap length e ∙ length-append w cs in
    let b = ap length d ∙ length-drop n bs in
    omega arith

begun_rest : (k : Class) (b : ℕ) (bs cs : List ℕ) (t : Tok) → begun k (b ∷ bs) ≡ took t cs → cs ≡ drop (together k (b ∷ bs)) (b ∷ bs)
begun_rest Space b bs cs t e = let z : ◌≡◌ {A = ℕ} 0 1 = cc in absurd (omega arith)
begun_rest Open b bs cs t e = cc
begun_rest Close b bs cs t e = cc
begun_rest Hash b bs cs t e = numbered_rest hash bs cs t e
begun_rest Digit b bs cs t e = numbered_rest number (b ∷ bs) cs t e
begun_rest Letter b bs cs t e = cc
begun_rest Other b bs cs t e = let z : ◌≡◌ {A = ℕ} 0 1 = cc in absurd (omega arith)

together_le : (k : Class) (b : ℕ) (bs : List ℕ) → together k (b ∷ bs) ≤ suc (length bs)
together_le Space b bs = omega arith
together_le Open b bs = omega arith
together_le Close b bs = omega arith
together_le Hash b bs = let r = run_le Digit bs in omega arith
together_le Digit b bs = run_le Digit (b ∷ bs)
together_le Letter b bs = run_le Letter (b ∷ bs)
together_le Other b bs = omega arith

pub width_is : (bs cs : List ℕ) (t : Tok) → token bs ≡ took t cs → width bs ≡ length (spelling t)
width_is [] cs t e = let z : ◌≡◌ {A = ℕ} 0 1 = cc in absurd (omega arith)
width_is (b ∷ bs) cs t e =
    let r = subst (Right (b ∷ bs)) e (right (b ∷ bs)) in
    drop_width (width (b ∷ bs)) (b ∷ bs) (spelling t) cs (together_le (class b) b bs) r.0 (begun_rest (class b) b bs cs t e)

-- nothing that begins in a token goes on past it
all_within : (k : Class) → ((l : List ℕ) → together k l ≡ run k l) → (w cs : List ℕ) → run k w ≡ length w → run k cs ≡ 0 → (i : ℕ) → i < length w → i + width (drop i (w ++ cs)) ≤ length w
all_within k r [] cs a z i l = absurd (omega arith)
all_within k r (b ∷ w) cs a z zero l =
    let h = ap (λ c. together c (b ∷ (w ++ cs))) (all_of k b w a).0 ∙ r (b ∷ (w ++ cs)) ∙ run_append k (b ∷ w) cs a z in
    omega arith
all_within k r (b ∷ w) cs a z (suc i) l = let h = all_within k r w cs (all_of k b w a).1 z i (omega arith) in omega arith

pub token_within : (t : Tok) (cs : List ℕ) → Fits t cs → (i : ℕ) → i < length (spelling t) → i + width (drop i (spelling t ++ cs)) ≤ length (spelling t)
token_within lpar cs f zero l = omega arith
token_within lpar cs f (suc i) l = absurd (omega arith)
token_within rpar cs f zero l = omega arith
token_within rpar cs f (suc i) l = absurd (omega arith)
token_within (word w) cs f i l = all_within Letter (λ l. refl) w cs f.1 f.2 i l
token_within (number n) cs f i l = all_within Digit (λ l. refl) (decimal n) cs (decimal_digits n f.0) f.1 i l
token_within (hash n) cs f zero l = let r = run_append Digit (decimal n) cs (decimal_digits n f.0) f.1 in omega arith
token_within (hash n) cs f (suc i) l = let h = all_within Digit (λ l. refl) (decimal n) cs (decimal_digits n f.0) f.1 i (omega arith) in omega arith

-- ---- two texts

abbrev pub Same : Step → Step → Type 0
Same over d = d ≡ over
Same (took t cs) d = (ds : List ℕ) × (d ≡ took t ds)
Same (refused k) d = d ≡ refused k

numbered_same : (f : ℕ → Tok) (xs ys : List ℕ) → run Digit ys ≡ run Digit xs → take (run Digit xs) ys ≡ take (run Digit xs) xs → Same (numbered f (numeral xs)) (numbered f (numeral ys))
numbered_same f xs ys r h =
    subst (λ l. Same (numbered f (numeral xs)) (numbered f (cond (lawful l) (Some (value l 0, drop (run Digit ys) ys)) None))) (sym (ap (λ n. take n ys) r ∙ h))
    (by (lawful (take (run Digit xs) xs)))
  where
    by : (b : Bool) → Same (numbered f (cond b (Some (value (take (run Digit xs) xs) 0, drop (run Digit xs) xs)) None)) (numbered f (cond b (Some (value (take (run Digit xs) xs) 0, drop (run Digit ys) ys)) None))
    by true = (drop (run Digit ys) ys, refl)
    by false = refl

begun_same : (k : Class) (b : ℕ) (bs cs : List ℕ) → together k (b ∷ cs) ≡ together k (b ∷ bs) → take (together k (b ∷ bs)) (b ∷ cs) ≡ take (together k (b ∷ bs)) (b ∷ bs) → Same (begun k (b ∷ bs)) (begun k (b ∷ cs))
begun_same Space b bs cs r h = refl
begun_same Open b bs cs r h = (cs, refl)
begun_same Close b bs cs r h = (cs, refl)
begun_same Hash b bs cs r h = numbered_same hash bs cs (omega arith) (let z : take (run Digit bs) cs ≡ take (run Digit bs) bs = cc in z)
begun_same Digit b bs cs r h = numbered_same number (b ∷ bs) (b ∷ cs) r h
begun_same Letter b bs cs r h = (drop (run Letter (b ∷ cs)) (b ∷ cs), ap (λ l. took (word l) (drop (run Letter (b ∷ cs)) (b ∷ cs))) (ap (λ n. take n (b ∷ cs)) r ∙ h))
begun_same Other b bs cs r h = refl

-- two texts with the same front: the same token, and the same runs that do not go on
pub record Fronts (bs cs : List ℕ) : Type 0 where
  pub same : Same (token bs) (token cs)
  pub none : (k : Class) → run k bs ≡ 0 → run k cs ≡ 0

pub run_head : (k : Class) (b : ℕ) (bs cs : List ℕ) → run k (b ∷ bs) ≡ 0 → run k (b ∷ cs) ≡ 0
run_head k b bs cs e = by (alike (class b) k) e
  where
    by : (t : Bool) → cond t (suc (run k bs)) 0 ≡ 0 → cond t (suc (run k cs)) 0 ≡ 0
    by true e = absurd (omega arith)
    by false e = refl

pub fronts : (bs cs : List ℕ) → width cs ≡ width bs → take (width bs) cs ≡ take (width bs) bs → Fronts bs cs
fronts [] [] w h = record { same = refl; none = λ k e. e }
fronts [] (c ∷ cs) w h = let s = width_some c cs in absurd (omega arith)
fronts (b ∷ bs) [] w h = let s = width_some b bs in absurd (omega arith)
fronts (b ∷ bs) (c ∷ cs) w h = by (width (b ∷ bs)) refl h
  where
    by : (n : ℕ) → width (b ∷ bs) ≡ n → take n (c ∷ cs) ≡ take n (b ∷ bs) → Fronts (b ∷ bs) (c ∷ cs)
    by zero e q = let s = width_some b bs in absurd (omega arith)
    by (suc n) e q =
        let is : b ≡ c = cc in
        subst (λ x. Fronts (b ∷ bs) (x ∷ cs)) is
        (record {
          same = begun_same (class b) b bs cs (subst (λ x. width (x ∷ cs) ≡ width (b ∷ bs)) (sym is) w) (subst (λ x. take (width (b ∷ bs)) (x ∷ cs) ≡ take (width (b ∷ bs)) (b ∷ bs)) (sym is) h);
          none = λ k z. run_head k b bs cs z;
        })

-- a text that has the same bytes as another up to a place in it, and some behind it
pub record Parted (pre rest cs : List ℕ) (n : ℕ) : Type 0 where
  pub behind : List ℕ
  pub split : cs ≡ pre ++ behind
  pub alike : take n behind ≡ take n rest

pub parted : (pre rest cs : List ℕ) (n k : ℕ) → k ≡ length pre + n → take k cs ≡ take k (pre ++ rest) → Parted pre rest cs n
parted [] rest cs n k e h =
    let is : k ≡ n = omega arith in
    record { behind = cs; split = refl; alike = subst (λ k. take k cs ≡ take k rest) is h }
parted (b ∷ pre) rest cs n zero e h = absurd (omega arith)
parted (b ∷ pre) rest [] n (suc k) e h = let z : ◌≡◌ {A = ℕ} 0 1 = cc in absurd (omega arith)
parted (b ∷ pre) rest (c ∷ cs) n (suc k) e h =
    let is : c ≡ b = cc in
    let p = parted pre rest cs n k (omega arith) (let z : take k cs ≡ take k (pre ++ rest) = cc in z) in
    record { behind = p.behind; split = λ i. is i ∷ p.split i; alike = p.alike }

pub take_past : (pre rest : List ℕ) (n k : ℕ) → k ≡ length pre + n → take k (pre ++ rest) ≡ pre ++ take n rest
take_past [] rest n k e = let is : k ≡ n = omega arith in ap (λ k. take k rest) is
take_past (b ∷ pre) rest n zero e = absurd (omega arith)
take_past (b ∷ pre) rest n (suc k) e = ap (λ l. b ∷ l) (take_past pre rest n k (omega arith))

pub drop_past : (w cs : List ℕ) (i : ℕ) → length w ≤ i → drop i (w ++ cs) ≡ drop (i - length w) cs
drop_past [] cs i h = let e : i ≡ i - 0 = omega arith in ap (λ n. drop n cs) e
drop_past (b ∷ w) cs zero h = absurd (omega arith)
drop_past (b ∷ w) cs (suc i) h = let e : i - length w ≡ suc i - suc (length w) = omega arith in drop_past w cs i (omega arith) ∙ ap (λ n. drop n cs) e
