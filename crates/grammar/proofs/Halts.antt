-- Where a reading is refused: the tokens before that place, and what stands there.
use Rattle.std.proofs.Common.{◌≡◌, ℕ, zero, suc, ◌+◌, ◌-◌, ◌<◌, ◌≤◌, Bool, true, false, cond, List, [], ◌∷◌, ◌++◌, length, drop, sym, refl, ap, ◌∙◌, subst, ⊎_elim, append_assoc, append-nil, arith, length-append}
use Rattle.std.proofs.str.Laws.{order}
use Rattle.grammar.specs.Refusals.{width}
use Rattle.grammar.specs.declared.bytes.Class.{Class}
use Rattle.grammar.specs.declared.bytes.Class.TheVariants.{Space, Digit, Letter}
use Rattle.grammar.specs.declared.fault.Fault.{Fault}
use Rattle.grammar.specs.declared.fault.Fault.TheVariants.{Misplaced}
use Rattle.grammar.specs.Bytes.{class, alike, run}
use Rattle.grammar.specs.Tokens.{Tok, Step, lpar, rpar, word, number, name as hash, over, took, refused, token, trimmed}
use Rattle.grammar.specs.Runs.{shorter}
use Rattle.grammar.specs.Reader.{Maker, Bracket, Turn, go, done, stop, turn, Outcome, refused_at, ended, place, after_turn, after_token, reading}
use Rattle.grammar.specs.Renders.{spelling, Fits, Written}
use Rattle.grammar.specs.Renders as w
use Rattle.grammar.proofs.Lexed.{unspaced, token_is, Right, right, alike_true, space_byte, run_after}
use Rattle.grammar.proofs.Spelt.{Spells}
use Rattle.grammar.proofs.Spelt as l
use Rattle.grammar.proofs.Follows.{walk}
use Rattle.grammar.proofs.Widths.{run_head, token_within, drop_past}

-- the tokens of a text that stands before `rest`
pub data Before (rest : List ℕ) : List ℕ → List Tok → Type 0 where
  start : Before rest [] []
  space : {bs : List ℕ} {ts : List Tok} → Before rest bs ts → Before rest (32 ∷ bs) ts
  next : {bs cs : List ℕ} {t : Tok} {ts : List Tok} → bs ≡ spelling t ++ cs → Fits t (cs ++ rest) → Before rest cs ts → Before rest bs (t ∷ ts)

-- the text after it may be another, if it goes on with no run that this one does not go on with
pub record Instead (rest other : List ℕ) : Type 0 where
  pub letters : run Letter rest ≡ 0 → run Letter other ≡ 0
  pub digits : run Digit rest ≡ 0 → run Digit other ≡ 0

pub run_instead : (k : Class) (cs rest other : List ℕ) → (run k rest ≡ 0 → run k other ≡ 0) → run k (cs ++ rest) ≡ 0 → run k (cs ++ other) ≡ 0
run_instead k [] rest other h e = h e
run_instead k (b ∷ cs) rest other h e = run_head k b (cs ++ rest) (cs ++ other) e

pub fits_instead : (t : Tok) (cs rest other : List ℕ) → Instead rest other → Fits t (cs ++ rest) → Fits t (cs ++ other)
fits_instead lpar cs rest other i f = tt
fits_instead rpar cs rest other i f = tt
fits_instead (word v) cs rest other i f = (f.0, f.1, run_instead Letter cs rest other i.letters f.2)
fits_instead (number n) cs rest other i f = (f.0, run_instead Digit cs rest other i.digits f.1)
fits_instead (hash n) cs rest other i f = (f.0, run_instead Digit cs rest other i.digits f.1)

pub before_instead : {rest bs : List ℕ} {ts : List Tok} (other : List ℕ) → Instead rest other → Before rest bs ts → Before other bs ts
before_instead other i start = start
before_instead other i (space b) = space (before_instead other i b)
before_instead {rest} other i (next {cs = cs} {t = t} e f b) = next e (fits_instead t cs rest other i f) (before_instead other i b)

-- the text of tokens, and that of others after it
pub joins : {rest bs : List ℕ} {ts us : List Tok} → Before rest bs ts → Written rest us → Written (bs ++ rest) (ts ++ us)
joins start h = h
joins (space b) h = w.space (joins b h)
joins {rest} (next {cs = cs} {t = t} e f b) h = w.token (ap (λ l. l ++ rest) e ∙ append_assoc (spelling t) cs rest) f (joins b h)

-- a token more
pub before_more : (t : Tok) (rest : List ℕ) → Fits t rest → {bs : List ℕ} {ts : List Tok} → Before (spelling t ++ rest) bs ts → Before rest (bs ++ spelling t) (ts ++ t ∷ [])
before_more t rest h start = next (sym (append-nil (spelling t))) h start
before_more t rest h (space b) = space (before_more t rest h b)
before_more t rest h (next {cs = cs} {t = u} e f b) =
    next (ap (λ l. l ++ spelling t) e ∙ append_assoc (spelling u) cs (spelling t)) (subst (Fits u) (sym (append_assoc cs (spelling t) rest)) f) (before_more t rest h b)

-- nothing that begins in a text of tokens goes on past it
pub none_over : {rest bs : List ℕ} {ts : List Tok} → Before rest bs ts → (i : ℕ) → i < length bs → i + width (drop i (bs ++ rest)) ≤ length bs
none_over start i l = absurd (omega arith)
none_over (space b) zero l = omega arith
none_over (space b) (suc i) l = let h = none_over b i (omega arith) in omega arith
none_over {rest} {bs} (next {cs = cs} {t = t} e f b) i l =
    let n = ap length e ∙ length-append (spelling t) cs in
    let is : bs ++ rest ≡ spelling t ++ (cs ++ rest) = ap (λ x. x ++ rest) e ∙ append_assoc (spelling t) cs rest in
    let w : width (drop i (bs ++ rest)) ≡ width (drop i (spelling t ++ (cs ++ rest))) = ap (λ x. width (drop i x)) is in
    ⊎_elim (λ in_it. let h = token_within t (cs ++ rest) f i in_it in omega arith)
    (λ past.
    let h = none_over b (i - length (spelling t)) (omega arith) in
    let d : drop i (spelling t ++ (cs ++ rest)) ≡ drop (i - length (spelling t)) (cs ++ rest) = drop_past (spelling t) (cs ++ rest) i past in
    let v = ap width d in
    omega arith)
    (order i (length (spelling t)))

-- and the other way round
pub record Rest (rest : List ℕ) (ts us : List Tok) : Type 0 where
  pub others : List Tok
  pub split : us ≡ ts ++ others
  pub spells : Spells rest others

unspace : {bs : List ℕ} {us : List Tok} → Spells (32 ∷ bs) us → Spells bs us
unspace (l.end e) = l.end e
unspace (l.next e s) = l.next e s

after_one : {bs : List ℕ} {us : List Tok} (t : Tok) (cs : List ℕ) → token (trimmed bs) ≡ took t cs → Spells bs us → (vs : List Tok) × (us ≡ t ∷ vs) × Spells cs vs
after_one t cs h (l.end e) = let z : ◌≡◌ {A = ℕ} 0 1 = cc in absurd (omega arith)
after_one t cs h (l.next {t = u} {cs = ds} {ts = vs} e s) =
    let a : u ≡ t = cc in
    let b : ds ≡ cs = cc in
    (vs, ap (λ x. x ∷ vs) a, subst (λ x. Spells x vs) b s)

pub parts : {rest bs : List ℕ} {ts us : List Tok} → Before rest bs ts → Spells (bs ++ rest) us → Rest rest ts us
parts {us = us} start s = record { others = us; split = refl; spells = s }
parts (space b) s = parts b (unspace s)
parts {rest} {bs} {us = us} (next {cs = cs} {t = t} {ts = ts} e f b) s =
    let is : bs ++ rest ≡ spelling t ++ (cs ++ rest) = ap (λ x. x ++ rest) e ∙ append_assoc (spelling t) cs rest in
    let one = after_one t (cs ++ rest) (ap (λ x. token (trimmed x)) is ∙ ap (λ k. token (drop k (spelling t ++ (cs ++ rest)))) (unspaced (cs ++ rest) t f) ∙ token_is (cs ++ rest) t f) s in
    let more = parts b one.2 in
    record { others = more.others; split = one.1 ∙ ap (λ x. t ∷ x) more.split; spells = more.spells }

-- ---- what a lexer has passed

-- a text, split where a list of its tokens ends
pub record Passed (bs rest : List ℕ) (ts : List Tok) : Type 0 where
  pub front : List ℕ
  pub split : bs ≡ front ++ rest
  pub before : Before rest front ts

with_spaces : (bs front rest : List ℕ) (ts : List Tok) → trimmed bs ≡ front ++ rest → Before rest front ts → Passed bs rest ts
with_spaces [] front rest ts h b = record { front = front; split = h; before = b }
with_spaces (c ∷ bs) front rest ts h b = by (alike (class c) Space) refl (λ k. with_spaces bs front rest ts k b) h
  where
    by : (t : Bool) → alike (class c) Space ≡ t → (trimmed bs ≡ front ++ rest → Passed bs rest ts) → drop (cond t (suc (run Space bs)) 0) (c ∷ bs) ≡ front ++ rest → Passed (c ∷ bs) rest ts
    by true e f h =
        let p = f h in
        let is = space_byte c (alike_true (class c) Space e) in
        record { front = 32 ∷ p.front; split = λ i. is i ∷ p.split i; before = space p.before }
    by false e f h = record { front = front; split = h; before = b }

spaces : (bs : List ℕ) → Passed bs (trimmed bs) []
spaces bs = with_spaces bs [] (trimmed bs) [] refl start

one_more : (bs cs rest : List ℕ) (t : Tok) (ts : List Tok) → token (trimmed bs) ≡ took t cs → Passed cs rest ts → Passed bs rest (t ∷ ts)
one_more bs cs rest t ts e p =
    let r = subst (Right (trimmed bs)) e (right (trimmed bs)) in
    with_spaces bs (spelling t ++ p.front) rest (t ∷ ts)
    (r.0 ∙ ap (λ x. spelling t ++ x) p.split ∙ sym (append_assoc (spelling t) p.front rest))
    (next refl (subst (Fits t) p.split r.1) p.before)

-- ---- a refusal

module _ {S X Y : Type 0} (m : Maker S X Y) (room long : ℕ) where
  -- the fault of what stands at the front, with the account so far
  abbrev pub Halt : Turn S X Y → Step → Fault → Type 0
  Halt (go s fs) over f = f ≡ Misplaced
  Halt (go s fs) (took t cs) f = turn m room t s fs ≡ stop f
  Halt (go s fs) (refused k) f = f ≡ k
  Halt (done s y) over f = ⊥
  Halt (done s y) (took t cs) f = f ≡ Misplaced
  Halt (done s y) (refused k) f = f ≡ k
  Halt (stop k) st f = ⊥

  pub record Halted (bs : List ℕ) (s : S) (fs : List (Bracket X Y)) (f : Fault) (p : ℕ) : Type 0 where
    pub rest : List ℕ
    pub tokens : List Tok
    pub at : Turn S X Y
    pub passed : Passed bs rest tokens
    pub clear : run Space rest ≡ 0
    pub walked : walk m room tokens (go s fs) ≡ at
    pub halt : Halt at (token rest) f
    pub place : p ≡ long - length rest

  fault_is : (k f : Fault) (q p : ℕ) → ◌≡◌ {A = Outcome S Y} (refused_at k q) (refused_at f p) → (f ≡ k) × (p ≡ q)
  fault_is k f q p h = (let a : f ≡ k = cc in a, let b : p ≡ q = cc in b)

  here : (bs : List ℕ) (s : S) (fs : List (Bracket X Y)) (f : Fault) (p : ℕ) (st : Step) → token (trimmed bs) ≡ st → Halt (go s fs) st f → p ≡ long - length (trimmed bs) → Halted bs s fs f p
  here bs s fs f p st e h q = record { rest = trimmed bs; tokens = []; at = go s fs; passed = spaces bs; clear = run_after Space bs; walked = refl; halt = subst (λ x. Halt (go s fs) x f) (sym e) h; place = q }

  abbrev Halts : ℕ → Type 0
  Halts n = (bs : List ℕ) (s : S) (fs : List (Bracket X Y)) (f : Fault) (p : ℕ) → length bs < n → reading m room long n bs s fs ≡ refused_at f p → Halted bs s fs f p

  module _ (n : ℕ) (ih : Halts n) (bs : List ℕ) (s : S) (fs : List (Bracket X Y)) (f : Fault) (p : ℕ) (short : length bs < suc n) (t : Tok) (cs : List ℕ) (e : token (trimmed bs) ≡ took t cs) where
    behind : (s' : S) (y : Y) → turn m room t s fs ≡ done s' y → (st : Step) → token (trimmed cs) ≡ st → Halt (done s' y) st f → p ≡ long - length (trimmed cs) → Halted bs s fs f p
    behind s' y q st g h at = record {
      rest = trimmed cs;
      tokens = t ∷ [];
      at = done s' y;
      passed = one_more bs cs (trimmed cs) t [] e (spaces cs);
      clear = run_after Space cs;
      walked = q;
      halt = subst (λ x. Halt (done s' y) x f) (sym g) h;
      place = at;
    }

    at_end : (s' : S) (y : Y) → turn m room t s fs ≡ done s' y → (st : Step) → token (trimmed cs) ≡ st → ended (place m room long cs) s' y st ≡ refused_at f p → Halted bs s fs f p
    at_end s' y q over g h = let z : ◌≡◌ {A = ℕ} 0 1 = cc in absurd (omega arith)
    at_end s' y q (took u ds) g h = let i = fault_is Misplaced f (place m room long cs) p h in behind s' y q (took u ds) g i.0 i.1
    at_end s' y q (refused k) g h = let i = fault_is k f (place m room long cs) p h in behind s' y q (refused k) g i.0 i.1

    at_turn : (d : Turn S X Y) → turn m room t s fs ≡ d → after_turn m room long (reading m room long n) (place m room long bs) cs d ≡ refused_at f p → Halted bs s fs f p
    at_turn (go s' fs') q h =
        let a = ih cs s' fs' f p (let k = shorter bs cs t e in omega arith) h in
        record {
          rest = a.rest;
          tokens = t ∷ a.tokens;
          at = a.at;
          passed = one_more bs cs a.rest t a.tokens e a.passed;
          clear = a.clear;
          walked = ap (walk m room a.tokens) q ∙ a.walked;
          halt = a.halt;
          place = a.place;
        }
    at_turn (done s' y) q h = at_end s' y q (token (trimmed cs)) refl h
    at_turn (stop k) q h = let i = fault_is k f (place m room long bs) p h in here bs s fs f p (took t cs) e (q ∙ ap stop (sym i.0)) i.1

  pub halts : (n : ℕ) → Halts n
  halts zero bs s fs f p short h = absurd (omega arith)
  halts (suc n) bs s fs f p short h = by (token (trimmed bs)) refl (halts n) h
    where
      by : (st : Step) → token (trimmed bs) ≡ st → Halts n → after_token m room long (reading m room long n) (place m room long bs) st s fs ≡ refused_at f p → Halted bs s fs f p
      by over e ih h =
          let i = fault_is Misplaced f long p h in
          let none : trimmed bs ≡ [] = subst (Right (trimmed bs)) e (right (trimmed bs)) in
          let z = ap length none in
          here bs s fs f p over e i.0 (i.1 ∙ omega arith)
      by (refused k) e ih h = let i = fault_is k f (place m room long bs) p h in here bs s fs f p (refused k) e i.0 i.1
      by (took t cs) e ih h = at_turn n ih bs s fs f p short t cs e (turn m room t s fs) refl h
