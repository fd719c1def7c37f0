-- A reading that takes some tokens is refused behind them, if at all.
use Rattle.std.proofs.Common.{◌≡◌, ℕ, zero, suc, ◌-◌, ◌<◌, ◌≤◌, Bool, true, false, cond, ltb, List, [], ◌∷◌, ◌++◌, length, drop, sym, refl, ap, ◌∙◌, subst, append_assoc, arith, length-append, length-drop}
use Rattle.rows.specs.Forms.{types, parts}
use Rattle.grammar.specs.declared.bytes.Class.TheVariants.{Space}
use Rattle.grammar.specs.declared.fault.Fault.{Fault}
use Rattle.grammar.specs.declared.fault.Fault.TheVariants.{Misplaced}
use Rattle.grammar.specs.Bytes.{run}
use Rattle.grammar.specs.Tokens.{Tok, Step, over, took, refused, token, trimmed}
use Rattle.grammar.specs.Runs.{shorter}
use Rattle.grammar.specs.Reader.{Maker, Bracket, term_word, type_word, open_type, open_term, a_term, a_type, a_close, wanted, Turn, go, done, stop, give, give_type, turn, Outcome, refused_at, ended, place, after_turn, after_token, reading}
use Rattle.grammar.specs.Renders.{spelling}
use Rattle.grammar.proofs.Lexed.{unspaced, token_is}
use Rattle.grammar.proofs.Follows.{walk}
use Rattle.grammar.proofs.Halts.{Before, start, space, next, halts}
use Rattle.grammar.proofs.Walks.{walk_stop}

-- a turn that does not stop
abbrev pub Live : {S X Y : Type 0} → Turn S X Y → Type 0
Live (go s fs) = Unit {0}
Live (done s y) = Unit {0}
Live (stop k) = ⊥

no_close : (b : Bool) → cond b a_type a_close ≡ a_term → ⊥
no_close true e = let z : ◌≡◌ {A = ℕ} 0 1 = cc in omega arith
no_close false e = let z : ◌≡◌ {A = ℕ} 0 1 = cc in omega arith

module _ {S X Y : Type 0} where
  -- a term is taken where one is wanted
  pub give_live : (s : S) (y : Y) (fs : List (Bracket X Y)) → wanted fs ≡ a_term → Live (give s y fs)
  give_live s y [] w = tt
  give_live s y (term_word ∷ fs) w = let z : ◌≡◌ {A = ℕ} 0 1 = cc in absurd (omega arith)
  give_live s y (type_word ∷ fs) w = let z : ◌≡◌ {A = ℕ} 0 1 = cc in absurd (omega arith)
  give_live s y (open_type k xs ∷ fs) w = absurd (no_close (ltb (length xs) 2) w)
  give_live s y (open_term f xs ys ∷ fs) w = by (ltb (length xs) (types f)) (ltb (length ys) (parts f)) w
    where
      by : (b c : Bool) → cond b a_type (cond c a_term a_close) ≡ a_term → Live (cond c (go s (open_term f xs (ys ++ y ∷ []) ∷ fs)) (stop Misplaced))
      by b true e = tt
      by true false e = let z : ◌≡◌ {A = ℕ} 0 1 = cc in omega arith
      by false false e = let z : ◌≡◌ {A = ℕ} 0 1 = cc in omega arith

  -- and a type
  pub give_type_live : (s : S) (x : X) (fs : List (Bracket X Y)) → wanted fs ≡ a_type → Live (give_type s x fs)
  give_type_live s x [] w = let z : ◌≡◌ {A = ℕ} 0 1 = cc in omega arith
  give_type_live s x (term_word ∷ fs) w = let z : ◌≡◌ {A = ℕ} 0 1 = cc in omega arith
  give_type_live s x (type_word ∷ fs) w = let z : ◌≡◌ {A = ℕ} 0 1 = cc in omega arith
  give_type_live s x (open_type k xs ∷ fs) w = by (ltb (length xs) 2) w
    where
      by : (b : Bool) → cond b a_type a_close ≡ a_type → Live (cond b (go s (open_type k (xs ++ x ∷ []) ∷ fs)) (stop Misplaced))
      by true e = tt
      by false e = let z : ◌≡◌ {A = ℕ} 0 1 = cc in omega arith
  give_type_live s x (open_term f xs ys ∷ fs) w = by (ltb (length xs) (types f)) (ltb (length ys) (parts f)) w
    where
      by : (b c : Bool) → cond b a_type (cond c a_term a_close) ≡ a_type → Live (cond b (go s (open_term f (xs ++ x ∷ []) ys ∷ fs)) (stop Misplaced))
      by true c e = tt
      by false true e = let z : ◌≡◌ {A = ℕ} 0 1 = cc in omega arith
      by false false e = let z : ◌≡◌ {A = ℕ} 0 1 = cc in omega arith

module _ {S X Y : Type 0} (m : Maker S X Y) (room long : ℕ) (g : Fault) (q : ℕ) where
  place_is : (k : Fault) (p : ℕ) → ◌≡◌ {A = Outcome S Y} (refused_at k p) (refused_at g q) → q ≡ p
  place_is k p h = cc

  -- a refusal is not before what is read
  not_before : (n : ℕ) (bs : List ℕ) (s : S) (fs : List (Bracket X Y)) → length bs < n → reading m room long n bs s fs ≡ refused_at g q → long - length bs ≤ q
  not_before n bs s fs l h =
      let a = halts m room long n bs s fs g q l h in
      let k = ap length a.passed.split ∙ length-append a.passed.front a.rest in
      let e = a.place in
      omega arith

  at_end : (cs : List ℕ) (s : S) (y : Y) (st : Step) → ended (place m room long cs) s y st ≡ refused_at g q → long - length (trimmed cs) ≤ q
  at_end cs s y over h = let z : ◌≡◌ {A = ℕ} 0 1 = cc in absurd (omega arith)
  at_end cs s y (took t ds) h = let e = place_is Misplaced (place m room long cs) h in omega arith
  at_end cs s y (refused j) h = let e = place_is j (place m room long cs) h in omega arith

  -- nothing but spaces
  all_spaces : {rest bs : List ℕ} {ts : List Tok} → Before rest bs ts → ts ≡ [] → trimmed (bs ++ rest) ≡ trimmed rest
  all_spaces start e = refl
  all_spaces (space b) e = all_spaces b e
  all_spaces (next h f b) e = let z : ◌≡◌ {A = ℕ} 0 1 = cc in absurd (omega arith)

  -- a reading that takes some tokens is not refused before their end
  pub reached : {rest pre : List ℕ} {ts : List Tok} → Before rest pre ts → (n : ℕ) (s : S) (fs : List (Bracket X Y)) → Live (walk m room ts (go s fs)) → length (pre ++ rest) < n → reading m room long n (pre ++ rest) s fs ≡ refused_at g q → long - length rest ≤ q
  reached {rest} start n s fs a l h = not_before n rest s fs l h
  reached (space b) zero s fs a l h = absurd (omega arith)
  reached (space b) (suc n) s fs a l h = reached b (suc n) s fs a (omega arith) h
  reached (next e f b) zero s fs a l h = absurd (omega arith)
  reached {rest} {pre} (next {cs = ds} {t = t} {ts = ts} e f b) (suc n) s fs a l h =
      let to : pre ++ rest ≡ spelling t ++ (ds ++ rest) = ap (λ x. x ++ rest) e ∙ append_assoc (spelling t) ds rest in
      let takes : token (trimmed (pre ++ rest)) ≡ took t (ds ++ rest) = ap (λ x. token (trimmed x)) to ∙ ap (λ k. token (drop k (spelling t ++ (ds ++ rest)))) (unspaced (ds ++ rest) t f) ∙ token_is (ds ++ rest) t f in
      let less = shorter (pre ++ rest) (ds ++ rest) t takes in
      by (turn m room t s fs) a (λ s fs a h. reached b n s fs a (omega arith) h) (sym (ap (λ st. after_token m room long (reading m room long n) (place m room long (pre ++ rest)) st s fs) takes) ∙ h)
    where
      ending : (us : List Tok) → ts ≡ us → (s : S) (y : Y) → Live (walk m room us (done s y)) → ended (place m room long (ds ++ rest)) s y (token (trimmed (ds ++ rest))) ≡ refused_at g q → long - length rest ≤ q
      ending [] e s y a h =
          let k = at_end (ds ++ rest) s y (token (trimmed (ds ++ rest))) h in
          let j = ap length (all_spaces b e) in
          let i = length-drop (run Space rest) rest in
          omega arith
      ending (u ∷ us) e s y a h = absurd a

      by : (d : Turn S X Y) → Live (walk m room ts d) → ((s : S) (fs : List (Bracket X Y)) → Live (walk m room ts (go s fs)) → reading m room long n (ds ++ rest) s fs ≡ refused_at g q → long - length rest ≤ q)
          → after_turn m room long (reading m room long n) (place m room long (pre ++ rest)) (ds ++ rest) d ≡ refused_at g q → long - length rest ≤ q
      by (go s fs) a ih h = ih s fs a h
      by (done s y) a ih h = ending ts refl s y a h
      by (stop j) a ih h = absurd (subst Live (walk_stop m room ts j) a)
