-- What a refusal means.
use Rattle.std.proofs.Common.{◌≡◌, ℕ, suc, ◌+◌, ◌-◌, ◌<◌, ◌≤◌, min, max, Bool, true, false, cond, eqb, ltb, List, [], ◌∷◌, ◌++◌, length, take, drop, Option, sym, refl, ap, ◌∙◌, subst, ⊎_elim, append_assoc, arith, length-append, length-take, ltb-false, ltb-true, le-ltb, lt-ltb, eq-eqb, ne_eqb, eqb-true}
use borrow.Author.Tests.{eqb-false}
use Rattle.std.proofs.str.Laws.{order}
use Rattle.std.proofs.lemmas.List.{take_at, drop_at, length-map}
use Rattle.theory.specs.Syntax.{Term}
use Rattle.theory.specs.Emit.{Tables, emit, empty, rows_of}
use Rattle.grammar.specs.declared.bytes.Class.TheVariants.{Space, Digit, Letter}
use Rattle.grammar.specs.declared.fault.Fault.{Fault}
use Rattle.grammar.specs.declared.fault.Fault.TheVariants.{TooLong, BadByte, BadNumber, Misplaced, TooDeep, NoTypeRow, NoTermRow}
use Rattle.grammar.specs.Bytes.{run}
use Rattle.grammar.specs.Tokens.{Tok, Step, over, took, refused, token, trimmed}
use Rattle.grammar.specs.Reader.{Maker, Bracket, a_term, a_type, wanted, Turn, go, done, stop, opened, made, made_type, turn, Outcome, refused_at, reading, read}
use Rattle.grammar.specs.TableMaker.{into_tables}
use Rattle.grammar.specs.TermTokens.{toks, depth}
use Rattle.grammar.specs.Renders.{spelling, Written, space, Renders}
use Rattle.grammar.specs.Theorems.{outcome_within}
use Rattle.grammar.specs.Refusals.{width, end_at, Alike, Begins, UpTo, fault_of, given, Means, Rightly, RefusesRightly}
use Rattle.grammar.proofs.Driven.{driven}
use Rattle.grammar.proofs.Found.{finds}
use Rattle.grammar.proofs.Lexed.{Right, right}
use Rattle.grammar.proofs.Spelt.{Spells, end, next, spells}
use Rattle.grammar.proofs.Laid.{emitted}
use Rattle.grammar.proofs.Follows.{Good, walk, eb, other, wanted_other, good_other, After, turn_after, Kept, walk_after, Still, still, keeps}
use Rattle.grammar.proofs.Widths.{Lexical, lexical, width_is, token_some, Same, Fronts, fronts, parted, take_past}
use Rattle.grammar.proofs.Halts.{Before, start, Instead, run_instead, fits_instead, before_instead, joins, before_more, none_over, parts, Halt, Halted, halts}
use Rattle.grammar.proofs.Completes.{any, Open, Told, spaced, spaced_written, Completes, completed, given as taken, given_type, completes}
use Rattle.grammar.proofs.Past.{Live, give_live, give_type_live, reached}
use Rattle.grammar.proofs.Walks.{walk_stop, walk_append, no_go, no_stop, drive_walk, walk_drive, wider, widens, Can, free, frees}

-- ---- what begins the text of a term

space_instead : (rest cs : List ℕ) → Instead rest (32 ∷ cs)
space_instead rest cs = record { letters = λ e. refl; digits = λ e. refl }

begins : (room : ℕ) (pre : List ℕ) (ts : List Tok) → ((cs : List ℕ) → Before (32 ∷ cs) pre ts) → Completes room (walk any room ts (go tt [])) → Begins pre
begins room pre ts b c =
    let us = c.tokens in
    let d = finds any room (ts ++ us) tt (tt, tt) (walk_drive any room (ts ++ us) tt [] tt tt (walk_append any room ts us (go tt []) ∙ c.walked)) in
    (spaced us, d.term, subst (Written (pre ++ 32 ∷ spaced us)) d.split (joins (b (spaced us)) (space (spaced_written us c.plain))))

-- ---- two texts with the same bytes up to a place, read to it

unspaced : (bs : List ℕ) → run Space bs ≡ 0 → trimmed bs ≡ bs
unspaced bs e = ap (λ n. drop n bs) e

none_left : (bs : List ℕ) (vs : List Tok) → token (trimmed bs) ≡ over → Spells bs vs → vs ≡ []
none_left bs vs h (end e) = refl
none_left bs vs h (next e s) = let z : ◌≡◌ {A = ℕ} 0 1 = cc in absurd (omega arith)

one_left : (bs cs : List ℕ) (vs : List Tok) (t : Tok) → token (trimmed bs) ≡ took t cs → Spells bs vs → (us : List Tok) × (vs ≡ t ∷ us)
one_left bs cs vs t h (end e) = let z : ◌≡◌ {A = ℕ} 0 1 = cc in absurd (omega arith)
one_left bs cs vs t h (next {t = u} {ts = us} e s) = let a : u ≡ t = cc in (us, ap (λ x. x ∷ us) a)

not_left : (bs : List ℕ) (vs : List Tok) (k : Fault) → token (trimmed bs) ≡ refused k → Spells bs vs → ⊥
not_left bs vs k h (end e) = let z : ◌≡◌ {A = ℕ} 0 1 = cc in omega arith
not_left bs vs k h (next e s) = let z : ◌≡◌ {A = ℕ} 0 1 = cc in omega arith

-- the reading of a text that is not too long, by whether there is a type row
in_bounds : (types terms opens : ℕ) (bs : List ℕ) → length bs ≤ 16384 → (b : Bool) → eqb types 0 ≡ b → outcome_within 16384 1024 2048 types terms opens bs ≡ cond b (refused_at NoTypeRow 0) (read (into_tables (min types 1024) (min terms 2048)) opens (length bs) bs empty)
in_bounds types terms opens bs short b e =
    ap (λ b. cond b (refused_at TooLong 16384) (cond (eqb types 0) (refused_at NoTypeRow 0) (read (into_tables (min types 1024) (min terms 2048)) opens (length bs) bs empty))) (le-ltb 16384 (length bs) short)
    ∙ ap (λ b. cond b (refused_at NoTypeRow 0) (read (into_tables (min types 1024) (min terms 2048)) opens (length bs) bs empty)) e

-- rows are handed over, and a text is refused as it is read
module _ (types terms opens : ℕ) (bs : List ℕ) (short : length bs ≤ 16384) (some : 0 < types) (f : Fault) (p : ℕ) (h : read (into_tables (min types 1024) (min terms 2048)) opens (length bs) bs empty ≡ refused_at f p) where
  abbrev t : ℕ
  t = min types 1024

  abbrev u : ℕ
  u = min terms 2048

  abbrev m : Maker Tables ℕ ℕ
  m = into_tables t u

  halted : Halted m opens (length bs) bs empty [] f p
  halted = halts m opens (length bs) (suc (length bs)) bs empty [] f p (omega arith) h

  abbrev pre : List ℕ
  pre = halted.passed.front

  abbrev rest : List ℕ
  rest = halted.rest

  abbrev ts : List Tok
  ts = halted.tokens

  b : Before rest pre ts
  b = halted.passed.before

  abbrev Halt' : Turn Tables ℕ ℕ → Step → Fault → Type 0
  Halt' = Halt m opens (length bs)

  -- what is out of bounds for a fault: no term where it is of the text, else one that takes more rows than there are
  abbrev Lacking : Fault → Term → Type 0
  Lacking TooLong e = ⊥
  Lacking BadByte e = ⊥
  Lacking BadNumber e = ⊥
  Lacking Misplaced e = ⊥
  Lacking TooDeep e = opens < depth e
  Lacking NoTypeRow e = t < length (rows_of e).0
  Lacking NoTermRow e = u < length (rows_of e).1

  -- a text that goes on in the same way is not the text of a term for which there is room
  module _ (j : Fault) (halt : Halt' halted.at (token rest) j) where
    module _ (t' u' opens' : ℕ) (ht : t ≤ t') (hu : u ≤ u') (ho : opens ≤ opens') where
      abbrev m' : Maker Tables ℕ ℕ
      m' = into_tables t' u'

      abbrev Still' : Type 0
      Still' = Still (wider t u t' u') m m' opens opens' (widens t u t' u' ht hu) ho j

      abbrev Kept' : Turn Tables ℕ ℕ → Turn Tables ℕ ℕ → Type 0
      Kept' = Kept (wider t u t' u') m m' opens opens' (widens t u t' u' ht hu) ho

      abbrev After' : List (Bracket ℕ ℕ) → Turn Tables ℕ ℕ → Turn Tables ℕ ℕ → Type 0
      After' = After (wider t u t' u') m m' opens opens'

      abbrev other' : List (Bracket ℕ ℕ) → List (Bracket ℕ ℕ)
      other' = other (wider t u t' u')

      module _ (k : Still') (behind : List ℕ) (fr : Fronts rest behind) (x : Tables) (y : ℕ) (vs : List Tok) (sp : Spells behind vs) where
        lexes : token (trimmed behind) ≡ token behind
        lexes = ap token (unspaced behind (fr.none Space halted.clear))

        by : (a : Turn Tables ℕ ℕ) (st : Step) → Halt' a st j → Same st (token behind) → (d : Turn Tables ℕ ℕ) → Kept' a d → walk m' opens' vs d ≡ done x y → ⊥
        by (stop i) st h q d c w = h
        by (go s fs) over h q d c w = no_go m' opens' s (other' fs) x y (sym (ap (λ l. walk m' opens' l d) (none_left behind vs (lexes ∙ q) sp) ∙ c.0) ∙ w)
        by (go s fs) (took v cs) h q d c w =
            let o = one_left behind q.0 vs v (lexes ∙ q.1) sp in
            let a : After' fs (stop j) (turn m' opens' v s (other' fs)) = subst (λ c. After' fs c (turn m' opens' v s (other' fs))) h (turn_after (wider t u t' u') m m' opens opens' (widens t u t' u' ht hu) ho v s fs c.1) in
            let e = still (wider t u t' u') m m' opens opens' (widens t u t' u' ht hu) ho fs j (turn m' opens' v s (other' fs)) k a in
            let is : walk m' opens' vs d ≡ stop j = ap (λ l. walk m' opens' l d) o.1 ∙ ap (walk m' opens' (v ∷ o.0)) c.0 ∙ ap (walk m' opens' o.0) e ∙ walk_stop m' opens' o.0 j in
            no_stop m' opens' j x y (sym is ∙ w)
        by (go s fs) (refused i) h q d c w = not_left behind vs i (lexes ∙ q) sp
        by (done s z) over h q d c w = h
        by (done s z) (took v cs) h q d c w =
            let o = one_left behind q.0 vs v (lexes ∙ q.1) sp in
            no_stop m' opens' Misplaced x y (sym (ap (λ l. walk m' opens' l d) o.1 ∙ ap (walk m' opens' (v ∷ o.0)) c) ∙ w)
        by (done s z) (refused i) h q d c w = not_left behind vs i (lexes ∙ q) sp

      -- with more room of the kind that is lacking, a reading goes on behind the place
      abbrev Roomier : Fault → Type 0
      Roomier TooLong = ⊥
      Roomier BadByte = ⊥
      Roomier BadNumber = ⊥
      Roomier Misplaced = ⊥
      Roomier TooDeep = opens < opens'
      Roomier NoTypeRow = t < t'
      Roomier NoTermRow = u < u'

      lively : (fs : List (Bracket ℕ ℕ)) (d : Turn Tables ℕ ℕ) (k : Fault) → Roomier k → After' fs (stop k) d → Live d
      lively fs d TooLong r a = absurd r
      lively fs d BadByte r a = absurd r
      lively fs d BadNumber r a = absurd r
      lively fs d Misplaced r a = absurd r
      lively fs d TooDeep r a =
          let n = length-map fs (eb (wider t u t' u')) in
          let k = a.3 in
          subst Live (sym (a.2 ∙ ap (λ b. cond b (go a.0 (eb (wider t u t' u') a.1 ∷ other' fs)) (stop TooDeep)) (lt-ltb (length (other' fs)) opens' (omega arith)))) tt
      lively fs d NoTypeRow r a =
          let p = a.3.1 r in
          subst Live (sym (a.2 ∙ ap (λ o. made_type o (other' a.1)) p.1)) (give_type_live p.0.0 p.0.1 (other' a.1) (wanted_other (wider t u t' u') a.1 ∙ a.4))
      lively fs d NoTermRow r a =
          let p = a.3.1 r in
          subst Live (sym (a.2 ∙ ap (λ o. made o (other' a.1)) p.1)) (give_live p.0.0 p.0.1 (other' a.1) (wanted_other (wider t u t' u') a.1 ∙ a.4))

      no_lexical : (k : Fault) → Lexical k → Roomier k → ⊥
      no_lexical TooLong l r = l
      no_lexical BadByte l r = r
      no_lexical BadNumber l r = r
      no_lexical Misplaced l r = l
      no_lexical TooDeep l r = l
      no_lexical NoTypeRow l r = l
      no_lexical NoTermRow l r = l

      keeping : Kept' halted.at (walk m' opens' ts (go empty []))
      keeping = subst (λ a. Kept' a (walk m' opens' ts (go empty []))) halted.walked (walk_after (wider t u t' u') m m' opens opens' (widens t u t' u' ht hu) ho ts (go empty []) (go empty []) (refl, (tt, (omega arith, omega arith), omega arith)))

      further : Roomier j → (g : Fault) (q : ℕ) → length rest ≤ length bs → (n : ℕ) → length (pre ++ rest) < n → reading m' opens' (length bs) n (pre ++ rest) empty [] ≡ refused_at g q → length bs - length rest < q
      further r g q l n short h = from halted.at (token rest) refl halt keeping
        where
          from : (a : Turn Tables ℕ ℕ) (st : Step) → token rest ≡ st → Halt' a st j → Kept' a (walk m' opens' ts (go empty [])) → length bs - length rest < q
          from (go s fs) over e x c = absurd (subst Roomier x r)
          from (go s fs) (took v cs) e x c =
              let a : After' fs (stop j) (turn m' opens' v s (other' fs)) = subst (λ c. After' fs c (turn m' opens' v s (other' fs))) x (turn_after (wider t u t' u') m m' opens opens' (widens t u t' u' ht hu) ho v s fs c.1) in
              let i = subst (Right rest) e (right rest) in
              let is : pre ++ rest ≡ (pre ++ spelling v) ++ cs = ap (λ x. pre ++ x) i.0 ∙ sym (append_assoc pre (spelling v) cs) in
              let to : walk m' opens' (ts ++ v ∷ []) (go empty []) ≡ turn m' opens' v s (other' fs) = walk_append m' opens' ts (v ∷ []) (go empty []) ∙ ap (walk m' opens' (v ∷ [])) c.0 in
              let k = reached m' opens' (length bs) g q (before_more v cs i.1 (subst (λ x. Before x pre ts) i.0 b)) n empty [] (subst Live (sym to) (lively fs (turn m' opens' v s (other' fs)) j r a)) (subst (λ x. length x < n) is short) (ap (λ x. reading m' opens' (length bs) n x empty []) (sym is) ∙ h) in
              let j = ap length i.0 ∙ length-append (spelling v) cs in
              let w = width_is rest cs v e in
              let z = token_some rest v cs e in
              omega arith
          from (go s fs) (refused k) e x c = absurd (no_lexical k (lexical rest k e) (subst Roomier x r))
          from (done s y) over e x c = absurd x
          from (done s y) (took v cs) e x c = absurd (subst Roomier x r)
          from (done s y) (refused k) e x c = absurd (no_lexical k (lexical rest k e) (subst Roomier x r))
          from (stop k) st e x c = absurd x

      refuted : Still' → (behind : List ℕ) → Fronts rest behind → (e : Term) → Renders (pre ++ behind) e → length (rows_of e).0 ≤ t' → length (rows_of e).1 ≤ u' → depth e ≤ opens' → ⊥
      refuted k behind fr e r et eu eo =
          let q = parts (before_instead behind (record { letters = fr.none Letter; digits = fr.none Digit }) b) (spells r) in
          let w = drive_walk m' opens' (toks e) empty [] (emit e empty) (driven m' opens' e empty eo ∙ (emitted t' u' e).gives empty (et, eu)) in
          by k behind fr (rows_of e) (emit e empty).1 q.others q.spells halted.at (token rest) halt fr.same (walk m' opens' ts (go empty [])) keeping
          (sym (walk_append m' opens' ts q.others (go empty [])) ∙ ap (λ l. walk m' opens' l (go empty [])) (sym q.split) ∙ w)

    -- nor of any, where rows do not matter
    never : (behind : List ℕ) → Fronts rest behind → (e : Term) → (((t' u' opens' : ℕ) (ht : t ≤ t') (hu : u ≤ u') (ho : opens ≤ opens') → Still' t' u' opens' ht hu ho)) → Renders (pre ++ behind) e → ⊥
    never behind fr e k r =
        let t' = max t (length (rows_of e).0) in
        let u' = max u (length (rows_of e).1) in
        let opens' = max opens (depth e) in
        refuted t' u' opens' (omega arith) (omega arith) (omega arith) (k t' u' opens' (omega arith) (omega arith) (omega arith)) behind fr e r (omega arith) (omega arith) (omega arith)

  lacking : (j : Fault) → Halt' halted.at (token rest) j → (behind : List ℕ) → Fronts rest behind → (e : Term) → Renders (pre ++ behind) e → Lacking j e
  lacking TooLong h behind fr e r = never TooLong h behind fr e (λ t' u' opens' ht hu ho. tt) r
  lacking BadByte h behind fr e r = never BadByte h behind fr e (λ t' u' opens' ht hu ho. tt) r
  lacking BadNumber h behind fr e r = never BadNumber h behind fr e (λ t' u' opens' ht hu ho. tt) r
  lacking Misplaced h behind fr e r = never Misplaced h behind fr e (λ t' u' opens' ht hu ho. tt) r
  lacking TooDeep h behind fr e r =
      ⊎_elim (λ l. l) (λ l. absurd (refuted TooDeep h (max t (length (rows_of e).0)) (max u (length (rows_of e).1)) opens (omega arith) (omega arith) (omega arith) (omega arith) behind fr e r (omega arith) (omega arith) l)) (order opens (depth e))
  lacking NoTypeRow h behind fr e r =
      ⊎_elim (λ l. l) (λ l. absurd (refuted NoTypeRow h t (max u (length (rows_of e).1)) (max opens (depth e)) (omega arith) (omega arith) (omega arith) (λ o few. few.0 (omega arith)) behind fr e r l (omega arith) (omega arith))) (order t (length (rows_of e).0))
  lacking NoTermRow h behind fr e r =
      ⊎_elim (λ l. l) (λ l. absurd (refuted NoTermRow h (max t (length (rows_of e).0)) u (max opens (depth e)) (omega arith) (omega arith) (omega arith) (λ o few. few.0 (omega arith)) behind fr e r (omega arith) l (omega arith))) (order u (length (rows_of e).1))

  -- ---- the text before the place

  module _ (room : ℕ) (more : opens ≤ room) where
    abbrev bracket : Bracket ℕ ℕ → Open
    bracket = eb free

    abbrev others : List (Bracket ℕ ℕ) → List Open
    others = other free

    abbrev Freed : Turn Tables ℕ ℕ → Told → Type 0
    Freed = Kept free m any opens room (frees m) more

    freed : (at : Turn Tables ℕ ℕ) → walk m opens ts (go empty []) ≡ at → Freed at (walk any room ts (go tt []))
    freed at w = subst (λ a. Freed a (walk any room ts (go tt []))) w (walk_after free m any opens room (frees m) more ts (go empty []) (go tt []) (refl, (tt, tt, omega arith)))

    completes_good : (fs : List (Bracket ℕ ℕ)) → Good fs → Completes room (go tt (others fs))
    completes_good fs g = completes room (others fs) (good_other free fs g)

    alive : (at : Turn Tables ℕ ℕ) (st : Step) → walk m opens ts (go empty []) ≡ at → Halt' at st f → Completes room (walk any room ts (go tt []))
    alive (go s fs) st w h = let c = freed (go s fs) w in subst (Completes room) (sym c.0) (completes_good fs c.1.0)
    alive (done s y) st w h = subst (Completes room) (sym (freed (done s y) w)) (completed room)
    alive (stop j) st w h = absurd h

    -- what a token would lead to if there were a row for it
    deep : (fs : List (Bracket ℕ ℕ)) (b : Bracket ℕ ℕ) (d : Told) → length fs < room → d ≡ opened room (bracket b) tt (others fs) → Good (b ∷ fs) → Completes room d
    deep fs b d l e g =
        let n = length-map fs bracket in
        subst (Completes room) (sym (e ∙ ap (λ t. cond t (go tt (bracket b ∷ others fs)) (stop TooDeep)) (lt-ltb (length (others fs)) room (omega arith)))) (completes_good (b ∷ fs) g)

    typed : (o : Option (Unit {0} × Unit {0})) (fs : List (Bracket ℕ ℕ)) (d : Told) → d ≡ made_type o (others fs) → Can o → wanted fs ≡ a_type → Good fs → Completes room d
    typed o fs d e c w g =
        subst (Completes room) (sym (e ∙ ap (λ o. made_type o (others fs)) c))
        (given_type room (others fs) (good_other free fs g) (wanted_other free fs ∙ w))

    termed : (o : Option (Unit {0} × Unit {0})) (fs : List (Bracket ℕ ℕ)) (d : Told) → d ≡ made o (others fs) → Can o → wanted fs ≡ a_term → Good fs → Completes room d
    termed o fs d e c w g =
        subst (Completes room) (sym (e ∙ ap (λ o. made o (others fs)) c))
        (taken room (others fs) (good_other free fs g) (wanted_other free fs ∙ w))

  before : Begins pre
  before = begins opens pre ts (λ cs. before_instead (32 ∷ cs) (space_instead rest cs) b) (alive opens (omega arith) halted.at (token rest) halted.walked halted.halt)

  lives : (at : Turn Tables ℕ ℕ) (st : Step) → walk m opens ts (go empty []) ≡ at → Halt' at st f → Live (walk m opens ts (go empty []))
  lives (go s fs) st w h = subst Live (sym w) tt
  lives (done s y) st w h = subst Live (sym w) tt
  lives (stop k) st w h = absurd h

  -- ---- what stands there

  abbrev Stood : Fault → Type 0
  Stood TooLong = ⊥
  Stood BadByte = fault_of (token rest) ≡ BadByte
  Stood BadNumber = fault_of (token rest) ≡ BadNumber
  Stood Misplaced = fault_of (token rest) ≡ Misplaced
  Stood TooDeep = Begins (pre ++ take (width rest) rest)
  Stood NoTypeRow = Begins (pre ++ take (width rest) rest)
  Stood NoTermRow = Begins (pre ++ take (width rest) rest)

  lexed : (k : Fault) → token rest ≡ refused k → Stood k
  lexed TooLong e = lexical rest TooLong e
  lexed BadByte e = ap fault_of e
  lexed BadNumber e = ap fault_of e
  lexed Misplaced e = ap fault_of e
  lexed TooDeep e = absurd (lexical rest TooDeep e)
  lexed NoTypeRow e = absurd (lexical rest NoTypeRow e)
  lexed NoTermRow e = absurd (lexical rest NoTermRow e)

  -- the token at the place, where it may stand
  module _ (v : Tok) (cs : List ℕ) (s : Tables) (fs : List (Bracket ℕ ℕ)) (e : token rest ≡ took v cs) (w : walk m opens ts (go empty []) ≡ go s fs) where
    abbrev room : ℕ
    room = opens + suc (length fs)

    abbrev led : Told
    led = turn any room v tt (others room (omega arith) fs)

    with_token : Completes room led → Begins (pre ++ take (width rest) rest)
    with_token c =
        let r = subst (Right rest) e (right rest) in
        let is : take (width rest) rest ≡ spelling v = ap (take (width rest)) r.0 ∙ take_at (spelling v) cs (width rest) (sym (width_is rest cs v e)) in
        subst (λ l. Begins (pre ++ l)) (sym is)
        (begins room (pre ++ spelling v) (ts ++ v ∷ [])
        (λ ds. before_more v (32 ∷ ds) (fits_instead v [] cs (32 ∷ ds) (space_instead cs ds) r.1)
        (before_instead (spelling v ++ 32 ∷ ds) (record { letters = run_instead Letter (spelling v) cs (32 ∷ ds) (λ q. refl); digits = run_instead Digit (spelling v) cs (32 ∷ ds) (λ q. refl) }) (subst (λ l. Before l pre ts) r.0 b)))
        (subst (Completes room) (sym (walk_append any room ts (v ∷ []) (go tt []) ∙ ap (walk any room (v ∷ [])) (freed room (omega arith) (go s fs) w).0)) c))

    turned : (j : Fault) → After free m any opens room fs (stop j) led → Stood j
    turned TooLong a = a
    turned BadByte a = absurd a
    turned BadNumber a = absurd a
    turned Misplaced a = ap fault_of e
    turned TooDeep a = with_token (deep room (omega arith) fs a.1 led (omega arith) a.2 a.4)
    turned NoTypeRow a = with_token (typed room (omega arith) a.0 a.1 led a.2 a.3 a.4 a.5)
    turned NoTermRow a = with_token (termed room (omega arith) a.0 a.1 led a.2 a.3 a.4 a.5)

    stopped : turn m opens v s fs ≡ stop f → Stood f
    stopped h = turned f (subst (λ c. After free m any opens room fs c led) h (turn_after free m any opens room (frees m) (omega arith) v s fs (freed room (omega arith) (go s fs) w).1))

  stood : (at : Turn Tables ℕ ℕ) (st : Step) → token rest ≡ st → walk m opens ts (go empty []) ≡ at → Halt' at st f → Stood f
  stood (go s fs) over e w h = subst Stood (sym h) (ap fault_of e)
  stood (go s fs) (took v cs) e w h = stopped v cs s fs e w h
  stood (go s fs) (refused k) e w h = subst Stood (sym h) (lexed k e)
  stood (done s y) over e w h = absurd h
  stood (done s y) (took v cs) e w h = subst Stood (sym h) (ap fault_of e)
  stood (done s y) (refused k) e w h = subst Stood (sym h) (lexed k e)
  stood (stop k) st e w h = absurd h

  -- ---- the theorem

  is : bs ≡ pre ++ rest
  is = halted.passed.split

  long : length pre ≡ p
  long =
      let a = ap length is ∙ length-append pre rest in
      let q = halted.place in
      omega arith

  drop_is : drop p bs ≡ rest
  drop_is = ap (drop p) is ∙ drop_at pre rest p long

  end_is : end_at bs p ≡ length pre + width rest
  end_is = let w = ap width drop_is in let l = long in omega arith

  take_end : take (end_at bs p) bs ≡ pre ++ take (width rest) rest
  take_end = ap (take (end_at bs p)) is ∙ take_past pre rest (width rest) (end_at bs p) end_is

  abbrev Out : Term → Type 0
  Out = Lacking f

  alike : (cs : List ℕ) → Alike p bs cs → (e : Term) → Renders cs e → Out e
  alike cs q e r =
      let c = parted pre rest cs (width rest) (end_at bs p) end_is (q.0 ∙ ap (take (end_at bs p)) is) in
      let d = ap width (ap (drop p) c.split ∙ drop_at pre c.behind p long) in
      let w = ap width drop_is in
      let ends = q.1 in
      lacking f halted.halt c.behind
      (fronts rest c.behind (omega arith) c.alike) e (subst (λ l. Renders l e) c.split r)

  module _ (types' terms' opens' : ℕ) (ht : types ≤ types') (hu : terms ≤ terms') (ho : opens ≤ opens') where
    more_types : min types 1024 ≤ min types' 1024
    more_types = omega arith

    more_terms : min terms 2048 ≤ min terms' 2048
    more_terms = omega arith

    abbrev Still'' : Fault → Type 0
    Still'' =
        Still (wider t u (min types' 1024) (min terms' 2048)) m (into_tables (min types' 1024) (min terms' 2048)) opens opens'
        (widens t u (min types' 1024) (min terms' 2048) more_types more_terms) ho

    as_few : (g : Fault) → given 16384 1024 2048 g types' terms' opens' ≡ given 16384 1024 2048 g types terms opens → Still'' g
    as_few TooLong q = tt
    as_few BadByte q = tt
    as_few BadNumber q = tt
    as_few Misplaced q = tt
    as_few TooDeep q = omega arith
    as_few NoTypeRow q = λ o full. full.0 (omega arith)
    as_few NoTermRow q = λ o full. full.0 (omega arith)

    helpless : given 16384 1024 2048 f types' terms' opens' ≡ given 16384 1024 2048 f types terms opens → outcome_within 16384 1024 2048 types' terms' opens' bs ≡ refused_at f p
    helpless few =
        in_bounds types' terms' opens' bs short false (ne_eqb types' 0 (λ e. omega arith))
        ∙ keeps (wider t u (min types' 1024) (min terms' 2048)) m (into_tables (min types' 1024) (min terms' 2048)) opens opens'
        (widens t u (min types' 1024) (min terms' 2048) more_types more_terms) ho (length bs) f p (as_few f few) (suc (length bs)) bs empty [] (tt, (omega arith, omega arith), omega arith) h

    roomier : (k : Fault) → given 16384 1024 2048 k types terms opens < given 16384 1024 2048 k types' terms' opens'
        → Roomier f halted.halt (min types' 1024) (min terms' 2048) opens' more_types more_terms ho k
    roomier TooLong r = absurd (omega arith)
    roomier BadByte r = absurd (omega arith)
    roomier BadNumber r = absurd (omega arith)
    roomier Misplaced r = absurd (omega arith)
    roomier TooDeep r = r
    roomier NoTypeRow r = r
    roomier NoTermRow r = r

    goes_past : given 16384 1024 2048 f types terms opens < given 16384 1024 2048 f types' terms' opens' → (g : Fault) (q : ℕ) → outcome_within 16384 1024 2048 types' terms' opens' bs ≡ refused_at g q → p < q
    goes_past r g q o =
        let l = ap length is ∙ length-append pre rest in
        let reads : read (into_tables (min types' 1024) (min terms' 2048)) opens' (length bs) bs empty ≡ refused_at g q = sym (in_bounds types' terms' opens' bs short false (ne_eqb types' 0 (λ e. omega arith))) ∙ o in
        let k = further f halted.halt (min types' 1024) (min terms' 2048) opens' more_types more_terms ho (roomier f r) g q (omega arith) (suc (length bs)) (let e = ap length is in omega arith) (ap (λ l. reading (into_tables (min types' 1024) (min terms' 2048)) opens' (length bs) (suc (length bs)) l empty []) (sym is) ∙ reads) in
        let e = halted.place in
        omega arith

  reaches : (cs : List ℕ) → length (take p bs ++ 32 ∷ cs) ≤ 16384 → (g : Fault) (q : ℕ) → outcome_within 16384 1024 2048 types terms opens (take p bs ++ 32 ∷ cs) ≡ refused_at g q → p ≤ q
  reaches cs l g q o =
      let to : take p bs ≡ pre = ap (take p) is ∙ take_at pre rest p long in
      let fits : length (pre ++ 32 ∷ cs) ≤ 16384 = subst (λ x. length (x ++ 32 ∷ cs) ≤ 16384) to l in
      let reads : read m opens (length (pre ++ 32 ∷ cs)) (pre ++ 32 ∷ cs) empty ≡ refused_at g q = sym (in_bounds types terms opens (pre ++ 32 ∷ cs) fits false (ne_eqb types 0 (λ e. omega arith))) ∙ ap (λ x. outcome_within 16384 1024 2048 types terms opens (x ++ 32 ∷ cs)) (sym to) ∙ o in
      let k = reached m opens (length (pre ++ 32 ∷ cs)) g q (before_instead (32 ∷ cs) (space_instead rest cs) halted.passed.before) (suc (length (pre ++ 32 ∷ cs))) empty []
      (lives halted.at (token rest) halted.walked halted.halt) (omega arith) reads in
      let n = length-append pre (32 ∷ cs) in
      let e = long in
      omega arith

  up_to : UpTo bs p Out
  up_to = record {
    within = let l = ap length is ∙ length-append pre rest in let q = long in omega arith;
    apart = λ i l.
        let e = ap (λ l. width (drop i l)) is in
        let k = long in
        let h = none_over halted.passed.before i (omega arith) in
        omega arith;
    before = subst Begins (sym (ap (take p) is ∙ take_at pre rest p long)) before;
    there = alike;
  }

  means : (g : Fault) → Stood g
      → UpTo bs p (Lacking g) → Means 16384 1024 2048 types terms opens bs g p
  means TooLong a o = a
  means BadByte a o = (ap (λ l. fault_of (token l)) drop_is ∙ a, o)
  means BadNumber a o = (ap (λ l. fault_of (token l)) drop_is ∙ a, o)
  means Misplaced a o = (ap (λ l. fault_of (token l)) drop_is ∙ a, o)
  means TooDeep a o = (λ q. subst Begins (sym take_end) a, o)
  means NoTypeRow a o = (λ q. subst Begins (sym take_end) a, o)
  means NoTermRow a o = (λ q. subst Begins (sym take_end) a, o)

  read_rightly : Rightly 16384 1024 2048 types terms opens bs f p
  read_rightly = record {
    long = λ l. absurd (omega arith);
    short = λ s. means f (stood halted.at (token rest) refl halted.walked halted.halt) up_to;
    reached = reaches;
    rows = helpless;
    past = λ types' terms' opens' q. goes_past types' terms' opens';
  }

module _ (types terms opens : ℕ) (bs : List ℕ) (short : length bs ≤ 16384) where
  -- no type row is handed over, not even for nat
  rowless : types ≡ 0 → Rightly 16384 1024 2048 types terms opens bs NoTypeRow 0
  rowless none = record {
    long = λ l. absurd (omega arith);
    short = λ s. (
      λ some. absurd (omega arith),
      record {
        within = omega arith;
        apart = λ i l. absurd (omega arith);
        before = begins 0 [] [] (λ cs. start) (completes 0 [] tt);
        there = λ cs q e r. let g = (emitted 0 0 e).grows empty in omega arith;
      },
    );
    reached = λ cs l g q o. omega arith;
    rows = λ types' terms' opens' ht hu ho few. in_bounds types' terms' opens' bs short true (eq-eqb types' 0 (omega arith));
    past = λ types' terms' opens' some ht hu ho r. absurd (omega arith);
  }

too_long : (types terms opens : ℕ) (bs : List ℕ) → 16384 < length bs → Rightly 16384 1024 2048 types terms opens bs TooLong 16384
too_long types terms opens bs h = record {
  long = λ l. (refl, refl);
  short = λ s. absurd (omega arith);
  reached = λ cs l g q o.
      let n = length-append (take 16384 bs) (32 ∷ cs) in
      let k = length-take 16384 bs in
      absurd (omega arith);
  rows = λ types' terms' opens' ht hu ho few. ap (λ b. cond b (refused_at TooLong 16384) (cond (eqb types' 0) (refused_at NoTypeRow 0) (read (into_tables (min types' 1024) (min terms' 2048)) opens' (length bs) bs empty))) (lt-ltb 16384 (length bs) h);
  past = λ types' terms' opens' some ht hu ho r. absurd (omega arith);
}

pub refuses_rightly : RefusesRightly 16384 1024 2048
refuses_rightly types terms opens bs f p h = by (ltb 16384 (length bs)) (eqb types 0) refl refl h
  where
    moved : (k : Fault) (q : ℕ) → Rightly 16384 1024 2048 types terms opens bs k q → ◌≡◌ {A = Outcome Tables ℕ} (refused_at k q) (refused_at f p) → Rightly 16384 1024 2048 types terms opens bs f p
    moved k q r h =
        let a : k ≡ f = cc in
        let b : q ≡ p = cc in
        subst (λ g. Rightly 16384 1024 2048 types terms opens bs g p) a (subst (Rightly 16384 1024 2048 types terms opens bs k) b r)

    by : (l n : Bool) → ltb 16384 (length bs) ≡ l → eqb types 0 ≡ n
        → cond l (refused_at TooLong 16384) (cond n (refused_at NoTypeRow 0) (read (into_tables (min types 1024) (min terms 2048)) opens (length bs) bs empty)) ≡ refused_at f p
        → Rightly 16384 1024 2048 types terms opens bs f p
    by true n e g h = moved TooLong 16384 (too_long types terms opens bs (ltb-true 16384 (length bs) e)) h
    by false true e g h = moved NoTypeRow 0 (rowless types terms opens bs (ltb-false 16384 (length bs) e) (eqb-true types 0 g)) h
    by false false e g h =
        let ne = eqb-false types 0 g in
        let some : 0 < types = grind arith in
        read_rightly types terms opens bs (ltb-false 16384 (length bs) e) some f p h
