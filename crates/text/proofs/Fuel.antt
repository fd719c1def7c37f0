-- The reading, a token at a time.
use Rattle.std.proofs.Common.{◌≡◌, ℕ, zero, suc, ◌-◌, ◌<◌, List, length, refl, ap, ◌∙◌, arith}
use Rattle.grammar.specs.declared.fault.Fault.{Fault}
use Rattle.grammar.specs.declared.fault.Fault.TheVariants.{Misplaced}
use Rattle.grammar.specs.Tokens.{Tok, Step, over, took, refused, token, trimmed}
use Rattle.grammar.specs.Runs.{shorter}
use Rattle.grammar.specs.Reader.{Maker, Bracket, Turn, go, done, stop, Outcome, refused_at, turn, ended, place, reading, after_turn, after_token}

module _ {S X Y : Type 0} (m : Maker S X Y) (room long : ℕ) where
  abbrev On : Type 0
  On = List ℕ → S → List (Bracket X Y) → Outcome S Y

  same_turn : (on on' : On) (at : ℕ) (cs : List ℕ) (e : Turn S X Y) → ((s : S) (fs : List (Bracket X Y)) → on cs s fs ≡ on' cs s fs) → after_turn m room long on at cs e ≡ after_turn m room long on' at cs e
  same_turn on on' at cs (go s fs) h = h s fs
  same_turn on on' at cs (done s y) h = refl
  same_turn on on' at cs (stop k) h = refl

  same_token : (on on' : On) (at : ℕ) (bs : List ℕ) (st : Step) (s : S) (fs : List (Bracket X Y)) → token (trimmed bs) ≡ st
      → ((cs : List ℕ) (s' : S) (fs' : List (Bracket X Y)) → length cs < length bs → on cs s' fs' ≡ on' cs s' fs')
      → after_token m room long on at st s fs ≡ after_token m room long on' at st s fs
  same_token on on' at bs over s fs e h = refl
  same_token on on' at bs (refused k) s fs e h = refl
  same_token on on' at bs (took t cs) s fs e h = same_turn on on' at cs (turn m room t s fs) (λ s' fs'. h cs s' fs' (shorter bs cs t e))

  -- any two numbers of turns above the length of the text give the same
  pub enough : (n k : ℕ) (bs : List ℕ) (s : S) (fs : List (Bracket X Y)) → length bs < n → length bs < k → reading m room long n bs s fs ≡ reading m room long k bs s fs
  enough zero k bs s fs h g = absurd (omega arith)
  enough (suc n) zero bs s fs h g = absurd (omega arith)
  enough (suc n) (suc k) bs s fs h g =
      same_token (reading m room long n) (reading m room long k) (place m room long bs) bs (token (trimmed bs)) s fs refl
      (λ cs s' fs' lt. enough n k cs s' fs' (omega arith) (omega arith))

  -- what one token leads to
  module _ (bs : List ℕ) (s : S) (fs : List (Bracket X Y)) where
    pub at_over : token (trimmed bs) ≡ over → reading m room long (suc (length bs)) bs s fs ≡ refused_at Misplaced long
    at_over e = ap (λ st. after_token m room long (reading m room long (length bs)) (place m room long bs) st s fs) e

    pub at_refused : (k : Fault) → token (trimmed bs) ≡ refused k → reading m room long (suc (length bs)) bs s fs ≡ refused_at k (long - length (trimmed bs))
    at_refused k e = ap (λ st. after_token m room long (reading m room long (length bs)) (place m room long bs) st s fs) e

    module _ (t : Tok) (cs : List ℕ) (e : token (trimmed bs) ≡ took t cs) where
      at_took : (d : Turn S X Y) → turn m room t s fs ≡ d → reading m room long (suc (length bs)) bs s fs ≡ after_turn m room long (reading m room long (length bs)) (place m room long bs) cs d
      at_took d f = ap (λ st. after_token m room long (reading m room long (length bs)) (place m room long bs) st s fs) e ∙ ap (after_turn m room long (reading m room long (length bs)) (place m room long bs) cs) f

      pub at_go : (s' : S) (fs' : List (Bracket X Y)) → turn m room t s fs ≡ go s' fs' → reading m room long (suc (length bs)) bs s fs ≡ reading m room long (suc (length cs)) cs s' fs'
      at_go s' fs' f = let lt = shorter bs cs t e in at_took (go s' fs') f ∙ enough (length bs) (suc (length cs)) cs s' fs' lt (omega arith)

      pub at_done : (s' : S) (y : Y) → turn m room t s fs ≡ done s' y → reading m room long (suc (length bs)) bs s fs ≡ ended (long - length (trimmed cs)) s' y (token (trimmed cs))
      at_done s' y f = at_took (done s' y) f

      pub at_stop : (k : Fault) → turn m room t s fs ≡ stop k → reading m room long (suc (length bs)) bs s fs ≡ refused_at k (long - length (trimmed bs))
      at_stop k f = at_took (stop k) f
