-- What a run that is going may do, and how advances follow each other.
use Rattle.std.proofs.Common.{◌≡◌, ℕ, zero, suc, ◌+◌, Bool, true, false, cond, ltb, leb, ◌≢◌, List, [], ◌∷◌, length, refl, ap, ◌∙◌, arith, ltb-false, leb-false}
use Rattle.runs.specs.Standings.{Status, number, failed, spent, tall, full, going}
use Rattle.environments.specs.Values as V
use Rattle.environments.specs.Frames.{Frame}
use Rattle.environments.specs.Modes.{Mode}
use Rattle.environments.specs.Modes as M
use Rattle.environments.specs.States.{step}
use Rattle.environments.specs.Runs.{Standing, adds, makes, held, ended_or, status, onto, if-going, once, advanced}
use Rattle.environments.specs.Laws.{GoingAllows, HaltedStays, AdvancesJoin}
use Rattle.environments.proofs.Steps.{clash}

-- A run that is going is at no end.
not_ended : (x : Mode) (k : List Frame) (t : Status) → ended_or x k t ≡ going → t ≡ going
not_ended (M.Eval c) k t e = e
not_ended (M.Return (V.Number n)) [] t e = clash (cc)
not_ended (M.Return (V.Number n)) (f ∷ k) t e = e
not_ended (M.Return (V.Lam T a x)) k t e = e
not_ended (M.Return (V.Pair i)) k t e = e
not_ended M.Fail [] t e = clash (cc)
not_ended M.Fail (f ∷ k) t e = e

-- None of three limits holds it.
none_holds : (a b c : Bool) → cond a spent (cond b tall (cond c full going)) ≡ going
    → (a ≡ false) × (b ≡ false) × (c ≡ false)
none_holds true b c e = clash (cc)
none_holds false true c e = clash (cc)
none_holds false false true e = clash (cc)
none_holds false false false e = (refl, refl, refl)

pub going_allows : GoingAllows
going_allows nodes L r e =
    let s = r.state in
    let f : ℕ = length s.stack + adds nodes s.mode in
    let c : ℕ = length s.cells + makes nodes s.mode s.stack in
    let n =
    none_holds (leb L.fuel r.steps) (ltb L.frames f) (ltb L.cells c)
    (not_ended s.mode s.stack (held nodes L r) e) in
    record {
      fuel = leb-false L.fuel r.steps n.0;
      frames = ltb-false L.frames f n.1;
      cells = ltb-false L.cells c n.2;
    }

-- A step that is not made leaves the run where it is.
rests : (t : Status) (r q : Standing) → t ≢ going → if-going t r q ≡ r
rests (number n) r q h = refl
rests failed r q h = refl
rests spent r q h = refl
rests tall r q h = refl
rests full r q h = refl
rests going r q h = absurd (h refl)

pub halted_stays : HaltedStays
unfolding advanced
halted_stays nodes M L zero r h = refl
halted_stays nodes M L (suc n) r h =
    ap (once nodes M L) (halted_stays nodes M L n r h) ∙ rests (status nodes L r) r (onto r (step nodes M r.state)) h

pub advances_join : AdvancesJoin
unfolding advanced
advances_join nodes M L a zero r = let e : a + 0 ≡ a = omega arith in ap (λ (n : ℕ). advanced nodes M L n r) e
advances_join nodes M L a (suc b) r =
    let e : a + suc b ≡ suc (a + b) = omega arith in
    ap (λ (n : ℕ). advanced nodes M L n r) e ∙ ap (once nodes M L) (advances_join nodes M L a b r)
