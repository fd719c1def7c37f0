-- What holds of the machine of a run: what it stands at is small, and its top frame takes what is returned.
use Rattle.std.proofs.Common.{◌≡◌, ℕ, true, List, ◌∷◌, map, length, Some, refl, ap, arith}
use Rattle.theory.specs.Emit.{Tables}
use Rattle.theory.specs.Laws as Tables
use Rattle.environments.specs.Nodes.{nodes_of}
use Rattle.environments.specs.NodeTerms.{terms_of}
use Rattle.environments.specs.Fits.{fits}
use Rattle.environments.specs.Laws.{Laws, Suited}
use Rattle.engine.specs.declared.state.Value.TheVariants as V
use Rattle.engine.specs.declared.state.Frame.{Frame}
use Rattle.engine.specs.declared.state.Frame.TheVariants as F
use Rattle.engine.specs.declared.state.Cell.{Cell}
use Rattle.engine.specs.declared.state.Mode.{Mode}
use Rattle.engine.specs.declared.state.Mode.TheVariants as W
use Rattle.engine.specs.View.{view_frame, view_cell, mode_of}
use Rattle.engine.specs.Stores.{top_of}
use Rattle.engine.specs.Choices.{state_at, Small, suits}

clash : {P : Type 0} → ◌≡◌ {A = ℕ} 0 1 → P
clash e = absurd (omega arith)

module _ (laws : Laws) (s : Tables) (law : Tables.Lawful s) where
  pub small : (m : Mode) (fs : List Frame) (cs : List Cell) → fits (terms_of (nodes_of s)) (nodes_of s) (state_at s (mode_of s m) fs cs) ≡ true → Small m
  small (W.Eval r e) fs cs h =
      let k = length (map (view_cell s) cs) in
      let there = (laws.row_there (nodes_of s) k r e (laws.fits_apart.out (terms_of (nodes_of s)) (nodes_of s) (state_at s (mode_of s (W.Eval r e)) fs cs) h).mode).1 in
      let low = ((laws.place_there (length (nodes_of s)) k r e).0 there).0 in
      omega (arith, low, (laws.nodes_stand s law).count, law.term_count.1)
  small _ fs cs h = tt

module _ (s : Tables) (cs : List Cell) where
  apply_suits : (m : Mode) (r e : ℕ) (k : List Frame) → Suited (state_at s (mode_of s m) (F.Apply r e ∷ k) cs) → suits m (Some (F.Apply r e)) ≡ true
  apply_suits (W.Return (V.Number n)) r e k h = let z = h.taken _ _ refl refl in clash (cc)
  apply_suits (W.Return (V.Pair i)) r e k h = let z = h.taken _ _ refl refl in clash (cc)
  apply_suits _ r e k h = refl

  calc_suits : (m : Mode) (g : Frame) (k : List Frame) → Suited (state_at s (mode_of s m) (g ∷ k) cs) → (o r e : _) → g ≡ F.CalcFirst o r e → suits m (Some (F.CalcFirst o r e)) ≡ true
  calc_suits (W.Return (V.Lam q x)) g k h o r e is = let z = h.taken _ _ refl (ap (λ (y : Frame). Some (view_frame s y)) is) in clash (cc)
  calc_suits (W.Return (V.Pair i)) g k h o r e is = let z = h.taken _ _ refl (ap (λ (y : Frame). Some (view_frame s y)) is) in clash (cc)
  calc_suits _ g k h o r e is = refl

  pub top_suits : (m : Mode) (fs : List Frame) → Suited (state_at s (mode_of s m) fs cs) → suits m (top_of fs) ≡ true
  top_suits m (F.Apply r e ∷ k) h = apply_suits m r e k h
  top_suits m (F.CalcFirst o r e ∷ k) h = calc_suits m (F.CalcFirst o r e) k h o r e refl
  top_suits m _ h = refl
