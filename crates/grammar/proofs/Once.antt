-- A text goes wrong at one place at most.
use Rattle.std.proofs.Common.{◌≡◌, ℕ, zero, suc, ◌+◌, ◌-◌, ◌<◌, ◌≤◌, Bool, true, false, cond, List, [], ◌∷◌, ◌++◌, length, take, drop, sym, refl, ap, ◌∙◌, ⊎_elim, arith, length-drop, length-take}
use Rattle.std.proofs.str.Laws.{order}
use Rattle.std.proofs.lemmas.List.{take-append-le, take-take, drop-append-le, drop-take}
use Rattle.grammar.specs.declared.bytes.Class.{Class}
use Rattle.grammar.specs.declared.bytes.Class.TheVariants.{Space, Open, Close, Hash, Digit, Letter, Other}
use Rattle.grammar.specs.declared.fault.Fault.{Fault}
use Rattle.grammar.specs.Bytes.{class, alike, run}
use Rattle.grammar.specs.Tokens.{token}
use Rattle.grammar.specs.Refusals.{together, width, end_at, Alike, fault_of, WrongAt, WrongOnce}

-- ---- a text cut behind what stands at its front, with a space there

module _ (cs : List ℕ) where
  run_cut : (k : Class) → run k (32 ∷ cs) ≡ 0 → (n : ℕ) (bs : List ℕ) → run k bs ≤ n → run k (take n bs ++ 32 ∷ cs) ≡ run k bs
  run_cut k z zero bs h = omega arith
  run_cut k z (suc n) [] h = z
  run_cut k z (suc n) (b ∷ bs) h = by (alike (class b) k) (λ l. run_cut k z n bs l) h
    where
      by : (t : Bool) → (run k bs ≤ n → run k (take n bs ++ 32 ∷ cs) ≡ run k bs) → cond t (suc (run k bs)) 0 ≤ suc n → cond t (suc (run k (take n bs ++ 32 ∷ cs))) 0 ≡ cond t (suc (run k bs)) 0
      by true ih h = ap suc (ih (omega arith))
      by false ih h = refl

  together_cut : (k : Class) (b n : ℕ) (bs : List ℕ) → together k (b ∷ bs) ≤ suc n → together k (b ∷ (take n bs ++ 32 ∷ cs)) ≡ together k (b ∷ bs)
  together_cut Space b n bs h = refl
  together_cut Open b n bs h = refl
  together_cut Close b n bs h = refl
  together_cut Hash b n bs h = ap suc (run_cut Digit refl n bs (omega arith))
  together_cut Digit b n bs h = run_cut Digit refl (suc n) (b ∷ bs) h
  together_cut Letter b n bs h = run_cut Letter refl (suc n) (b ∷ bs) h
  together_cut Other b n bs h = refl

  width_cut : (n : ℕ) (bs : List ℕ) → 0 < length bs → 0 < n → width bs ≤ n → width (take n bs ++ 32 ∷ cs) ≡ width bs
  width_cut n [] s p h = absurd (omega arith)
  width_cut zero (b ∷ bs) s p h = absurd (omega arith)
  width_cut (suc n) (b ∷ bs) s p h = together_cut (class b) b n bs h

-- a text cut at p has the same at q, if that ends by p
cut_alike : (p q : ℕ) (bs cs : List ℕ) → q < p → p ≤ length bs → end_at bs q ≤ p → Alike q bs (take p bs ++ 32 ∷ cs)
cut_alike p q bs cs l w h =
    let n = length-take p bs in
    let r = length-drop q bs in
    let on : p ≡ q + (p - q) = omega arith in
    let d : drop q (take p bs ++ 32 ∷ cs) ≡ take (p - q) (drop q bs) ++ 32 ∷ cs = drop-append-le q (take p bs) (32 ∷ cs) (omega arith) ∙ ap (λ x. x ++ 32 ∷ cs) (ap (λ n. drop q (take n bs)) on ∙ drop-take q (p - q) bs) in
    let e : width (drop q (take p bs ++ 32 ∷ cs)) ≡ width (drop q bs) = ap width d ∙ width_cut cs (p - q) (drop q bs) (omega arith) (omega arith) (omega arith) in
    (take-append-le (end_at bs q) (take p bs) (32 ∷ cs) (omega arith) ∙ take-take (end_at bs q) p bs h, ap (λ x. q + x) e)

-- no place where a text goes wrong is before another
not_before : (bs : List ℕ) (f g : Fault) (p q : ℕ) → WrongAt bs f p → WrongAt bs g q → q < p → ⊥
not_before bs f g p q a b l =
    let c = a.1.before in
    b.1.there (take p bs ++ 32 ∷ c.0) (cut_alike p q bs c.0 l a.1.within (a.1.apart q l)) c.1 c.2

pub wrong_once : WrongOnce
wrong_once bs f g p q a b =
    let same : p ≡ q = ⊎_elim (λ l. absurd (not_before bs g f q p b a l)) (λ h. ⊎_elim (λ l. absurd (not_before bs f g p q a b l)) (λ k. omega arith) (order q p)) (order p q) in
    (sym a.0 ∙ ap (λ n. fault_of (token (drop n bs))) same ∙ b.0, same)
