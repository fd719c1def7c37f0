-- A stack in an array, the top first: `reverse (take h fs)`.
use Rattle.std.proofs.Common.{◌≡◌, ℕ, zero, suc, ◌+◌, ◌-◌, ◌≤◌, List, [], ◌∷◌, reverse, length, get_or, take, sym, refl, ap, ◌∙◌, arith}
use mathlib.Core.List.{reverse-append}
use Rattle.std.proofs.lemmas.List.{take_more}
use Rattle.engine.specs.declared.state.Frame.{Frame}
use Rattle.engine.specs.Stores.{rest_of, no_frame}

-- without its top
pub popped : (fs : List Frame) (h : ℕ) → h ≤ length fs → reverse (take (h - 1) fs) ≡ rest_of (reverse (take h fs))
popped fs zero len = refl
popped fs (suc h) len =
    let whole : h + 1 ≡ suc h = omega arith in
    ap (λ (m : ℕ). reverse (take m fs)) (let z : suc h - 1 ≡ h = omega arith in z)
    ∙ sym (ap rest_of (ap (λ (m : ℕ). reverse (take m fs)) (sym whole) ∙ ap reverse (take_more fs h no_frame (omega arith)) ∙ reverse-append (take h fs) (get_or fs h no_frame ∷ [])))
