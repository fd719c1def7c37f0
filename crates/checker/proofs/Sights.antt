-- The names in sight, before and after a part.
use Rattle.std.proofs.Common.{◌≡◌, ℕ, ◌+◌, cond, List, length, drop, is_some, Some, None, Option, refl, ap, ◌∙◌, arith}
use Rattle.rows.specs.Views.{view, room}
use Rattle.rows.specs.declared.stack.Stack.{Stack}
use Rattle.checker.specs.Types.{under}

pub record Same (s s' : Stack ℕ) : Type 0 where
  pub entries : view s' ≡ view s
  pub capacity : room s' ≡ room s

pub same_refl : (s s' : Stack ℕ) → s' ≡ s → Same s s'
same_refl s s' e = record { entries = ap view e; capacity = ap room e }

pub same_trans : (s s' s'' : Stack ℕ) → Same s s' → Same s' s'' → Same s s''
same_trans s s' s'' a b = record { entries = b.entries ∙ a.entries; capacity = b.capacity ∙ a.capacity }

pub left_again : (o : Option ℕ) (names : List ℕ) → drop (cond (is_some o) 1 0) (under o names) ≡ names
left_again None names = refl
left_again (Some t) names = refl

pub length_under : (o : Option ℕ) (names : List ℕ) → length (under o names) ≡ length names + cond (is_some o) 1 0
length_under None names = omega arith
length_under (Some t) names = omega arith

-- a name bound, a part, and the name let go
pub around : (s s₁ s₂ s₃ : Stack ℕ) (o : Option ℕ)
    → view s₁ ≡ under o (view s) → room s₁ ≡ room s
    → Same s₁ s₂
    → view s₃ ≡ drop (cond (is_some o) 1 0) (view s₂) → room s₃ ≡ room s₂
    → Same s s₃
around s s₁ s₂ s₃ o ae ac m le lc = record {
  entries = le ∙ ap (drop (cond (is_some o) 1 0)) (m.entries ∙ ae) ∙ left_again o (view s);
  capacity = lc ∙ m.capacity ∙ ac;
}
