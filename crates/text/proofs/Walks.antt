-- A text that goes into a sink piece by piece.
use Rattle.std.proofs.Common.{◌≡◌, ℕ, List, ◌++◌, length, Ok, Err, Result, sym, subst, arith, length-append}
use Rattle.std.specs.Result.{IsErr}
use Rattle.text.specs.declared.refusal.WriteRefusal.{WriteRefusal}
use Rattle.text.specs.Sinks.{Puts, SinkLaws}

-- `rest` is what b still lacks of the whole text, which goes into a
pub record Ahead {X : Type 0} (takes : X → List ℕ → X → Type 0) (lacks : X → ℕ → Type 0) (a : X) (whole : List ℕ) (b : X) (rest : List ℕ) : Type 0 where
  pub puts : (r : Result Unit WriteRefusal) (c : X) → Puts takes lacks b rest r c → Puts takes lacks a whole r c

module _ {X : Type 0} {takes : X → List ℕ → X → Type 0} {lacks : X → ℕ → Type 0} where
  pub begun : (a : X) (whole rest : List ℕ) → whole ≡ rest → Ahead takes lacks a whole a rest
  begun a whole rest is = record { puts = λ r c. subst (λ l. Puts takes lacks a l r c) (sym is) }

  module _ (laws : SinkLaws takes lacks) where
    behind : (a b : X) (xs ys : List ℕ) → takes a xs b → (r : Result Unit WriteRefusal) (c : X) → Puts takes lacks b ys r c → Puts takes lacks a (xs ++ ys) r c
    behind a b xs ys t (Ok u) c p = laws.both a b c xs ys t p
    behind a b xs ys t (Err e) c p = subst (lacks a) (sym (length-append xs ys)) (laws.after a b xs (length ys) t p)

    -- some of it goes in
    pub onward : {a b c : X} {whole : List ℕ} (xs rest : List ℕ) → Ahead takes lacks a whole b (xs ++ rest) → takes b xs c → Ahead takes lacks a whole c rest
    onward {b = b} {c = c} xs rest h t = record { puts = λ r d p. h.puts r d (behind b c xs rest t r d p) }

    -- or has no room, and then the whole has none
    pub cut : {a b : X} {whole : List ℕ} (xs rest : List ℕ) → Ahead takes lacks a whole b (xs ++ rest) → lacks b (length xs) → (r : Result Unit WriteRefusal) (c : X) → IsErr r → Puts takes lacks a whole r c
    cut {b = b} xs rest h p (Ok u) c e = let z : ◌≡◌ {A = ℕ} 0 1 = cc in absurd (omega arith)
    cut {b = b} xs rest h p (Err e) c i = h.puts (Err e) c (laws.more b (length xs) (length (xs ++ rest)) (omega (arith, length-append xs rest)) p)
