-- Where the bytes of a text go, and what every such place keeps.
use Rattle.std.specs.Prelude.{◌≡◌, ℕ, suc, ◌+◌, ◌<◌, ◌≤◌, List, [], ◌∷◌, ◌++◌, length, Ok, Err, Result}
use Rattle.std.proofs.Common.{set, ap, ◌∙◌, add-zero, arith, length-append}
use lib.Seq.{sets, length-sets}
use Rattle.text.specs.declared.refusal.WriteRefusal.{WriteRefusal}
use Rattle.text.specs.declared.sink.Room.{Room}
use Rattle.text.specs.declared.sink.Front.{Front}

-- what putting bytes did: it took them, or they had no room
abbrev pub Puts : {X : Type 0} → (X → List ℕ → X → Type 0) → (X → ℕ → Type 0) → X → List ℕ → Result Unit WriteRefusal → X → Type 0
Puts takes lacks old bytes (Ok _) new = takes old bytes new
Puts takes lacks old bytes (Err _) new = lacks old (length bytes)

pub record SinkLaws {X : Type 0} (takes : X → List ℕ → X → Type 0) (lacks : X → ℕ → Type 0) : Type 0 where
  -- one run of bytes and then another are the two as one run
  pub both : (a b c : X) (xs ys : List ℕ) → takes a xs b → takes b ys c → takes a (xs ++ ys) c
  -- what has no room after some bytes has none together with them
  pub after : (a b : X) (xs : List ℕ) (n : ℕ) → takes a xs b → lacks b n → lacks a (length xs + n)
  -- and no more than it
  pub more : (a : X) (m n : ℕ) → m ≤ n → lacks a m → lacks a n

-- `new` is `old` with the bytes from place `from` on, which end at `to`
pub record Wrote (old new : List ℕ) (from to : ℕ) (bytes : List ℕ) : Type 0 where
  pub ends : to ≡ from + length bytes
  pub stored : new ≡ sets old from bytes

sets_append : (xs ys l : List ℕ) (i : ℕ) → sets (sets l i xs) (i + length xs) ys ≡ sets l i (xs ++ ys)
sets_append [] ys l i = ap (λ k. sets l k ys) (add-zero i)
sets_append (x ∷ xs) ys l i = ap (λ k. sets (sets (set l i x) (suc i) xs) k ys) (omega arith) ∙ sets_append xs ys (set l i x) (suc i)

pub wrote_both : (o m n : List ℕ) (a b c : ℕ) (xs ys : List ℕ) → Wrote o m a b xs → Wrote m n b c ys → Wrote o n a c (xs ++ ys)
wrote_both o m n a b c xs ys p q =
    record {
      ends = let l = length-append xs ys in omega (arith, p.ends, q.ends);
      stored = q.stored ∙ ap (λ l. sets l b ys) p.stored ∙ ap (λ k. sets (sets o a xs) k ys) p.ends ∙ sets_append xs ys o a;
    }

pub room_laws : SinkLaws {X = Room} (λ a xs b. a.left ≡ length xs + b.left) (λ a n. a.left < n)
room_laws = record {
  both = λ a b c xs ys p q. let l = length-append xs ys in omega arith;
  after = λ a b xs n p q. omega arith;
  more = λ a m n le p. omega arith;
}

pub front_laws : SinkLaws {X = Front} (λ a xs b. (b.buffer.ghost_name ≡ a.buffer.ghost_name) × Wrote a.buffer.now b.buffer.now a.written b.written xs) (λ a n. length a.buffer.now < a.written + n)
front_laws = record {
  both = λ a b c xs ys p q. (q.0 ∙ p.0, wrote_both a.buffer.now b.buffer.now c.buffer.now a.written b.written c.written xs ys p.1 q.1);
  after = λ a b xs n p q. let l = ap length p.1.stored in let e = p.1.ends in omega (arith, length-sets a.buffer.now a.written xs);
  more = λ a m n le p. omega arith;
}
