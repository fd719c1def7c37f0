-- Runs and values, in the words of the library's iterators.
use Rattle.std.proofs.Common.{◌≡◌, ℕ, suc, ◌+◌, ◌-◌, ◌*◌, Bool, true, false, cond, List, [], ◌∷◌, ◌++◌, sym, refl, arith, rules}
use denote.Enum.Bare.{sameb, same_true, same_false}
use Rattle.std.specs.List.{prefix_len}
use Rattle.grammar.specs.declared.bytes.Class.{Class}
use Rattle.grammar.specs.contracts.bytes.Class.{the_type}
use Rattle.grammar.specs.Bytes.{class, alike, run, value}
use Rattle.grammar.specs.Runs.{alike_same, alike_apart}

alike_is : (a k : Class) (t : Bool) → sameb the_type a k ≡ t → t ≡ alike a k
alike_is a k true e = sym (alike_same a k (same_true the_type (search rules) a k e))
alike_is a k false e = sym (alike_apart a k (same_false the_type a k e))

-- a run is as long as the first items that pass a test
pub run_is : (k : Class) (bs : List ℕ) → prefix_len (λ b. sameb the_type (class b) k) bs ≡ run k bs
run_is k [] = refl
run_is k (b ∷ bs) =
    let next : 1 + prefix_len (λ b. sameb the_type (class b) k) bs ≡ suc (run k bs) = omega (arith, run_is k bs) in
    λ i. cond (alike_is (class b) k _ refl i) (next i) 0

-- one digit more
pub value_more : (ds : List ℕ) (so d : ℕ) → value (ds ++ d ∷ []) so ≡ value ds so * 10 + (d - 48)
value_more [] so d = refl
value_more (e ∷ ds) so d = value_more ds (so * 10 + (e - 48)) d
