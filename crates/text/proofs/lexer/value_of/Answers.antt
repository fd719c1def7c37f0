use Rattle.std.proofs.Common.{◌≡◌, ◌+◌, ◌-◌, ◌*◌, ◌≤◌, min, refl, subst, rules, tests, arith}
use Rattle.std.proofs.lemmas.Fn.{serves_by, fold_over, slice_gives, fronts}
use Rattle.std.specs.Iterator.{AlwaysYields}
use Rattle.grammar.specs.Bytes.{value}
use Rattle.text.proofs.Lexes.{value_more}
use Rattle.text.proofs.lexer.value_of.Goals as goal

pub fold-requires-clause-callable : goal.fold-requires-clause-callable
fold-requires-clause-callable c = serves_by _ (λ xs q. q.1 ≤ 1000000000) (λ xs q x v j r. search (rules, tests)) _ _ _ _ (omega arith) (λ xs t q x u y s j. search (rules, tests))

pub returns : goal.returns
returns c =
    fold_over fronts (λ y. y.now) _ (λ ds so. so ≡ min 1000000000 (value ds 0)) _
    (λ ds so x r g j k. let e : r ≡ min 1000000000 (so * 10 + (x.now - 48)) = search (rules, tests) in (omega (arith, value_more ds 0 x.now), refl))
    c.iter.result c.args.digits.now 0 c.fold.result (subst (AlwaysYields fronts (λ y. y.now) c.iter.result) c.iter.ensures.rest (slice_gives c.iter.result)) (omega arith) c.fold.ensures.ran
