use Rattle.std.proofs.Common.{◌≡◌, ℕ, Bool, true, false, ◌&&◌, ltb, [], ◌∷◌, refl, ap, ◌∙◌, rules, tests}
use Rattle.std.proofs.lemmas.Iterator.{YieldsList-from_slice}
use Rattle.std.proofs.lemmas.Iterator.Consumers.{YieldsList-from_enumerate}
use Rattle.std.proofs.lemmas.Iterator.Search.{all_from_yields_List}
use Rattle.checker.specs.RowTests.{arity, placed}
use Rattle.checker.proofs.rules.has_parts_placed.Goals as goal

and_true : (b : Bool) → b && true ≡ b
and_true true = refl
and_true false = refl

pub returns : goal.returns
returns c =
    let r = c.args.r in
    let test : ℕ × ℕ → Bool = λ x. placed (ltb x.0 (arity r.kind)) x.1 c.args.p in
    all_from_yields_List test _ _ _ c.all.ensures.ran (YieldsList-from_enumerate (YieldsList-from_slice (r.a ∷ r.b ∷ r.c ∷ []) (cc)) (cc)) (λ x b q k. search (rules, tests))
    ∙ ap (λ b. test (0, r.a) && (test (1, r.b) && b)) (and_true (test (2, r.c)))
