use Rattle.std.proofs.Common.{◌≡◌, ◌<◌, true, false, get_or, [], ◌∷◌, take, refl, ap, ◌∙◌, arith, rules, tests}
use Rattle.std.proofs.lemmas.Iterator.{first_from_Range}
use Rattle.std.proofs.lemmas.List.{length-set, length-take}
use Rattle.checker.specs.Lowest.{lowest}
use Rattle.checker.specs.RowTests.{no_row, used_once}
use Rattle.checker.proofs.Counts.{zero_count, times_small, times_more, marked_here, uses_small, uses_row, once_yes, once_no}
use Rattle.checker.proofs.Lows.{lowest_found}
use Rattle.checker.proofs.Parts.{part_taken, part_below}
use Rattle.checker.proofs.tables.Tables.bad_part.Goals as goal

pub loop-r-init : goal.loop-r-init
loop-r-init c = (refl, λ j. zero_count 2048 j)

pub loop-r-preserved : goal.loop-r-preserved
loop-r-preserved c =
    (c.loop-part.invariant.0, λ j. c.loop-part.invariant.1 j ∙ uses_row c.args.self.now.terms.now c.loop-r.r-index no_row c.loop-r-test.true c.arity_of.result c.arity_of.ensures.value c.loop-part.part-index c.loop-part-test.false j)

pub overflow_add-counts : goal.overflow_add-counts
overflow_add-counts c =
    let es = c.args.self.now.terms.now in
    let r = get_or es c.loop-r.r-index no_row in
    let parts = take c.arity_of.result (r.a ∷ r.b ∷ r.c ∷ []) in
    let q = get_or parts c.loop-part.part-index 0 in
    let small : get_or c.loop-part.counts q 0 < 4294967295 = omega (arith, c.loop-part.invariant.1 q, uses_small es c.loop-r.r-index (omega (arith, c.loop-r-test.true)) q, times_small q (take c.loop-part.part-index parts), length-take c.loop-part.part-index parts, length-take c.arity_of.result (r.a ∷ r.b ∷ r.c ∷ []), c.loop-r-test.true, c.args.self.now.few) in
    search rules

pub loop-part-preserved : goal.loop-part-preserved
loop-part-preserved c =
    let es = c.args.self.now.terms.now in
    let i = c.loop-r.r-index in
    let r = get_or es i no_row in
    let parts = take c.arity_of.result (r.a ∷ r.b ∷ r.c ∷ []) in
    let k = c.loop-part.part-index in
    let h = part_taken r _ _ c.arity_of.ensures.value c.loop-part-test.true in
    let b = part_below i r (c.args.self.now.placed i c.loop-r-test.true) k h.0 in (
      length-set c.loop-part.counts _ _ ∙ c.loop-part.invariant.0,
      λ j. omega (arith, marked_here c.loop-part.counts (get_or parts k 0) (omega (arith, h.1, b, c.loop-part.invariant.0, c.loop-r-test.true, c.args.self.now.few)) j, c.loop-part.invariant.1 j, times_more j parts k c.loop-part-test.true),
    )

pub returns : goal.returns
returns c =
    let es = c.args.self.now.terms.now in
    lowest_found (used_once es) c.last.result _
    (first_from_Range _ _ _ _ (λ k. used_once es k ≡ false) (λ k. used_once es k ≡ true) c.find.ensures.ran
    (λ x q k. let ne : get_or c.loop-r.counts x 0 ≡ 1 → ⊥ = search (rules, tests) in once_no es c.loop-r.r-index x _ c.loop-r-test.false (c.loop-r.invariant.1 x) ne)
    (λ x q k. let e : get_or c.loop-r.counts x 0 ≡ 1 = search (rules, tests) in (search (rules, tests), once_yes es c.loop-r.r-index x _ c.loop-r-test.false (c.loop-r.invariant.1 x) e)))
    ∙ ap (lowest (used_once es)) c.last.ensures.value
