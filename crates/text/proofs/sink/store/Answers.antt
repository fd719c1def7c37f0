use Rattle.std.proofs.Common.{[], ◌∷◌, get_or, sym, refl, subst}
use Rattle.std.proofs.lemmas.List.{take_more}
use Rattle.text.specs.Sinks.{Wrote, wrote_both}
use Rattle.text.proofs.sink.store.Goals as goal

pub loop-b-preserved : goal.loop-b-preserved
loop-b-preserved c =
    let bs = c.args.bytes.now in
    let i = c.loop-b.b-index in
    subst (Wrote _ _ _ _) (sym (take_more bs i 0 c.loop-b-test.true)) (wrote_both _ _ _ _ _ _ _ (get_or bs i 0 ∷ []) c.loop-b.invariant (record { ends = refl; stored = refl }))
