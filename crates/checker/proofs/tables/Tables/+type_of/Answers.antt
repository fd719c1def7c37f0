use Rattle.std.proofs.Common.{◌≡◌, ℕ, length, get_or, cond, is_some, sym, refl, ap, ◌∙◌, arith}
use Rattle.std.specs.List.{slice_get}
use Rattle.rows.specs.Views.{view, room}
use Rattle.checker.specs.RowTests.{no_row}
use Rattle.checker.specs.Depths.{deep_at}
use Rattle.checker.specs.Shapes.{bound_at}
use Rattle.checker.specs.Types.{under, settled, own_type, type_at}
use Rattle.checker.proofs.Counts.{arity_small}
use Rattle.checker.proofs.Parts.{same_bound, part_taken, parts_taken, room_part, found, done_none, done_at, done_ok, done_err, type_parts, ok_or_settled}
use Rattle.checker.proofs.Sights.{same_refl, same_trans, length_under, around}
use Rattle.checker.proofs.tables.Tables.+type_of.Goals as goal
use Rattle.checker.proofs.tables.Tables.+type_of.Goals.{in-Ok, in-Err}

pub loop-i-init : goal.loop-i-init
loop-i-init t c = (same_refl _ _ refl, done_none (found c.args.self.now.types.now c.args.self.now.terms.now c.args.p (view c.args.names.now)))

pub enter-requires : goal.enter-requires
enter-requires t c =
    let ts = c.args.self.now.types.now in
    let es = c.args.self.now.terms.now in
    let r = get_or es c.args.p no_row in
    let names = view c.args.names.now in
    let h = part_taken r _ _ c.arity_of.ensures.value c.loop-i-test.true in
    let bound : c.bound_at-bound.result ≡ bound_at ts r c.loop-i.i = c.bound_at-bound.ensures ∙ omega (arith, same_bound ts r, h.0, arity_small r.kind) in
    let w = room_part (room c.args.names.now) ts es c.args.self.now.placed c.args.p (length names) c.requires.within c.requires.deep c.loop-i.i h.0 in
    omega (arith, w.fits, ap length c.loop-i.invariant.0.entries, c.loop-i.invariant.0.capacity, ap {B = ℕ} (λ o. cond (is_some o) 1 0) bound)

pub type_of-requires : goal.type_of-requires
type_of-requires t c =
    let ts = c.args.self.now.types.now in
    let es = c.args.self.now.terms.now in
    let r = get_or es c.args.p no_row in
    let names = view c.args.names.now in
    let h = part_taken r _ _ c.arity_of.ensures.value c.loop-i-test.true in
    let w = room_part (room c.args.names.now) ts es c.args.self.now.placed c.args.p (length names) c.requires.within c.requires.deep c.loop-i.i h.0 in
    let bound : c.bound_at-bound.result ≡ bound_at ts r c.loop-i.i = c.bound_at-bound.ensures ∙ omega (arith, same_bound ts r, h.0, arity_small r.kind) in
    let entered : view c.enter.new.names ≡ under (bound_at ts r c.loop-i.i) names = c.enter.ensures.entries ∙ (λ j. under (bound j) (c.loop-i.invariant.0.entries j)) in
    let deep = ap length entered ∙ length_under (bound_at ts r c.loop-i.i) names in
    let wide = c.enter.ensures.capacity ∙ c.loop-i.invariant.0.capacity in
    (omega (arith, h.1, w.below, c.decreases), (omega (arith, h.1, w.below, c.requires.within), (λ j. deep_at (wide j) es (h.1 j) (deep j)) ∙ w.shallow))

pub loop-i-preserved : goal.loop-i-preserved
loop-i-preserved t c =
    let ts = c.args.self.now.types.now in
    let es = c.args.self.now.terms.now in
    let r = get_or es c.args.p no_row in
    let names = view c.args.names.now in
    let F = found ts es c.args.p names in
    let i = c.loop-i.i in
    let h = part_taken r _ _ c.arity_of.ensures.value c.loop-i-test.true in
    let bound : c.bound_at-bound.result ≡ bound_at ts r i = c.bound_at-bound.ensures ∙ omega (arith, same_bound ts r, h.0, arity_small r.kind) in
    let entered : view c.enter.new.names ≡ under (bound_at ts r i) names = c.enter.ensures.entries ∙ (λ j. under (bound j) (c.loop-i.invariant.0.entries j)) in
    let it : c.type_of.result ≡ F i = c.type_of.ensures.value ∙ (λ j. type_at ts es (h.1 j) (entered j)) in (
      same_trans _ _ _ c.loop-i.invariant.0
          (around c.loop-i.names c.enter.new.names c.type_of.new.names c.leave.new.names c.bound_at-bound.result
          c.enter.ensures.entries c.enter.ensures.capacity
          (record { entries = c.type_of.ensures.entries; capacity = c.type_of.ensures.capacity })
          c.leave.ensures.entries c.leave.ensures.capacity),
      elim c.match-type_of.branch [
        | in-Ok w ↦ done_at w.low-is w.types-is (done_ok F i c.loop-i.low c.loop-i.types w.in-Ok.t (omega (arith, h.0, arity_small r.kind)) c.loop-i.invariant.1 (sym it ∙ w.in-Ok.is))
        | in-Err w ↦ done_at (w.low-is ∙ w.lower_of-low.ensures) w.types-is (done_err F i c.loop-i.low c.loop-i.types w.in-Err.q c.loop-i.invariant.1 (sym it ∙ w.in-Err.is))
      ],
    )

pub returns-in-Some-clause-value : goal.returns-in-Some-clause-value
returns-in-Some-clause-value t c =
    let ts = c.args.self.now.types.now in
    let r = get_or c.args.self.now.terms.now c.args.p no_row in
    let names = view c.args.names.now in
    let n = parts_taken r _ _ c.arity_of.ensures.value c.loop-i-test.false c.loop-i.auto.i-end in
    ap (λ o. settled c.args.p o (own_type ts r (slice_get names r.number) (get_or c.loop-i.types 0 0) (get_or c.loop-i.types 1 0) (get_or c.loop-i.types 2 0))) (sym c.in-Some.is)
    ∙ type_parts ts c.args.self.now.terms.now c.args.self.now.placed c.args.p c.requires.within names c.loop-i.low c.loop-i.types c.loop-i.i n c.loop-i.invariant.1

pub returns-in-None-clause-value : goal.returns-in-None-clause-value
returns-in-None-clause-value t c =
    let ts = c.args.self.now.types.now in
    let r = get_or c.args.self.now.terms.now c.args.p no_row in
    let names = view c.args.names.now in
    let n = parts_taken r _ _ c.arity_of.ensures.value c.loop-i-test.false c.loop-i.auto.i-end in
    let own = c.own_type.ensures ∙ ap (λ name. own_type ts r name (get_or c.loop-i.types 0 0) (get_or c.loop-i.types 1 0) (get_or c.loop-i.types 2 0)) (c.look.ensures ∙ ap (λ l. slice_get l r.number) c.loop-i.invariant.0.entries) in
    c.ok_or.ensures.value ∙ ok_or_settled c.args.p c.own_type.result
    ∙ (λ j. settled c.args.p (sym c.in-None.is j) (own j))
    ∙ type_parts ts c.args.self.now.terms.now c.args.self.now.placed c.args.p c.requires.within names c.loop-i.low c.loop-i.types c.loop-i.i n c.loop-i.invariant.1
