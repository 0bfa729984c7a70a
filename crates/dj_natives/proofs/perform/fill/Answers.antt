use Rattle.std.proofs.Common.{◌≡◌, subst, sym, ◌∙◌, arith, w64, FitsSigned}
use Rattle.std.proofs.lemmas.Int.{ints, to_z-of_z}
use Rattle.std.specs.Prelude.{slice_index}
use Rattle.std.proofs.lemmas.Option.{slice_get-get_or}
use Rattle.dj_heap.specs.Heaps.{Replaces, with_number}
use Rattle.dj_natives.specs.Calls.{IsFillable}
use Rattle.dj_natives.proofs.HeapLaws.{fills_none, fills_more, fills_all, fill_within}
use Rattle.dj_natives.proofs.perform.fill.Goals as goal

pub loop-at-init : goal.loop-at-init
loop-at-init c = fills_none c.args.heap.now c.args.array c.args.units.now

pub set_element-requires : goal.set_element-requires
set_element-requires c =
    fill_within c.args.heap.now c.loop-at.heap c.args.array c.args.units.now c.loop-at.at c.args.count c.requires.chars c.requires.all c.loop-at-test.true c.loop-at.invariant

pub loop-at-preserved : goal.loop-at-preserved
loop-at-preserved c =
    fills_more c.args.heap.now c.loop-at.heap c.set_element.new.self c.args.array c.args.units.now c.loop-at.at (slice_index c.args.units.now c.loop-at.at)
    (slice_get-get_or c.args.units.now c.loop-at.at 0 (omega (arith, c.loop-at-test.true, c.requires.all))) (omega (arith, c.type_inv.units c.loop-at.at)) c.loop-at.invariant
    (subst (λ z. Replaces c.loop-at.heap c.set_element.new.self c.args.array (λ o. with_number o c.loop-at.at z))
    (to_z-of_z w64 c.from.result (subst (FitsSigned w64) (sym c.from.ensures) (omega (arith, ints, c.type_inv.units c.loop-at.at))) ∙ c.from.ensures) c.set_element.ensures)

pub returns : goal.returns
returns c =
    let end : c.loop-at.at ≡ c.args.count = omega (arith, c.loop-at-test.false, c.loop-at.auto.at-end) in
    fills_all c.args.heap.now c.loop-at.heap c.args.array c.args.units.now c.loop-at.at (subst (IsFillable c.args.heap.now c.args.array) (sym end) c.requires.chars)
    (end ∙ c.requires.all) c.loop-at.invariant
