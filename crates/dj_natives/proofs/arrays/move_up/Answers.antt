use Rattle.std.proofs.Common.{◌≡◌, ◌+◌, ℤ, subst, arith, w64, FitsSigned, rules}
use Rattle.std.proofs.lemmas.Int.{to_z-of_z}
use Rattle.dj_heap.specs.Heaps.{Replaces, with_number}
use Rattle.dj_natives.proofs.Moves.{up_none, up_there, up_target, up_more}
use Rattle.dj_natives.proofs.arrays.move_up.Goals as goal

pub loop-at-init : goal.loop-at-init
loop-at-init c = up_none c.args.heap.now c.args.copy

pub element-z-requires : goal.element-z-requires
element-z-requires c =
    up_there c.args.heap.now c.loop-at.heap c.args.element c.args.copy c.requires.copy c.loop-at.at (omega (arith, c.loop-at-test.true, c.requires.few)) c.requires.up c.loop-at.invariant

pub set_element-requires : goal.set_element-requires
set_element-requires c =
    up_target c.args.heap.now c.loop-at.heap c.args.element c.args.copy c.requires.copy c.loop-at.at (omega (arith, c.loop-at-test.true, c.requires.few)) c.loop-at.invariant

pub loop-at-preserved : goal.loop-at-preserved
loop-at-preserved c =
    let fits : FitsSigned w64 c.element-z.result = search rules in
    up_more c.args.heap.now c.loop-at.heap c.set_element.new.self c.args.element c.args.copy c.requires.copy c.loop-at.at c.element-z.result
    (omega (arith, c.loop-at-test.true, c.requires.few)) c.requires.up c.loop-at.invariant c.element-z.ensures.value c.element-z.ensures.kept
    (subst (λ (z : ℤ). Replaces c.loop-at.heap c.set_element.new.self c.args.copy.target (λ o. with_number o (c.args.copy.to + c.loop-at.at) z))
    (to_z-of_z w64 c.element-z.result fits) c.set_element.ensures)
