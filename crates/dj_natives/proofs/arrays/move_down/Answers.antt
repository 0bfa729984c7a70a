use Rattle.std.proofs.Common.{◌≡◌, ◌+◌, ◌-◌, ℤ, subst, arith, w64, FitsSigned, rules}
use Rattle.std.proofs.lemmas.Int.{to_z-of_z}
use Rattle.dj_heap.specs.Heaps.{Replaces, with_number}
use Rattle.dj_natives.proofs.Moves.{MovesDown, down_none, down_there, down_target, down_more, down_all}
use Rattle.dj_natives.proofs.arrays.move_down.Goals as goal

pub loop-left-init : goal.loop-left-init
loop-left-init c = record { few = omega arith; moves = down_none c.args.heap.now c.args.copy c.args.count }

pub element-z-requires : goal.element-z-requires
element-z-requires c =
    let next : c.loop-left.left ≡ c.loop-left.left - 1 + 1 = omega (arith, c.loop-left-test.true) in
    down_there c.args.heap.now c.loop-left.heap c.args.element c.args.copy c.requires.copy c.args.count (c.loop-left.left - 1) (omega (arith, c.loop-left-test.true, c.loop-left.invariant.few))
    c.requires.few c.requires.down (subst (MovesDown c.args.heap.now c.loop-left.heap c.args.copy c.args.count) next c.loop-left.invariant.moves)

pub set_element-requires : goal.set_element-requires
set_element-requires c =
    let next : c.loop-left.left ≡ c.loop-left.left - 1 + 1 = omega (arith, c.loop-left-test.true) in
    down_target c.args.heap.now c.loop-left.heap c.args.element c.args.copy c.requires.copy c.args.count (c.loop-left.left - 1) (omega (arith, c.loop-left-test.true, c.loop-left.invariant.few))
    c.requires.few (subst (MovesDown c.args.heap.now c.loop-left.heap c.args.copy c.args.count) next c.loop-left.invariant.moves)

pub loop-left-preserved : goal.loop-left-preserved
loop-left-preserved c =
    let fits : FitsSigned w64 c.element-z.result = search rules in
    let next : c.loop-left.left ≡ c.loop-left.left - 1 + 1 = omega (arith, c.loop-left-test.true) in
    record {
      few = omega (arith, c.loop-left.invariant.few);
      moves = down_more c.args.heap.now c.loop-left.heap c.set_element.new.self c.args.element c.args.copy c.requires.copy c.args.count (c.loop-left.left - 1) c.element-z.result
          (omega (arith, c.loop-left-test.true, c.loop-left.invariant.few)) c.requires.few c.requires.down
          (subst (MovesDown c.args.heap.now c.loop-left.heap c.args.copy c.args.count) next c.loop-left.invariant.moves) c.element-z.ensures.value c.element-z.ensures.kept
          (subst (λ (z : ℤ). Replaces c.loop-left.heap c.set_element.new.self c.args.copy.target (λ o. with_number o (c.args.copy.to + (c.loop-left.left - 1)) z))
          (to_z-of_z w64 c.element-z.result fits) c.set_element.ensures);
    }

pub returns : goal.returns
returns c = down_all c.args.heap.now c.loop-left.heap c.args.copy c.args.count c.loop-left.left (omega (arith, c.loop-left-test.false)) c.loop-left.invariant.moves
