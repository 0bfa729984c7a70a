use Rattle.std.proofs.Common.{arith}
use Rattle.dj_straight.specs.trusted.StraightInstrs.{IsStraightAt}
use Rattle.dj_straight.proofs.Cuts.{other_says, up_to_next, up_to_end, up_to_none, refusal_says}
use Rattle.dj_straight.proofs.cut.read_instrs.Goals as goal

pub loop-at-preserved : goal.loop-at-preserved
loop-at-preserved c =
    let straight : IsStraightAt c.args.code.now c.loop-at.at c.in-Ok.instr c.in-Ok.next = record { stands = c.in-Ok.ensures.read; straight = c.if-not-is_straight.ensures } in
    record {
      within = omega (arith, c.in-Ok.ensures.read.within);
      so_far = rw c.in_ok-push-in-Ok.ensures.ok (up_to_next c.args.code.now 0 c.loop-at.instrs c.loop-at.at c.in-Ok.instr c.in-Ok.next c.loop-at.invariant.so_far straight);
    }

pub returns-then-not-is_straight : goal.returns-then-not-is_straight
returns-then-not-is_straight c =
    up_to_none c.args.code.now 0 c.loop-at.instrs c.loop-at.at c.loop-at.invariant.so_far c.loop-at-test.true
    (other_says c.args.code.now c.loop-at.at c.in-Ok.instr c.in-Ok.next c.in-Ok.ensures.read c.if-not-is_straight.ensures)

pub returns-in-Err : goal.returns-in-Err
returns-in-Err c =
    up_to_none c.args.code.now 0 c.loop-at.instrs c.loop-at.at c.loop-at.invariant.so_far c.loop-at-test.true
    (refusal_says c.args.code.now c.loop-at.at c.in-Err.e c.if-is_memory.ensures c.in-Err.ensures.all_read)

pub returns : goal.returns
returns c = up_to_end c.args.code.now 0 c.loop-at.instrs c.loop-at.at c.loop-at.invariant.so_far (omega (arith, c.loop-at.invariant.within, c.loop-at-test.false))
