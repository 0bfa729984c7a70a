use Rattle.std.proofs.Common.{map}
use Rattle.dj_asm_source.specs.LineViews.{line_view}
use Rattle.dj_asm_pool.specs.Pooling.{found_index}
use Rattle.dj_asm.specs.Filing.{members_in}
use Rattle.dj_asm.proofs.FileSteps.{members_step}
use Rattle.dj_asm.proofs.member_list.members_of.Goals as goal

pub loop-line-preserved : goal.loop-line-preserved
loop-line-preserved c =
    members_step (found_index c.args.pool.now) c.args.attribute c.loop-line.members c.push_line.new.members
    (members_in (found_index c.args.pool.now) c.args.attribute c.args.bodies.now (map line_view c.args.lines.now)) c.loop-line.rest.now c.bodies_after-rest.result.now
    c.first_body.result.now c.args.lines.now c.loop-line.line-index c.line-item.result c.loop-line-test.true c.line-item.is c.first_body.ensures c.bodies_after-rest.ensures
    c.in_ok-push_line.ensures c.loop-line.invariant
