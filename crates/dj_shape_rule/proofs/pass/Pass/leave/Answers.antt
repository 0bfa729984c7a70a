use Rattle.dj_shape_rule.proofs.Lists.{are_still}
use Rattle.dj_shape_rule.proofs.pass.Pass.leave.Goals as goal

pub goes_on-requires : goal.goes_on-requires
goes_on-requires c = are_still c.args.method.now.frames c.args.self.now.state c.jumps_flow.new.state c.jumps_flow.ensures.same c.requires.listed
