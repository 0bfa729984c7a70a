use Rattle.dj_shape_rule.proofs.Lists.{lent_listed}
use Rattle.dj_shape_rule.proofs.flows.flows_to_frame.Goals as goal

pub flows-requires : goal.flows-requires
flows-requires c = lent_listed c.args.frames.now c.args.state.now c.args.number c.in-Some.reported c.requires c.in-Some.ensures.frame c.in-Some.ensures.place
