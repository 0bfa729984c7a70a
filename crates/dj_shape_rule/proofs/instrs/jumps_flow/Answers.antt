use Rattle.dj_shape_rule.proofs.Forms.{jumps_so}
use Rattle.dj_shape_rule.proofs.instrs.jumps_flow.Goals as goal

pub returns-clause-flows : goal.returns-clause-flows
returns-clause-flows c pool run = jumps_so c.args.state.now.kinds c.args.frames.now pool c.args.instr.now c.form_flows.result run c.form_flows.ensures.flows
