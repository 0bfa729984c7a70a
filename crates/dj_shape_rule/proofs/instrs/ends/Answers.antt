use Rattle.std.proofs.Common.{◌∙◌}
use Rattle.dj_shape_rule.proofs.Forms.{ends_so}
use Rattle.dj_shape_rule.proofs.instrs.ends.Goals as goal

pub returns : goal.returns
returns c pool = c.form_ends.ensures ∙ ends_so pool c.args.instr.now
