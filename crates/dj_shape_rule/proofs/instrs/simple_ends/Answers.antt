use Rattle.std.proofs.Common.{◌∙◌, ap, sym}
use Rattle.dj_model.specs.trusted.Instructions.{Instruction, Nothing, ends}
use Rattle.dj_shape_rule.proofs.Forms.{early, late}
use Rattle.dj_shape_rule.proofs.instrs.simple_ends.Goals as goal

pub returns : goal.returns
returns c = c.last_ends.ensures ∙ sym (ap (λ (i : Instruction). ends i) (late Nothing c.args.op c.if-op-lt133.false))

pub returns-then-op-lt133 : goal.returns-then-op-lt133
returns-then-op-lt133 c = sym (early Nothing c.args.op c.if-op-lt133.true)
