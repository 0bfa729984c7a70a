use Rattle.std.proofs.Common.{ap, sym, ◌∙◌}
use Rattle.dj_program.specs.trusted.Naming.{instruction_in}
use Rattle.dj_shape_rule.specs.Works.{work_of}
use Rattle.dj_shape_rule.proofs.Reported.{member_done}
use Rattle.dj_shape_rule.proofs.apply.effect_of.Goals as goal

pub returns-in-Member : goal.returns-in-Member
returns-in-Member c = λ pool are.
    c.member_effect.ensures c.args.kinds.now.calls
    ∙ member_done pool c.args.kinds.now c.in-Member.op c.in-Member.index c.constant-in-Member.result are c.constant-in-Member.ensures
    ∙ ap (λ instr. work_of (instruction_in pool instr)) (sym c.in-Member.is)
