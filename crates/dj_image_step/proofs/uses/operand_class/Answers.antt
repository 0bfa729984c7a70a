use Rattle.dj_current_method.proofs.InstructionFacts.{has_instr}
use Rattle.dj_image_step.proofs.GivenOperands.{given_operand}
use Rattle.dj_image_step.proofs.UsedLaws.{named_then, operand_named}
use Rattle.dj_image_step.proofs.uses.operand_class.Goals as goal

pub operand-operand-requires : goal.operand-operand-requires
operand-operand-requires c =
    has_instr c.args.image.now c.args.method.number c.args.number c.instr_of-instr.result.now c.instr_of-instr.ensures.0 c.instr_of-instr.ensures.1.stands

pub class_of_operand-requires : goal.class_of_operand-requires
class_of_operand-requires c = (
  c.instr_of-instr.ensures.0,
  operand_named c.args.image.now c.args.method.number c.args.number c.instr_of-instr.result.now c.instr_of-instr.ensures.0 c.operand-operand.result c.requires.sound c.instr_of-instr.ensures.1
      c.operand-operand.ensures,
)

pub returns-clause-used : goal.returns-clause-used
returns-clause-used c = λ i reported.
    let named = c.instr_of-instr.ensures.0 in
    named_then c.args.image.now c.args.method.number c.args.number c.instr_of-instr.result.now named c.class_of_operand.result c.instr_of-instr.ensures.1
    (c.class_of_operand.ensures.used named
    (operand_named c.args.image.now c.args.method.number c.args.number c.instr_of-instr.result.now named c.operand-operand.result c.requires.sound c.instr_of-instr.ensures.1 c.operand-operand.ensures)) i reported

pub returns-clause-frugal : goal.returns-clause-frugal
returns-clause-frugal c = λ i reported none known.
    c.class_of_operand.ensures.frugal (given_operand c.args.image.now c.is_numbered.ensures c.args.method.number c.args.number c.instr_of-instr.result.now c.instr_of-instr.ensures.0 c.operand-operand.result i
    c.requires.sound c.instr_of-instr.ensures.1 c.operand-operand.ensures reported none known)
