use Rattle.std.proofs.Common.{ap, subst, sym, ◌∙◌}
use Rattle.std.proofs.lemmas.Bool.{false≢true}
use Rattle.dj_image.specs.declared.operand.Operand.{Operand}
use Rattle.dj_image_step.specs.Uses.{IsOperandNamed, is_given}
use Rattle.dj_image_step.proofs.UsedLaws.{field_there, is_plain, plain_used}
use Rattle.dj_image_step.proofs.uses.class_of_operand.Goals as goal

pub static_class-requires : goal.static_class-requires
static_class-requires c =
    field_there c.args.image.now c.args.instr.now c.in-Field.field.number c.requires.0
    (subst (λ (o : Operand). IsOperandNamed c.args.image.now c.args.instr.now o c.requires.0) c.in-Field.is c.requires.1)

pub returns-in-Class-clause-used : goal.returns-in-Class-clause-used
returns-in-Class-clause-used c = λ named is. c.new_class.ensures named (subst (λ (o : Operand). IsOperandNamed c.args.image.now c.args.instr.now o named) c.in-Class.is is)

pub returns-in-Field-clause-used : goal.returns-in-Field-clause-used
returns-in-Field-clause-used c = λ named is. c.static_class.ensures named (subst (λ (o : Operand). IsOperandNamed c.args.image.now c.args.instr.now o named) c.in-Field.is is)

pub returns-in-Nothing-clause-used : goal.returns-in-Nothing-clause-used
returns-in-Nothing-clause-used c = λ named is. plain_used c.args.image.now c.args.instr.now c.args.operand named is (ap is_plain c.in-Nothing.is)

pub returns-in-Int-clause-used : goal.returns-in-Int-clause-used
returns-in-Int-clause-used c = λ named is. plain_used c.args.image.now c.args.instr.now c.args.operand named is (ap is_plain c.in-Int.is)

pub returns-in-Long-clause-used : goal.returns-in-Long-clause-used
returns-in-Long-clause-used c = λ named is. plain_used c.args.image.now c.args.instr.now c.args.operand named is (ap is_plain c.in-Long.is)

pub returns-in-Text-clause-used : goal.returns-in-Text-clause-used
returns-in-Text-clause-used c = λ named is. plain_used c.args.image.now c.args.instr.now c.args.operand named is (ap is_plain c.in-Text.is)

pub returns-in-Method-clause-frugal : goal.returns-in-Method-clause-frugal
returns-in-Method-clause-frugal c = λ given. false≢true (sym (ap is_given c.in-Method.is) ∙ given)

pub returns-in-Unresolved-clause-frugal : goal.returns-in-Unresolved-clause-frugal
returns-in-Unresolved-clause-frugal c = λ given. false≢true (sym (ap is_given c.in-Unresolved.is) ∙ given)
