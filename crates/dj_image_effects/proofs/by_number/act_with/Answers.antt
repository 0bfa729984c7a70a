use Rattle.std.proofs.Common.{ap, refl, subst}
use Rattle.dj_model.specs.trusted.Instructions.{Instruction}
use Rattle.dj_names.specs.declared.run.Value.TheVariants as values
use Rattle.dj_initialisation.specs.Store.{store}
use Rattle.dj_image_effects.specs.Numbers.{literal_value}
use Rattle.dj_image_effects.specs.Acting.{machine}
use Rattle.dj_image_effects.specs.Frugal.{IsFrugal}
use Rattle.dj_image_effects.proofs.Frugal.{makes_nothing}
use Rattle.dj_image_effects.proofs.OperandFacts.{class_used, done_as, field_used, field_within, if_ok_so, literal_is, method_calls, nothing_is, nothing_made, text_there, text_within}
use Rattle.dj_image_effects.proofs.by_number.act_with.Goals as goal

pub act_unnamed-requires-clause-made : goal.act_unnamed-requires-clause-made
act_unnamed-requires-clause-made c = nothing_made c.args.image.now c.args.instr.now c.args.operand c.requires.used.0 c.requires.used.1 c.in-Nothing.is

pub returns-in-Nothing-clause-done : goal.returns-in-Nothing-clause-done
returns-in-Nothing-clause-done c = λ named used.
    if_ok_so c.act_unnamed.result _ _
    (λ acted a. done_as c.args.image.now _ _ (machine c.args.frames.now (store c.args.heap.now c.args.statics.now c.args.literals.now)) (machine c.act_unnamed.new.frames (store c.act_unnamed.new.heap c.args.statics.now c.args.literals.now)) acted (nothing_is c.args.image.now c.args.instr.now c.args.operand named used c.in-Nothing.is) (a c.args.statics.now c.args.literals.now c.requires.are))
    c.act_unnamed.ensures.done

pub returns-in-Int-clause-done : goal.returns-in-Int-clause-done
returns-in-Int-clause-done c = λ named used.
    if_ok_so c.act_literal.result _ _
    (λ acted a. done_as c.args.image.now _ _ (machine c.args.frames.now (store c.args.heap.now c.args.statics.now c.args.literals.now)) (machine c.act_literal.new.frames (store c.args.heap.now c.args.statics.now c.args.literals.now)) acted (literal_is c.args.image.now c.args.instr.now c.args.operand named used (values.Int c.in-Int.field-0) (ap literal_value c.in-Int.is)) (a c.args.statics.now c.args.literals.now c.requires.are))
    (c.act_literal.ensures.done c.args.image.now c.args.heap.now (values.Int c.in-Int.field-0) (ap literal_value c.in-Int.is))

pub returns-in-Long-clause-done : goal.returns-in-Long-clause-done
returns-in-Long-clause-done c = λ named used.
    if_ok_so c.act_literal-in-Long.result _ _
    (λ acted a. done_as c.args.image.now _ _ (machine c.args.frames.now (store c.args.heap.now c.args.statics.now c.args.literals.now)) (machine c.act_literal-in-Long.new.frames (store c.args.heap.now c.args.statics.now c.args.literals.now)) acted (literal_is c.args.image.now c.args.instr.now c.args.operand named used (values.Long c.in-Long.field-0) (ap literal_value c.in-Long.is)) (a c.args.statics.now c.args.literals.now c.requires.are))
    (c.act_literal-in-Long.ensures.done c.args.image.now c.args.heap.now (values.Long c.in-Long.field-0) (ap literal_value c.in-Long.is))

pub act_push_text-requires-clause-within : goal.act_push_text-requires-clause-within
act_push_text-requires-clause-within c = text_within c.args.image.now c.args.instr.now c.args.operand c.requires.used.0 c.requires.used.1 c.in-Text.text c.in-Text.is

pub returns-in-Text-clause-done : goal.returns-in-Text-clause-done
returns-in-Text-clause-done c = λ named used.
    let t = text_there c.args.image.now c.args.instr.now c.args.operand named used c.in-Text.text c.in-Text.is in
    if_ok_so c.act_push_text.result _ _
    (λ acted a. done_as c.args.image.now _ _ (machine c.args.frames.now (store c.args.heap.now c.args.statics.now c.args.literals.now)) (machine c.act_push_text.new.frames (store c.act_push_text.new.heap c.args.statics.now c.act_push_text.new.literals)) acted t.1 (a c.args.statics.now c.requires.are)) (c.act_push_text.ensures.done t.0 t.2)

pub act_class-requires-clause-used : goal.act_class-requires-clause-used
act_class-requires-clause-used c = (c.requires.used.0, class_used c.args.image.now c.args.instr.now c.args.operand c.requires.used.0 c.requires.used.1 c.in-Class.class c.in-Class.is)

pub returns-in-Class-clause-done : goal.returns-in-Class-clause-done
returns-in-Class-clause-done c = λ named used.
    if_ok_so c.act_class.result _ _
    (λ acted a. done_as c.args.image.now _ _ (machine c.args.frames.now (store c.args.heap.now c.args.statics.now c.args.literals.now)) (machine c.act_class.new.frames (store c.act_class.new.heap c.args.statics.now c.args.literals.now)) acted refl (a c.args.statics.now c.args.literals.now c.requires.are))
    (c.act_class.ensures.done named (class_used c.args.image.now c.args.instr.now c.args.operand named used c.in-Class.class c.in-Class.is))

pub act_field-requires-clause-there : goal.act_field-requires-clause-there
act_field-requires-clause-there c = field_within c.args.image.now c.args.instr.now c.args.operand c.requires.used.0 c.requires.used.1 c.in-Field.field.number c.in-Field.is

pub act_field-requires-clause-used : goal.act_field-requires-clause-used
act_field-requires-clause-used c = (c.requires.used.0, field_used c.args.image.now c.args.instr.now c.args.operand c.requires.used.0 c.requires.used.1 c.in-Field.field.number c.in-Field.is)

pub returns-in-Field-clause-done : goal.returns-in-Field-clause-done
returns-in-Field-clause-done c = λ named used.
    if_ok_so c.act_field.result _ _
    (λ acted a. done_as c.args.image.now _ _ (machine c.args.frames.now (store c.args.heap.now c.args.statics.now c.args.literals.now)) (machine c.act_field.new.frames (store c.act_field.new.heap c.act_field.new.statics c.args.literals.now)) acted refl (a c.args.literals.now c.requires.are))
    (c.act_field.ensures.done named (field_used c.args.image.now c.args.instr.now c.args.operand named used c.in-Field.field.number c.in-Field.is))

pub returns-in-Method-clause-done : goal.returns-in-Method-clause-done
returns-in-Method-clause-done c = λ named used. (method_calls c.args.image.now c.args.instr.now c.args.operand named used _ c.in-Method.is, refl)

pub returns-in-Nothing-clause-frugal : goal.returns-in-Nothing-clause-frugal
returns-in-Nothing-clause-frugal c = λ named used some frugal.
    c.act_unnamed.ensures.frugal c.args.statics.now c.args.literals.now c.requires.are
    (subst (λ (i : Instruction). IsFrugal c.args.image.now i (machine c.args.frames.now (store c.args.heap.now c.args.statics.now c.args.literals.now))) (nothing_is c.args.image.now c.args.instr.now c.args.operand named used c.in-Nothing.is) frugal)

pub returns-in-Int-clause-frugal : goal.returns-in-Int-clause-frugal
returns-in-Int-clause-frugal c = λ named used some frugal.
    c.act_literal.ensures.frugal c.args.image.now c.args.heap.now (values.Int c.in-Int.field-0) c.args.statics.now c.args.literals.now c.requires.are
    (subst (λ (i : Instruction). IsFrugal c.args.image.now i (machine c.args.frames.now (store c.args.heap.now c.args.statics.now c.args.literals.now))) (literal_is c.args.image.now c.args.instr.now c.args.operand named used (values.Int c.in-Int.field-0) (ap literal_value c.in-Int.is)) frugal)

pub returns-in-Long-clause-frugal : goal.returns-in-Long-clause-frugal
returns-in-Long-clause-frugal c = λ named used some frugal.
    c.act_literal-in-Long.ensures.frugal c.args.image.now c.args.heap.now (values.Long c.in-Long.field-0) c.args.statics.now c.args.literals.now c.requires.are
    (subst (λ (i : Instruction). IsFrugal c.args.image.now i (machine c.args.frames.now (store c.args.heap.now c.args.statics.now c.args.literals.now))) (literal_is c.args.image.now c.args.instr.now c.args.operand named used (values.Long c.in-Long.field-0) (ap literal_value c.in-Long.is)) frugal)

pub returns-in-Text-clause-frugal : goal.returns-in-Text-clause-frugal
returns-in-Text-clause-frugal c = λ named used some frugal.
    absurd (makes_nothing c.args.image.now _ _ (machine c.args.frames.now (store c.args.heap.now c.args.statics.now c.args.literals.now)) frugal (text_there c.args.image.now c.args.instr.now c.args.operand named used c.in-Text.text c.in-Text.is).1 refl)

pub returns-in-Class-clause-frugal : goal.returns-in-Class-clause-frugal
returns-in-Class-clause-frugal c = λ named used some frugal.
    c.act_class.ensures.frugal named (class_used c.args.image.now c.args.instr.now c.args.operand named used c.in-Class.class c.in-Class.is) c.args.statics.now c.args.literals.now c.requires.are frugal

pub returns-in-Field-clause-frugal : goal.returns-in-Field-clause-frugal
returns-in-Field-clause-frugal c = λ named used some frugal.
    c.act_field.ensures.frugal named (field_used c.args.image.now c.args.instr.now c.args.operand named used c.in-Field.field.number c.in-Field.is) c.args.literals.now c.requires.are frugal

pub returns-in-Unresolved-clause-frugal : goal.returns-in-Unresolved-clause-frugal
returns-in-Unresolved-clause-frugal c = λ named used some frugal. absurd (some c.in-Unresolved.is)
