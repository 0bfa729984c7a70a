use Rattle.std.proofs.Common.{sym, subst, ◌∙◌}
use Rattle.std.specs.Prelude.{IfOk}
use Rattle.dj_model.specs.trusted.Instructions.{Instruction}
use Rattle.dj_image_effects.specs.Frugal.{FrugalOnFields}
use Rattle.dj_image_effects.specs.Used.{ActsOnFields}
use Rattle.dj_image_effects.proofs.UsedFacts.{get_static_found, put_static_found, is_get_static, is_put_static, is_get, is_put, is_neither, other_on_heap}
use Rattle.dj_image_effects.proofs.OperandFacts.{if_ok_so}
use Rattle.dj_image_effects.proofs.members.act_field.Goals as goal

pub act_get_static-requires-clause-found : goal.act_get_static-requires-clause-found
act_get_static-requires-clause-found c = get_static_found c.args.image.now c.args.instr.now c.args.field.number c.requires.used.0 c.requires.used.1 (sym c.field_use.ensures ∙ c.in-GetStatic.is)

pub act_put_static-requires-clause-found : goal.act_put_static-requires-clause-found
act_put_static-requires-clause-found c = put_static_found c.args.image.now c.args.instr.now c.args.field.number c.requires.used.0 c.requires.used.1 (sym c.field_use.ensures ∙ c.in-PutStatic.is)

pub returns-in-GetStatic-clause-done : goal.returns-in-GetStatic-clause-done
returns-in-GetStatic-clause-done c = λ named used.
    subst (λ (i : Instruction). IfOk c.act_get_static.result (λ acted. ActsOnFields c.args.image.now i c.args.frames.now c.act_get_static.new.frames c.args.heap.now c.args.heap.now c.args.statics.now c.args.statics.now acted))
    (sym (is_get_static c.args.image.now c.args.instr.now c.args.field.number named used (sym c.field_use.ensures ∙ c.in-GetStatic.is))) (if_ok_so c.act_get_static.result _ _ (λ acted a literals are. a c.args.heap.now literals are) (c.act_get_static.ensures.done used.member used.found used.is))

pub returns-in-PutStatic-clause-done : goal.returns-in-PutStatic-clause-done
returns-in-PutStatic-clause-done c = λ named used.
    subst (λ (i : Instruction). ActsOnFields c.args.image.now i c.args.frames.now c.act_put_static.new.frames c.args.heap.now c.args.heap.now c.args.statics.now c.act_put_static.new.statics c.act_put_static.result)
    (sym (is_put_static c.args.image.now c.args.instr.now c.args.field.number named used (sym c.field_use.ensures ∙ c.in-PutStatic.is))) (λ literals are. (c.act_put_static.ensures used.member used.found used.is c.args.heap.now literals are))

pub returns-in-Get-clause-done : goal.returns-in-Get-clause-done
returns-in-Get-clause-done c = λ named used.
    subst (λ (i : Instruction). ActsOnFields c.args.image.now i c.args.frames.now c.act_get_field.new.frames c.args.heap.now c.args.heap.now c.args.statics.now c.args.statics.now c.act_get_field.result)
    (sym (is_get c.args.image.now c.args.instr.now c.args.field.number named used (sym c.field_use.ensures ∙ c.in-Get.is))) (λ literals are. (c.act_get_field.ensures used.member used.found used.is c.args.statics.now literals are))

pub returns-in-Put-clause-done : goal.returns-in-Put-clause-done
returns-in-Put-clause-done c = λ named used.
    subst (λ (i : Instruction). IfOk c.act_put_field.result (λ acted. ActsOnFields c.args.image.now i c.args.frames.now c.act_put_field.new.frames c.args.heap.now c.act_put_field.new.heap c.args.statics.now c.args.statics.now acted))
    (sym (is_put c.args.image.now c.args.instr.now c.args.field.number named used (sym c.field_use.ensures ∙ c.in-Put.is))) (if_ok_so c.act_put_field.result _ _ (λ acted a literals are. a c.args.statics.now literals are) (c.act_put_field.ensures.done used.member used.found used.is))

pub returns-in-Neither-clause-done : goal.returns-in-Neither-clause-done
returns-in-Neither-clause-done c = λ named used literals are.
    other_on_heap c.args.image.now _ c.args.frames.now c.args.heap.now (is_neither c.args.image.now c.args.instr.now c.args.field.number named used (sym c.field_use.ensures ∙ c.in-Neither.is)) c.args.statics.now literals are

pub returns-in-GetStatic-clause-frugal : goal.returns-in-GetStatic-clause-frugal
returns-in-GetStatic-clause-frugal c = λ named used.
    subst (λ (i : Instruction). FrugalOnFields c.args.image.now i c.args.frames.now c.args.heap.now c.args.statics.now c.act_get_static.result)
    (sym (is_get_static c.args.image.now c.args.instr.now c.args.field.number named used (sym c.field_use.ensures ∙ c.in-GetStatic.is)))
    (λ literals are frugal. c.act_get_static.ensures.frugal used.member c.args.heap.now literals are frugal)

pub returns-in-Put-clause-frugal : goal.returns-in-Put-clause-frugal
returns-in-Put-clause-frugal c = λ named used.
    subst (λ (i : Instruction). FrugalOnFields c.args.image.now i c.args.frames.now c.args.heap.now c.args.statics.now c.act_put_field.result)
    (sym (is_put c.args.image.now c.args.instr.now c.args.field.number named used (sym c.field_use.ensures ∙ c.in-Put.is)))
    (λ literals are frugal. c.act_put_field.ensures.frugal used.member used.found used.is c.args.statics.now literals are frugal)
