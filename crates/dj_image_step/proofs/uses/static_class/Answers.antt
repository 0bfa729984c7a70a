use Rattle.std.proofs.Common.{refl, sym, ◌∙◌}
use Rattle.dj_image_effects.specs.declared.uses.FieldUse.TheVariants as fields
use Rattle.dj_image_step.proofs.UsedLaws.{field_used_by, no_field_used}
use Rattle.dj_image_step.proofs.uses.static_class.Goals as goal

pub returns-in-GetStatic : goal.returns-in-GetStatic
returns-in-GetStatic c = λ named is. field_used_by c.args.image.now c.args.instr.now c.args.field.number c.field.result named fields.GetStatic (sym c.in-GetStatic.is ∙ c.field_use.ensures) is c.field.ensures

pub returns-in-PutStatic : goal.returns-in-PutStatic
returns-in-PutStatic c = λ named is.
    field_used_by c.args.image.now c.args.instr.now c.args.field.number c.field-in-PutStatic.result named fields.PutStatic (sym c.in-PutStatic.is ∙ c.field_use.ensures) is c.field-in-PutStatic.ensures

pub returns-in-Get : goal.returns-in-Get
returns-in-Get c = λ named is. no_field_used c.args.image.now c.args.instr.now c.args.field.number named fields.Get (sym c.in-Get.is ∙ c.field_use.ensures) is refl

pub returns-in-Put : goal.returns-in-Put
returns-in-Put c = λ named is. no_field_used c.args.image.now c.args.instr.now c.args.field.number named fields.Put (sym c.in-Put.is ∙ c.field_use.ensures) is refl

pub returns-in-Neither : goal.returns-in-Neither
returns-in-Neither c = λ named is. no_field_used c.args.image.now c.args.instr.now c.args.field.number named fields.Neither (sym c.in-Neither.is ∙ c.field_use.ensures) is refl
