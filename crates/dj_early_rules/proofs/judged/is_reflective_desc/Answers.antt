use Rattle.std.proofs.Common.{◌∙◌, Err, subst}
use Rattle.dj_names.specs.declared.descriptor.Desc.TheVariants as descs
use Rattle.dj_names.specs.trusted.Descriptors.{Describes}
use Rattle.dj_names.proofs.DescLaws.{described_once}
use Rattle.dj_early_rules.proofs.Stands.{reflective_array, reflective_none, field_no_method}
use Rattle.dj_early_rules.proofs.judged.is_reflective_desc.Goals as goal

pub returns-in-Ok-Field : goal.returns-in-Ok-Field
returns-in-Ok-Field c =
    reflective_array c.args.text.now c.in-Ok-Field.ty c.is_reflective_array.result
    c.requires
    (subst (Describes c.args.text.now) c.in-Ok-Field.field-0-is c.in-Ok-Field.ensures.ok)
    c.is_reflective_array.ensures

pub returns-in-Ok-Method : goal.returns-in-Ok-Method
returns-in-Ok-Method c =
    reflective_none c.args.text.now
    c.requires
    (λ ty described. field_no_method ty c.in-Ok-Method.field-0-0 c.in-Ok-Method.field-0-1
    (described_once c.args.text.now (descs.Field ty) c.in-Ok-Method.field-0 described c.in-Ok-Method.ensures.ok ∙ c.in-Ok-Method.field-0-is))

pub returns-in-Err-NotADescriptor : goal.returns-in-Err-NotADescriptor
returns-in-Err-NotADescriptor c =
    reflective_none c.args.text.now
    c.requires
    (λ ty. c.in-Err-NotADescriptor.ensures.refused (λ i. Err (c.in-Err-NotADescriptor.field-0-is i)) (descs.Field ty))
