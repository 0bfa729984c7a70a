use Rattle.std.proofs.Common.{List, ap, sym, subst, ◌∙◌, IfOk}
use Rattle.dj_names.specs.declared.descriptor.Ty.{Ty}
use Rattle.dj_names.specs.trusted.Types.{parameters_of}
use Rattle.dj_declarations.proofs.DescTests.{desc_in_is}
use Rattle.dj_image.specs.Imaged.{typed_of}
use Rattle.dj_invocation.specs.Natives.{AreClasses}
use Rattle.dj_invocation.proofs.natives.classes_in.Goals as goal

pub returns-in-Method : goal.returns-in-Method
returns-in-Method c = λ desc d.
    subst (λ (types : List Ty). IfOk c.classes_of.result (λ row. AreClasses (typed_of c.args.image.now) types row.items))
    (c.as_slice.ensures ∙ (sym (ap parameters_of c.in-Method.is)
    ∙ ap parameters_of (sym (desc_in_is c.args.text.now c.in_ok-params.field-0 c.in_ok-params.ensures.ok) ∙ desc_in_is c.args.text.now desc d)))
    c.classes_of.ensures
