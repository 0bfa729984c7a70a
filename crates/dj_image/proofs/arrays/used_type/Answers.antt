use Rattle.std.proofs.Common.{ap, subst, arith}
use Rattle.dj_names.specs.declared.descriptor.Ty.{Ty}
use Rattle.dj_image.specs.ArrayRows.{IsFitUse}
use Rattle.dj_image.proofs.ClassTexts.{named_dims}
use Rattle.dj_image.proofs.arrays.used_type.Goals as goal

pub overflow_add-result : goal.overflow_add-result
overflow_add-result c =
    let dims = ap (λ (ty : Ty). ty.dims) c.text_type-element.ensures in
    omega (arith, dims, named_dims c.args.pool.now c.in-Element.text (subst (IsFitUse c.args.pool.now) c.in-Element.is c.requires))
