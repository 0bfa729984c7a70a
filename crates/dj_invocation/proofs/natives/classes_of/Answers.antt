use Rattle.std.proofs.Common.{subst}
use Rattle.dj_names.specs.declared.descriptor.Ty.{Ty}
use Rattle.dj_image.specs.Imaged.{typed_of}
use Rattle.dj_invocation.specs.Natives.{SaysClass}
use Rattle.dj_invocation.proofs.NativeFacts.{classes_so_far}
use Rattle.dj_invocation.proofs.natives.classes_of.Goals as goal

pub loop-ty-preserved : goal.loop-ty-preserved
loop-ty-preserved c =
    classes_so_far (typed_of c.args.image.now) c.args.types.now c.loop-ty.ty-index c.loop-ty.classes.items c.push.new.self.items c.ty-item.result c.in_ok-class_of.field-0 c.loop-ty-test.true
    c.in_ok-push.ensures.items c.loop-ty.invariant
    (subst (λ (ty : Ty). SaysClass (typed_of c.args.image.now) ty c.in_ok-class_of.field-0) c.ty-item.is c.in_ok-class_of.ensures)
