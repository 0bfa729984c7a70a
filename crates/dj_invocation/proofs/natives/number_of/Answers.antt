use Rattle.std.proofs.Common.{◌≡◌, Some, ap, sym, subst, ◌∙◌, IfSome}
use Rattle.std.specs.Prelude.{slice_get}
use Rattle.dj_names.specs.declared.descriptor.Of.TheVariants as ofs
use Rattle.dj_names.specs.declared.descriptor.Ty.{Ty}
use Rattle.dj_names.specs.trusted.Types.{Name}
use Rattle.dj_numbering.specs.Typed.{types_of}
use Rattle.dj_image.specs.Imaged.{typed_of}
use Rattle.dj_invocation.proofs.natives.number_of.Goals as goal

pub returns-in-Class : goal.returns-in-Class
returns-in-Class c =
    subst (λ (ty : Ty). IfSome c.named_class.result (λ class. slice_get (types_of (typed_of c.args.image.now)) class ≡ Some ty))
    (ap (λ (name : Name). record { dims = c.args.ty.now.dims; of = ofs.Class name }) c.as_slice.ensures ∙ (λ i. record { dims = c.args.ty.now.dims; of = sym c.in-Class.is i }))
    c.named_class.ensures

pub returns-in-Base : goal.returns-in-Base
returns-in-Base c =
    subst (λ (ty : Ty). IfSome c.array_class.result (λ class. slice_get (types_of (typed_of c.args.image.now)) class ≡ Some ty))
    (λ i. record { dims = c.args.ty.now.dims; of = sym c.in-Base.is i })
    c.array_class.ensures
