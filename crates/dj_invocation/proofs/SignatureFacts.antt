-- The kinds of a method's parameters.
use Rattle.std.proofs.Common.{◌≡◌, List, Option, Some, None, sym, ap, ◌∙◌}
use Rattle.std.proofs.lemmas.Option.{none-some, same_Some}
use Rattle.dj_names.specs.declared.descriptor.Kind.{Kind}
use Rattle.dj_names.specs.declared.descriptor.Desc.{Desc}
use Rattle.dj_names.specs.declared.descriptor.Desc.TheVariants as descs
use Rattle.dj_names.specs.trusted.Descriptors.{type_kind}
use Rattle.dj_names.specs.trusted.Types.{parameters_of}
use Rattle.dj_model.specs.trusted.Linking.{FoundMethod}
use Rattle.dj_model.specs.trusted.Members.{kinds_of}
use Rattle.dj_model.specs.trusted.Kinds.{Signature, signature_with, signature_result, call_signature}
use Rattle.dj_shape_rule.specs.Pools.{call_at}
use Rattle.dj_numbering.specs.declared.types.MethodId.{MethodId}
use Rattle.dj_image.specs.declared.shaped.ShapeParts.{ShapeParts}
use Rattle.dj_image.specs.Imaged.{Imaged, program_of}
use Rattle.dj_image.specs.Shaped.{AreShapeParts}
use Rattle.dj_invocation.specs.Choosing.{IsMethod}

-- the call that is kept is of the method's descriptor
pub call_reported : (imaged : Imaged) (method : MethodId) (found : FoundMethod) (parts : ShapeParts) → AreShapeParts imaged method.number parts → IsMethod (program_of imaged) method found
    → call_signature found.method.desc ≡ call_at parts.kinds.now.calls parts.desc
call_reported imaged method found parts are there =
    ap (λ (f : FoundMethod). call_signature f.method.desc) (same_Some found are.found (sym there ∙ are.there))
    ∙ (ap call_signature (sym are.desc.is) ∙ are.kinds.calls parts.desc are.desc.spelled)

with_given : (kind : Option Kind) (parameters : Option (List Kind)) (signature : Signature) → signature_with kind parameters ≡ Some signature → parameters ≡ Some signature.parameters
with_given kind None signature e = absurd (none-some signature e)
with_given kind (Some parameters) signature e = ap (λ (s : Signature). Some s.parameters) (same_Some (record { parameters = parameters; result = kind }) signature e)

-- where a descriptor has a signature its parameters have kinds
pub kinds_there : (desc : Desc) (signature : Signature) → call_signature desc ≡ Some signature → kinds_of (parameters_of desc) ≡ Some signature.parameters
kinds_there (descs.Field ty) signature e = absurd (none-some signature e)
kinds_there (descs.Method params None) signature e = with_given None (kinds_of params) signature e
kinds_there (descs.Method params (Some ret)) signature e = by (type_kind ret) e where
  by : (kind : Option Kind) → signature_result kind (kinds_of params) ≡ Some signature → kinds_of params ≡ Some signature.parameters
  by None e = absurd (none-some signature e)
  by (Some kind) e = with_given (Some kind) (kinds_of params) signature e
