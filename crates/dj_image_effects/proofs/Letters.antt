-- The kind of a field by the first letter of its descriptor.
use Rattle.std.proofs.Common.{◌≡◌, ℕ, zero, suc, List, Some, None, refl, ap, ◌∙◌, codes}
use Rattle.dj_names.specs.declared.descriptor.Base.TheVariants as bases
use Rattle.dj_names.specs.declared.descriptor.Of.{Of}
use Rattle.dj_names.specs.declared.descriptor.Of.TheVariants as ofs
use Rattle.dj_names.specs.declared.descriptor.Desc.{Desc}
use Rattle.dj_names.specs.declared.descriptor.Desc.TheVariants as descs
use Rattle.dj_names.specs.declared.descriptor.Kind.TheVariants as kinds
use Rattle.dj_names.specs.trusted.Descriptors.{Describes, desc_text, type_kind, type_text}
use Rattle.dj_names.specs.trusted.Types.{field_kind}
use Rattle.dj_image_effects.specs.Kinds.{kind_by}

type_reported : (dims : ℕ) (of : Of) → kind_by (type_text (record { dims = dims; of = of })) ≡ type_kind (record { dims = dims; of = of })
type_reported zero (ofs.Base bases.Boolean) = refl
type_reported zero (ofs.Base bases.Byte) = refl
type_reported zero (ofs.Base bases.Char) = refl
type_reported zero (ofs.Base bases.Short) = refl
type_reported zero (ofs.Base bases.Int) = refl
type_reported zero (ofs.Base bases.Long) = refl
type_reported zero (ofs.Base bases.Float) = refl
type_reported zero (ofs.Base bases.Double) = refl
type_reported zero (ofs.Class name) = refl
type_reported (suc n) of = refl

desc_reported : (desc : Desc) → kind_by (desc_text desc) ≡ field_kind desc
desc_reported (descs.Field ty) = type_reported ty.dims ty.of
desc_reported (descs.Method params ret) = refl

pub kind_reported : (text : List ℕ) (desc : Desc) → Describes text desc → kind_by text ≡ field_kind desc
kind_reported text desc d = ap kind_by d.text_is ∙ desc_reported desc

-- an array of ints is a reference, and a float has no kind
by_letters : kind_by (codes "I") ≡ Some kinds.Int
by_letters = refl

arrays_are : kind_by (codes "[I") ≡ Some kinds.Ref
arrays_are = refl

no_kind : kind_by (codes "F") ≡ None
no_kind = refl
