-- The laws of renamed texts.
use Rattle.std.proofs.Common.{◌≡◌, refl, sym, ap, ◌∙◌, inl, inr}
use Rattle.dj_names.specs.declared.descriptor.Of.{Of}
use Rattle.dj_names.specs.declared.descriptor.Of.TheVariants as ofs
use Rattle.dj_names.specs.declared.descriptor.Ty.{Ty}
use Rattle.dj_names.specs.trusted.Types.{Name}
use Rattle.dj_names.specs.Types.{type_map, desc_map, in_sandbox, sandbox_prefix}
use Rattle.dj_pool.specs.trusted.Pool.{IsClassText}
use Rattle.dj_model.specs.trusted.Natives.{class_name, plain_class}
use Rattle.dj_declarations.specs.trusted.Files.{type_in}
use Rattle.dj_rename.specs.Names.{plain_text}
use Rattle.dj_rename.specs.Laws.{ClassesInSandbox, DescsInSandbox, PlainUndoes}
use Rattle.dj_rename.proofs.ClassTexts.{name_type, array_type}
use Rattle.dj_rename.proofs.NameLaws.{type_renamed, desc_renamed, renamed_class_text, renamed_describes}
use Rattle.dj_rename.proofs.TextLaws.{array_spelled}

plain_again : (ty : Ty) → plain_class sandbox_prefix (type_map in_sandbox ty) ≡ ty
plain_again ty = go ty.of where
  go : (of : Of) → plain_class sandbox_prefix (type_map in_sandbox (record { dims = ty.dims; of = of })) ≡ record { dims = ty.dims; of = of }
  go (ofs.Base base) = refl
  go (ofs.Class name) = refl

class_again : (text : Name) → IsClassText text → class_name (type_in text) ≡ text
class_again text (inl name) = ap class_name (name_type text name)
class_again text (inr array) = ap class_name (array_type text array.0 array.1 array.2) ∙ array_spelled array.0 array.1 ∙ sym array.2.text_is

pub plain_undoes : PlainUndoes
unfolding plain_text
plain_undoes text is =
    ap (λ (ty : Ty). class_name (plain_class sandbox_prefix ty)) (type_renamed text is)
    ∙ ap class_name (plain_again (type_in text))
    ∙ class_again text is

pub classes_in_sandbox : ClassesInSandbox
classes_in_sandbox text is = record { valid = renamed_class_text text is; named = type_renamed text is }

pub descs_in_sandbox : DescsInSandbox
descs_in_sandbox text d = record { valid = (desc_map in_sandbox d.0, renamed_describes text d.0 d.1); described = desc_renamed text d.0 d.1 }
