-- What a class's text is renamed to, by how it begins.
use Rattle.std.proofs.Common.{◌≡◌, ℕ, zero, suc, ◌≤◌, true, false, List, [], ◌∷◌, refl, sym, ap, ◌∙◌, arith, inl, inr, Option}
use Rattle.std.specs.Prelude.{nat_eq}
use Rattle.std.specs.List.{starts_with}
use Rattle.std.proofs.lemmas.Bool.{ne_eqb}
use Rattle.dj_names.specs.declared.descriptor.Ty.{Ty}
use Rattle.dj_names.specs.declared.descriptor.Desc.{Desc}
use Rattle.dj_names.specs.declared.descriptor.Desc.TheVariants as descs
use Rattle.dj_names.specs.trusted.Names.{IsClassName}
use Rattle.dj_names.specs.trusted.Types.{Name}
use Rattle.dj_names.specs.Types.{type_map, desc_map, in_sandbox, sandbox_prefix}
use Rattle.dj_names.specs.trusted.Descriptors.{Describes, IsArrayDescriptor, type_text, desc_text}
use Rattle.dj_pool.specs.trusted.Pool.{IsClassText}
use Rattle.dj_model.specs.trusted.Natives.{class_name, plain_name, plain_class}
use Rattle.dj_declarations.specs.trusted.Files.{type_in, desc_in}
use Rattle.dj_rename.specs.Names.{renamed_class, renamed_desc, plain_text}
use Rattle.dj_rename.specs.Refusals.{IsDescriptor}
use Rattle.dj_rename.proofs.ClassTexts.{desc_in_is, name_type, name_starts, array_type, array_begins}

pub array_there : (text : Name) → IsClassText text → starts_with nat_eq text (91 ∷ []) ≡ true → IsArrayDescriptor text
array_there text (inl name) e = let no = name_starts text name in absurd cc
array_there text (inr array) e = array

pub name_there : (text : Name) → IsClassText text → starts_with nat_eq text (91 ∷ []) ≡ false → IsClassName text
name_there text (inl name) e = name
name_there text (inr array) e = let yes = array_begins text array in absurd cc

-- an array's text is the type's
pub array_spelled : (ty : Ty) → 1 ≤ ty.dims → class_name ty ≡ type_text ty
array_spelled ty some = go ty.dims some where
  go : (dims : ℕ) → 1 ≤ dims → class_name (record { dims = dims; of = ty.of }) ≡ type_text (record { dims = dims; of = ty.of })
  go zero some = absurd (omega arith)
  go (suc dims) some = let no : nat_eq (suc dims) 0 ≡ false = ne_eqb (suc dims) 0 (λ e. absurd (omega (arith, e))) in rw no refl

array_dims : (text : Name) → IsArrayDescriptor text → 1 ≤ (type_in text).dims
array_dims text a = let e = array_type text a.0 a.1 a.2 in rw e a.1

pub array_renamed : (text : Name) → IsClassText text → starts_with nat_eq text (91 ∷ []) ≡ true → renamed_class text ≡ type_text (type_map in_sandbox (type_in text))
unfolding renamed_class
array_renamed text is e = array_spelled (type_map in_sandbox (type_in text)) (array_dims text (array_there text is e))

pub array_plain : (text : Name) → IsClassText text → starts_with nat_eq text (91 ∷ []) ≡ true → plain_text text ≡ type_text (plain_class sandbox_prefix (type_in text))
unfolding plain_text
array_plain text is e = array_spelled (plain_class sandbox_prefix (type_in text)) (array_dims text (array_there text is e))

pub name_renamed : (text : Name) → IsClassText text → starts_with nat_eq text (91 ∷ []) ≡ false → renamed_class text ≡ in_sandbox text
unfolding renamed_class
name_renamed text is e = ap (λ (ty : Ty). class_name (type_map in_sandbox ty)) (name_type text (name_there text is e))

pub name_plain : (text : Name) → IsClassText text → starts_with nat_eq text (91 ∷ []) ≡ false → plain_text text ≡ plain_name sandbox_prefix text
unfolding plain_text
name_plain text is e = ap (λ (ty : Ty). class_name (plain_class sandbox_prefix ty)) (name_type text (name_there text is e))

pub desc_spelled : (text : Name) → renamed_desc text ≡ desc_text (desc_map in_sandbox (desc_in text))
unfolding renamed_desc
desc_spelled text = refl

-- ---- reading

pub desc_is : (text : Name) (desc : Desc) → Describes text desc → desc ≡ desc_in text
desc_is text desc d = sym (desc_in_is text desc d)

pub array_described : (text : Name) → IsArrayDescriptor text → IsDescriptor text
array_described text a = (descs.Field a.0, a.2)

pub array_ty : (text : Name) (ty : Ty) → IsArrayDescriptor text → descs.Field ty ≡ desc_in text → ty ≡ type_in text
array_ty text ty a e =
    let same : descs.Field ty ≡ descs.Field a.0 = e ∙ desc_in_is text (descs.Field a.0) a.2 in
    let types : ty ≡ a.0 = cc in
    types ∙ sym (array_type text a.0 a.1 a.2)

pub array_no_method : (text : Name) (params : List Ty) (ret : Option Ty) → IsArrayDescriptor text → descs.Method params ret ≡ desc_in text → ⊥
array_no_method text params ret a e =
    let other : descs.Method params ret ≡ descs.Field a.0 = e ∙ desc_in_is text (descs.Field a.0) a.2 in absurd cc
