-- Renamed texts spell renamed types.
use Rattle.std.proofs.Common.{◌≡◌, ℕ, zero, suc, ◌+◌, ◌≤◌, false, List, [], ◌∷◌, ◌++◌, map, Option, Some, None, ◌≢◌, refl, sym, ap, subst, ◌∙◌, arith, inl, inr, codes, sum_by, IfSome, nat_eq}
use Rattle.std.specs.Option.{option_map}
use Rattle.std.specs.List.{AllByRecursion, join_with_byte}
use Rattle.dj_names.specs.declared.descriptor.Of.{Of}
use Rattle.dj_names.specs.declared.descriptor.Of.TheVariants as ofs
use Rattle.dj_names.specs.declared.descriptor.Ty.{Ty}
use Rattle.dj_names.specs.declared.descriptor.Desc.{Desc}
use Rattle.dj_names.specs.declared.descriptor.Desc.TheVariants as descs
use Rattle.dj_names.specs.trusted.Names.{IsClassName, IsNameByte}
use Rattle.dj_names.specs.trusted.Types.{Name, of_map}
use Rattle.dj_names.specs.Types.{type_map, desc_map, in_sandbox}
use Rattle.dj_names.specs.trusted.Descriptors.{NamesClass, IsType, IsDesc, Describes, IsFieldDescriptor, IsMethodDescriptor, type_slots, type_text, desc_text}
use Rattle.std.proofs.lemmas.List.Sums.{sum_by-cons}
use Rattle.std.proofs.lemmas.Bool.{eqb-false, ne_eqb}
use Rattle.dj_rename.proofs.ClassTexts.{desc_in_is, name_type, array_type}
use Rattle.dj_pool.specs.trusted.Pool.{IsClassText}
use Rattle.dj_model.specs.trusted.Natives.{class_name}
use Rattle.dj_declarations.specs.trusted.Files.{type_in, desc_in}
use Rattle.dj_rename.specs.Names.{renamed_class, renamed_desc}

-- ---- valid names and types stay valid

joined_after : (first : Name) (parts : List Name) → parts ≢ [] → first ++ 47 ∷ join_with_byte 47 parts ≡ join_with_byte 47 (first ∷ parts)
joined_after first [] some = absurd (some refl)
joined_after first (p ∷ parts) some = refl

letters : AllByRecursion IsNameByte (codes "sandbox")
letters = (at 115 refl refl refl refl, (at 97 refl refl refl refl, (at 110 refl refl refl refl, (at 100 refl refl refl refl, (at 98 refl refl refl refl, (at 111 refl refl refl refl, (at 120 refl refl refl refl, tt))))))) where
  at : (b : ℕ) → nat_eq b 46 ≡ false → nat_eq b 59 ≡ false → nat_eq b 91 ≡ false → nat_eq b 47 ≡ false → IsNameByte b
  at b d s o l = record { not_dot = eqb-false b 46 d; not_semicolon = eqb-false b 59 s; not_bracket = eqb-false b 91 o; not_slash = eqb-false b 47 l }

pub sandbox_name : (name : Name) → IsClassName name → IsClassName (in_sandbox name)
sandbox_name name is = record {
  parts = codes "sandbox" ∷ is.parts;
  some = λ e. absurd cc;
  names = (record { some = λ e. absurd cc; bytes = letters }, is.names);
  joined = ap (λ (x : Name). codes "sandbox" ++ 47 ∷ x) is.joined ∙ joined_after (codes "sandbox") is.parts is.some;
}

names_class : (of : Of) → NamesClass of → NamesClass (of_map in_sandbox of)
names_class (ofs.Base base) h = h
names_class (ofs.Class name) h = sandbox_name name h

pub sandbox_type : (ty : Ty) → IsType ty → IsType (type_map in_sandbox ty)
sandbox_type ty h = record { few = h.few; named = names_class ty.of h.named }

pub same_slots : (ty : Ty) → type_slots (type_map in_sandbox ty) ≡ type_slots ty
same_slots ty = go ty.dims ty.of where
  go : (dims : ℕ) (of : Of) → type_slots (record { dims = dims; of = of_map in_sandbox of }) ≡ type_slots (record { dims = dims; of = of })
  go zero (ofs.Base base) = refl
  go (suc n) (ofs.Base base) = refl
  go zero (ofs.Class name) = refl
  go (suc n) (ofs.Class name) = refl

sandbox_types : (types : List Ty) → AllByRecursion IsType types → AllByRecursion IsType (map (type_map in_sandbox) types)
sandbox_types [] h = tt
sandbox_types (ty ∷ types) h = (sandbox_type ty h.0, sandbox_types types h.1)

same_sums : (types : List Ty) → sum_by type_slots (map (type_map in_sandbox) types) ≡ sum_by type_slots types
same_sums [] = refl
same_sums (ty ∷ types) =
    sum_by-cons type_slots (type_map in_sandbox ty) (map (type_map in_sandbox) types)
    ∙ omega (arith, same_slots ty, same_sums types, sum_by-cons type_slots ty types)

sandbox_result : (ret : Option Ty) → IfSome ret IsType → IfSome (option_map (type_map in_sandbox) ret) IsType
sandbox_result None h = h
sandbox_result (Some ty) h = sandbox_type ty h

pub sandbox_desc : (d : Desc) → IsDesc d → IsDesc (desc_map in_sandbox d)
sandbox_desc (descs.Field ty) h = sandbox_type ty h
sandbox_desc (descs.Method params ret) h = (sandbox_types params h.0, sandbox_result ret h.1, subst (λ (n : ℕ). n ≤ 255) (sym (same_sums params)) h.2)

-- ---- what a renamed text spells

pub renamed_describes : (text : Name) (d : Desc) → Describes text d → Describes (renamed_desc text) (desc_map in_sandbox d)
unfolding renamed_desc
renamed_describes text d h = record {
  text_is = ap (λ (x : Desc). desc_text (desc_map in_sandbox x)) (desc_in_is text d h);
  valid = sandbox_desc d h.valid;
}

pub desc_renamed : (text : Name) (d : Desc) → Describes text d → desc_in (renamed_desc text) ≡ desc_map in_sandbox (desc_in text)
desc_renamed text d h = desc_in_is (renamed_desc text) (desc_map in_sandbox d) (renamed_describes text d h) ∙ sym (ap (desc_map in_sandbox) (desc_in_is text d h))

-- a class constant's text
array_name : (dims : ℕ) (of : Of) → 1 ≤ dims → class_name (record { dims = dims; of = of_map in_sandbox of }) ≡ type_text (record { dims = dims; of = of_map in_sandbox of })
array_name zero of some = absurd (omega arith)
array_name (suc dims) of some = let no : nat_eq (suc dims) 0 ≡ false = ne_eqb (suc dims) 0 (λ e. absurd (omega (arith, e))) in rw no refl

of_array : (ty : Ty) → IsType ty → 1 ≤ ty.dims → type_in (class_name (type_map in_sandbox ty)) ≡ type_map in_sandbox ty
of_array ty is some =
    ap type_in (array_name ty.dims ty.of some)
    ∙ array_type (type_text (type_map in_sandbox ty)) (type_map in_sandbox ty) some (record { text_is = refl; valid = sandbox_type ty is })

pub type_renamed : (text : Name) → IsClassText text → type_in (renamed_class text) ≡ type_map in_sandbox (type_in text)
unfolding renamed_class
type_renamed text (inl name) =
    ap (λ (ty : Ty). type_in (class_name (type_map in_sandbox ty))) (name_type text name)
    ∙ name_type (in_sandbox text) (sandbox_name text name)
    ∙ sym (ap (type_map in_sandbox) (name_type text name))
type_renamed text (inr array) =
    ap (λ (ty : Ty). type_in (class_name (type_map in_sandbox ty))) (array_type text array.0 array.1 array.2)
    ∙ of_array array.0 array.2.valid array.1
    ∙ sym (ap (type_map in_sandbox) (array_type text array.0 array.1 array.2))

-- and it is one that a class constant may have
pub renamed_class_text : (text : Name) → IsClassText text → IsClassText (renamed_class text)
unfolding renamed_class
renamed_class_text text (inl name) =
    subst (λ (ty : Ty). IsClassText (class_name (type_map in_sandbox ty))) (sym (name_type text name)) (inl (sandbox_name text name))
renamed_class_text text (inr array) =
    subst (λ (ty : Ty). IsClassText (class_name (type_map in_sandbox ty))) (sym (array_type text array.0 array.1 array.2))
    (inr (type_map in_sandbox array.0, array.1, record { text_is = array_name array.0.dims array.0.of array.1; valid = sandbox_type array.0 array.2.valid }))

-- ---- descriptors stay of their kind

pub field_renamed : (text : Name) → IsFieldDescriptor text → IsFieldDescriptor (renamed_desc text)
field_renamed text h = (type_map in_sandbox h.0, renamed_describes text (descs.Field h.0) h.1)

pub method_renamed : (text : Name) → IsMethodDescriptor text → IsMethodDescriptor (renamed_desc text)
method_renamed text h = let d = renamed_describes text (descs.Method h.0 h.1) h.2 in (_, _, d)
