-- Descriptors of fields and methods (JVMS 4.3), and the slots and kinds of their types.
use Rattle.std.specs.Prelude.{◌≡◌, ℕ, zero, ◌≤◌, List, ◌++◌, Option, Some, None, IfSome, codes, replicate, sum_by}
use Rattle.std.specs.List.{flat_map, AllByRecursion}
use Rattle.dj_names.specs.declared.descriptor.Base.{Base}
use Rattle.dj_names.specs.declared.descriptor.Base.TheVariants as bases
use Rattle.dj_names.specs.declared.descriptor.Of.{Of}
use Rattle.dj_names.specs.declared.descriptor.Of.TheVariants as ofs
use Rattle.dj_names.specs.declared.descriptor.Ty.{Ty}
use Rattle.dj_names.specs.declared.descriptor.Desc.{Desc}
use Rattle.dj_names.specs.declared.descriptor.Desc.TheVariants as descs
use Rattle.dj_names.specs.declared.descriptor.Kind.{Kind}
use Rattle.dj_names.specs.declared.descriptor.Kind.TheVariants as kinds
use Rattle.dj_names.specs.trusted.Names.{IsClassName}

-- JVMS table 4.3-A
abbrev pub base_letter : Base → List ℕ
base_letter bases.Boolean = codes "Z"
base_letter bases.Byte = codes "B"
base_letter bases.Char = codes "C"
base_letter bases.Short = codes "S"
base_letter bases.Int = codes "I"
base_letter bases.Long = codes "J"
base_letter bases.Float = codes "F"
base_letter bases.Double = codes "D"

abbrev pub of_text : Of → List ℕ
of_text (ofs.Base base) = base_letter base
of_text (ofs.Class name) = codes "L" ++ name ++ codes ";"

-- a bracket for each dimension, and then the element's type
abbrev pub type_text : Ty → List ℕ
type_text ty = replicate ty.dims 91 ++ of_text ty.of

abbrev pub return_text : Option Ty → List ℕ
return_text None = codes "V"
return_text (Some ty) = type_text ty

abbrev pub desc_text : Desc → List ℕ
desc_text (descs.Field ty) = type_text ty
desc_text (descs.Method params ret) = codes "(" ++ flat_map type_text params ++ codes ")" ++ return_text ret

-- a long or a double takes two slots, every other type one
abbrev pub type_slots : Ty → ℕ
type_slots ty = slots_at ty.dims ty.of where
  slots_at : ℕ → Of → ℕ
  slots_at zero (ofs.Base bases.Long) = 2
  slots_at zero (ofs.Base bases.Double) = 2
  slots_at _ _ = 1

-- the slots of the parameters, `this` not counted
abbrev pub slots_of : Desc → ℕ
slots_of (descs.Field ty) = 0
slots_of (descs.Method params ret) = sum_by type_slots params

abbrev pub NamesClass : Of → Type 0
NamesClass (ofs.Base base) = Unit {0}
NamesClass (ofs.Class name) = IsClassName name

-- at most 255 dimensions
pub record IsType (ty : Ty) : Type 0 where
  pub few : ty.dims ≤ 255
  pub named : NamesClass ty.of

-- at most 255 slots of parameters
abbrev pub IsDesc : Desc → Type 0
IsDesc (descs.Field ty) = IsType ty
IsDesc (descs.Method params ret) =
    AllByRecursion IsType params × IfSome ret IsType × (sum_by type_slots params ≤ 255)

-- the text is that of the descriptor, which is valid
pub record Describes (text : List ℕ) (desc : Desc) : Type 0 where
  pub text_is : text ≡ desc_text desc
  pub valid : IsDesc desc

-- JVMS 4.3.2
abbrev pub IsFieldDescriptor : List ℕ → Type 0
IsFieldDescriptor text = (ty : Ty) × Describes text (descs.Field ty)

-- JVMS 4.3.3
abbrev pub IsMethodDescriptor : List ℕ → Type 0
IsMethodDescriptor text = (params : List Ty) × (ret : Option Ty) × Describes text (descs.Method params ret)

-- JVMS 4.4.1: the descriptor of an array, which a class constant may name
abbrev pub IsArrayDescriptor : List ℕ → Type 0
IsArrayDescriptor text = (ty : Ty) × (1 ≤ ty.dims) × Describes text (descs.Field ty)

-- the kind of a value of the type; a float or a double has none
abbrev pub type_kind : Ty → Option Kind
type_kind ty = kind_at ty.dims ty.of where
  kind_at : ℕ → Of → Option Kind
  kind_at zero (ofs.Base bases.Boolean) = Some kinds.Int
  kind_at zero (ofs.Base bases.Byte) = Some kinds.Int
  kind_at zero (ofs.Base bases.Char) = Some kinds.Int
  kind_at zero (ofs.Base bases.Short) = Some kinds.Int
  kind_at zero (ofs.Base bases.Int) = Some kinds.Int
  kind_at zero (ofs.Base bases.Long) = Some kinds.Long
  kind_at zero (ofs.Base bases.Float) = None
  kind_at zero (ofs.Base bases.Double) = None
  kind_at _ _ = Some kinds.Ref
