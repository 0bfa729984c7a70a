-- Names, types and descriptors: when two of them are equal, and how they change where classes get other names (JVMS 4.2 and 4.3).
use Rattle.std.specs.Prelude.{ℕ, ◌+◌, ◌-◌, ◌&&◌, Bool, true, false, List, [], Option, Some, None, nat_eq}
use Rattle.std.specs.Cmp.Lexicographic.{pointwise}
use Rattle.dj_names.specs.declared.descriptor.Kind.{Kind}
use Rattle.dj_names.specs.declared.descriptor.Base.{Base}
use Rattle.dj_names.specs.declared.descriptor.Of.{Of}
use Rattle.dj_names.specs.declared.descriptor.Of.TheVariants as ofs
use Rattle.dj_names.specs.declared.descriptor.Ty.{Ty}
use Rattle.dj_names.specs.declared.descriptor.Desc.{Desc}
use Rattle.dj_names.specs.declared.descriptor.Desc.TheVariants as descs
use Rattle.dj_names.specs.trusted.Descriptors.{type_kind, base_letter}

-- the bytes of a name
abbrev pub Name : Type 0
Name = List ℕ

abbrev pub same_name : Name → Name → Bool
same_name a b = pointwise nat_eq a b

-- two base types are the same where the letters of their descriptors are
abbrev pub same_base : Base → Base → Bool
same_base a b = same_name (base_letter a) (base_letter b)

abbrev pub same_of : Of → Of → Bool
same_of (ofs.Base a) (ofs.Base b) = same_base a b
same_of (ofs.Class a) (ofs.Class b) = same_name a b
same_of _ _ = false

abbrev pub same_type : Ty → Ty → Bool
same_type a b = nat_eq a.dims b.dims && same_of a.of b.of

abbrev pub same_result : Option Ty → Option Ty → Bool
same_result None None = true
same_result (Some a) (Some b) = same_type a b
same_result _ _ = false

abbrev pub same_desc : Desc → Desc → Bool
same_desc (descs.Field a) (descs.Field b) = same_type a b
same_desc (descs.Method ps r) (descs.Method qs s) = pointwise same_type ps qs && same_result r s
same_desc _ _ = false

-- ---- classes and arrays as types

abbrev pub class_type : Name → Ty
class_type name = record { dims = 0; of = ofs.Class name }

-- the class of arrays of such elements
abbrev pub array_type : Ty → Ty
array_type ty = record { dims = ty.dims + 1; of = ty.of }

abbrev pub base_type : Base → Ty
base_type base = record { dims = 0; of = ofs.Base base }

abbrev pub base_array : Base → Ty
base_array base = record { dims = 1; of = ofs.Base base }

-- the type of the elements of arrays of this class; for a class that is no array it may be any
abbrev pub component_type : Ty → Ty
component_type ty = record { dims = ty.dims - 1; of = ty.of }

-- ---- parameters and results

abbrev pub parameters_of : Desc → List Ty
parameters_of (descs.Field ty) = []
parameters_of (descs.Method params ret) = params

-- the kind of a field's values; a float or a double has none
abbrev pub field_kind : Desc → Option Kind
field_kind (descs.Field ty) = type_kind ty
field_kind (descs.Method params ret) = None

-- ---- other names of classes

abbrev pub of_map : (Name → Name) → Of → Of
of_map f (ofs.Base base) = ofs.Base base
of_map f (ofs.Class name) = ofs.Class (f name)
