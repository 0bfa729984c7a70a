-- What the constant of an instruction or of a handler names: a class, and maybe a field or a method of it. Constants of all tags count.
use Rattle.std.specs.Prelude.{◌≡◌, ℕ, Bool, List, [], Option, Some, None, IsSomeAnd, option_and_then}
use Rattle.std.specs.Option.{option_map}
use Rattle.dj_names.specs.declared.descriptor.Ty.{Ty}
use Rattle.dj_names.specs.trusted.Types.{Name}
use Rattle.dj_ops.specs.declared.instruction.Instr.{Instr}
use Rattle.dj_ops.specs.declared.instruction.Instr.TheVariants as instrs
use Rattle.dj_pool.specs.trusted.Pool.{Constant, Field, Method, InterfaceMethod, constant_at, text_at, both}
use Rattle.dj_model.specs.trusted.Types.{Member}
use Rattle.dj_model.specs.trusted.Program.{Program, class_at, is_static}
use Rattle.dj_model.specs.trusted.Linking.{FoundField, FoundMethod, resolve_field, resolve_method, class_or_object}
use Rattle.dj_early_rules.specs.trusted.Classes.{class_text_index, names_at}
use Rattle.dj_declarations.specs.trusted.Files.{desc_in, type_in}

-- ---- classes

-- the class that a constant names, as a type: a class constant's own, and that of a field or a method
abbrev pub named_type : List Constant → Constant → Option Ty
named_type pool k = option_map type_in (option_and_then (text_at pool) (class_text_index pool k))

-- the class that is looked up: an array's is that of its elements, and Object where these are of a base type
abbrev pub class_of_type : Ty → Name
class_of_type ty = class_or_object [] ty.of

-- the constant names a class that the program doesn't have
abbrev pub NamesNoClass : Program → List Constant → Constant → Type 0
NamesNoClass program pool k = IsSomeAnd (named_type pool k) (λ ty. class_at program (class_of_type ty) ≡ None)

-- ---- members

abbrev pub member_of : Ty × (List ℕ × List ℕ) → Member
member_of x = record { class = x.0; name = x.1.0; desc = desc_in x.1.1 }

-- the field or the method that a constant names
abbrev pub named_member : List Constant → Constant → Option Member
named_member pool k = option_map member_of (both (named_type pool k) (names_at pool k))

abbrev pub is_static_field : FoundField → Bool
is_static_field found = is_static found.field.flags

abbrev pub is_static_method : FoundMethod → Bool
is_static_method found = is_static found.method.flags

-- JVMS 5.4.3.2 to 5.4.3.4: whether the field or the method to which this resolves is static; none where it resolves to nothing
abbrev pub is_static_found : Program → Constant → Member → Option Bool
is_static_found program (Field class names) m = option_map is_static_field (resolve_field program [] m)
is_static_found program (Method class names) m = option_map is_static_method (resolve_method program [] m)
is_static_found program (InterfaceMethod class names) m = option_map is_static_method (resolve_method program [] m)
is_static_found program k m = None

-- the constant names a field or a method that isn't there
abbrev pub NamesNoMember : Program → List Constant → Constant → Type 0
NamesNoMember program pool k = IsSomeAnd (named_member pool k) (λ m. is_static_found program k m ≡ None)

-- ---- instructions

-- JVMS 6.5, new: the instruction makes an object of the class of such a constant
abbrev pub MakesSuch : (List Constant → Constant → Type 0) → List Constant → Instr → Type 0
MakesSuch IsSuch pool (instrs.Class op index) = (op ≡ 187) × IsSomeAnd (constant_at pool index) (IsSuch pool)
MakesSuch IsSuch pool instr = ⊥
