-- Members of classes by their places, and by texts.
use Rattle.std.specs.Prelude.{ℕ, ◌+◌, Bool, List, [], ◌∷◌, Option, Some, None, if◌then◌else◌}
use Rattle.std.specs.Option.{option_map}
use Rattle.dj_names.specs.declared.descriptor.Desc.{Desc}
use Rattle.dj_names.specs.declared.native.NativeId.{NativeId}
use Rattle.dj_names.specs.trusted.Types.{Name}
use Rattle.dj_names.specs.trusted.Descriptors.{Describes}
use Rattle.dj_model.specs.trusted.Program.{Method, Field, Body, Native, is_named}
use Rattle.dj_model.specs.trusted.Linking.{has_body}
use Rattle.dj_declarations.specs.trusted.Files.{desc_in}

-- the text is a descriptor
abbrev pub IsDescriptor : List ℕ → Type 0
IsDescriptor text = Describes text (desc_in text)

abbrev pub method_flags : Method → ℕ
method_flags m = m.flags

abbrev pub method_name : Method → Name
method_name m = m.name

abbrev pub method_has_body : Method → Bool
method_has_body m = has_body m.body

abbrev pub native_in : Body → Option NativeId
native_in (Native id) = Some id
native_in body = None

-- which native method of the library this is; none for a method that has code or is abstract
abbrev pub method_native : Method → Option NativeId
method_native m = native_in m.body

abbrev pub field_name : Field → Name
field_name f = f.name

abbrev pub field_flags : Field → ℕ
field_flags f = f.flags

-- ---- places of members

-- the place of the first method with this name and this descriptor
abbrev pub method_place : List Method → Name → Desc → Option ℕ
method_place [] name desc = None
method_place (m ∷ methods) name desc = if is_named name desc m.name m.desc then Some 0 else option_map (λ place. place + 1) (method_place methods name desc)

abbrev pub field_place : List Field → Name → Desc → Option ℕ
field_place [] name desc = None
field_place (f ∷ fields) name desc = if is_named name desc f.name f.desc then Some 0 else option_map (λ place. place + 1) (field_place fields name desc)
