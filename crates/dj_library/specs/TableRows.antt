-- What the rows of the code's tables say.
use Rattle.std.specs.Prelude.{ℕ, List, [], ◌++◌, map}
use Rattle.std.specs.Option.{option_map}
use Rattle.std.specs.Borrow.{Bor}
use Rattle.dj_names.specs.declared.descriptor.Ty.{Ty}
use Rattle.dj_names.specs.declared.descriptor.Desc.TheVariants as descs
use Rattle.dj_names.specs.declared.native.NativeId.{NativeId}
use Rattle.dj_names.specs.declared.native.NativeId.TheVariants as natives
use Rattle.dj_names.specs.trusted.Types.{class_type, base_type, base_array}
use Rattle.dj_names.specs.Types.{sandbox_prefix}
use Rattle.dj_names.specs.trusted.Library.{LibraryMethod, LibraryClass, constructor, on_object, static, static_void, abstract}
use Rattle.dj_library.specs.trusted.Heads.{Head}
use Rattle.dj_library.specs.declared.types.TypeRow.{TypeRow}
use Rattle.dj_library.specs.declared.types.TypeRow.TheVariants as types
use Rattle.dj_library.specs.declared.which.Which.{Which}
use Rattle.dj_library.specs.declared.which.Which.TheVariants as which
use Rattle.dj_library.specs.declared.methods.MethodRow.{MethodRow}
use Rattle.dj_library.specs.declared.methods.MethodRow.TheVariants as rows
use Rattle.dj_library.specs.declared.methods.Parts.{Parts}
use Rattle.dj_library.specs.declared.classes.LibraryHead.{LibraryHead}

-- a class's name as its row has it
abbrev pub name_of_row : Bor (List ℕ) → List ℕ
name_of_row name = name.now

-- what comes before it in the library
abbrev pub prefix_in : Which → List ℕ
prefix_in which.Deterministic = []
prefix_in which.Raw = []
prefix_in which.Sandbox = sandbox_prefix

-- the name that the library has
abbrev pub name_in : Which → Bor (List ℕ) → List ℕ
name_in w name = prefix_in w ++ name.now

abbrev pub type_in : Which → TypeRow → Ty
type_in w (types.Base base) = base_type base
type_in w (types.Array base) = base_array base
type_in w (types.Class name) = class_type (name_in w name)

abbrev pub method_of_row : Which → MethodRow → LibraryMethod
method_of_row w (rows.Constructor params native) = constructor (map (type_in w) params.now) native
method_of_row w (rows.OnObject name params ret native) = on_object name.now (map (type_in w) params.now) (type_in w ret) native
method_of_row w (rows.Static name params ret native) = static name.now (map (type_in w) params.now) (type_in w ret) native
method_of_row w (rows.StaticVoid name params native) = static_void name.now (map (type_in w) params.now) native
method_of_row w (rows.Abstract name params ret) = abstract name.now (map (type_in w) params.now) (option_map (type_in w) ret)

abbrev pub method_of_parts : Which → Parts → LibraryMethod
method_of_parts w parts = record {
  flags = parts.flags;
  name = parts.name.now;
  desc = descs.Method (map (type_in w) parts.params.now) (option_map (type_in w) parts.ret);
  native = parts.native;
}

-- the native by which a host answers in place of another one
abbrev pub host_native : NativeId → NativeId
host_native natives.ObjectHashCode = natives.HostHashCode
host_native natives.ObjectToString = natives.HostToString
host_native natives.IdentityHashCode = natives.HostIdentityHashCode
host_native native = native

abbrev pub native_in : Which → NativeId → NativeId
native_in which.Deterministic native = native
native_in which.Raw native = host_native native
native_in which.Sandbox native = native

abbrev pub method_in : Which → MethodRow → LibraryMethod
method_in w row = record (method_of_row w row) { native = option_map (native_in w) (method_of_row w row).native }

-- the methods that only a host answers
abbrev pub rows_of_hosts : Which → List MethodRow → List MethodRow
rows_of_hosts which.Deterministic rows = []
rows_of_hosts which.Raw rows = rows
rows_of_hosts which.Sandbox rows = []

abbrev pub class_in : Which → LibraryHead → LibraryClass
class_in w row = record {
  name = name_in w row.name;
  superclass = option_map (name_in w) row.superclass;
  flags = row.flags;
  interfaces = map (name_in w) row.interfaces.now;
  fields = row.fields;
  methods = map (method_in w) (row.methods.now ++ rows_of_hosts w row.hosts.now);
}

abbrev pub head_view : LibraryHead → Head
head_view row = record {
  name = row.name.now;
  flags = row.flags;
  superclass = option_map name_of_row row.superclass;
  interfaces = map name_of_row row.interfaces.now;
}
