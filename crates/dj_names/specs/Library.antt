-- Beside trusted/Library.antt: what no clause of the call `djvm` reaches.
use Rattle.std.specs.Prelude.{List, [], ◌∷◌, ◌++◌, map, Some, codes}
use Rattle.std.specs.Option.{option_map}
use Rattle.dj_names.specs.declared.native.NativeId.TheVariants as natives
use Rattle.dj_names.specs.trusted.Types.{Name, class_type}
use Rattle.dj_names.specs.Types.{desc_map, in_sandbox}
use Rattle.dj_names.specs.trusted.Library.{LibraryMethod, LibraryClass, Library, object_class, int, static_void, library_class, deterministic_library, stop_class}

-- ---- the libraries

abbrev pub sandboxed_method : LibraryMethod → LibraryMethod
sandboxed_method m = record m { desc = desc_map in_sandbox m.desc }

abbrev pub sandboxed_class : LibraryClass → LibraryClass
sandboxed_class c = record {
  name = in_sandbox c.name;
  superclass = option_map in_sandbox c.superclass;
  flags = c.flags;
  interfaces = map in_sandbox c.interfaces;
  fields = c.fields;
  methods = map sandboxed_method c.methods;
}

abbrev pub accounter_class : Name
accounter_class = codes "djvm/Accounter"

-- the methods that rewritten code calls
abbrev pub accounter_methods : List LibraryMethod
accounter_methods =
    static_void (codes "recordJump") [] natives.RecordJump
    ∷ static_void (codes "recordInvocation") [] natives.RecordInvocation
    ∷ static_void (codes "recordThrow") [] natives.RecordThrow
    ∷ static_void (codes "recordAllocation") (int ∷ []) natives.RecordAllocation
    ∷ static_void (codes "recordArray") (int ∷ int ∷ []) natives.RecordArray
    ∷ static_void (codes "checkCatch") (class_type (in_sandbox object_class) ∷ []) natives.CheckCatch
    ∷ []

abbrev pub below_object : Name → List LibraryMethod → LibraryClass
below_object name methods = record (library_class name 33 [] 0 methods) { superclass = Some (in_sandbox object_class) }

-- the library of rewritten classes
abbrev pub sandbox_library : Library
sandbox_library = map sandboxed_class deterministic_library ++ below_object accounter_class accounter_methods ∷ below_object stop_class [] ∷ []
