-- The library's classes as classes of a program, and programs of the files' classes and a library.
use Rattle.std.specs.Prelude.{Bool, true, false, List, [], ◌∷◌, map, Option, Some, None, nat_lt, if◌then◌else◌}
use Rattle.dj_names.specs.declared.native.NativeId.{NativeId}
use Rattle.dj_names.specs.trusted.Types.{Name}
use Rattle.dj_names.specs.trusted.Library.{LibraryMethod, LibraryClass, Library}
use Rattle.dj_model.specs.trusted.Program.{Program, Class, Method, Body, Abstract, Native}

abbrev pub library_body : Option NativeId → Body
library_body None = Abstract
library_body (Some id) = Native id

abbrev pub library_method : LibraryMethod → Method
library_method m = record { flags = m.flags; name = m.name; desc = m.desc; body = library_body m.native }

abbrev pub library_class : LibraryClass → Class
library_class c = record {
  name = c.name;
  flags = c.flags;
  superclass = c.superclass;
  interfaces = c.interfaces;
  unnamed_fields = c.fields;
  fields = [];
  methods = map library_method c.methods;
}

-- ---- the order of names

-- the bytes at the first difference decide; where there is none, the lengths do
abbrev pub is_name_before : Name → Name → Bool
is_name_before a [] = false
is_name_before [] (d ∷ b) = true
is_name_before (c ∷ a) (d ∷ b) = if nat_lt c d then true else (if nat_lt d c then false else is_name_before a b)

-- the program with the class at its place in the order
abbrev pub inserted : Class → Program → Program
inserted class [] = class ∷ []
inserted class (c ∷ classes) = if is_name_before class.name c.name then class ∷ c ∷ classes else c ∷ inserted class classes

abbrev pub joined : List Class → Program → Program
joined [] program = program
joined (class ∷ classes) program = inserted class (joined classes program)

abbrev pub library_program : Library → Program
library_program library = joined (map library_class library) []
