-- The classes of a library as the definitions see them.
use Rattle.std.specs.Prelude.{List, map}
use Rattle.dj_names.specs.trusted.Library as named
use Rattle.dj_library_types.specs.declared.library.LibMethod.{LibMethod}
use Rattle.dj_library_types.specs.declared.library.LibClass.{LibClass}

abbrev pub library_method_view : LibMethod → named.LibraryMethod
library_method_view m = record {
  flags = m.flags;
  name = m.name;
  desc = m.desc;
  native = m.native;
}

abbrev pub library_class_view : LibClass → named.LibraryClass
library_class_view c = record {
  name = c.name;
  superclass = c.super_name;
  flags = c.flags;
  interfaces = c.interfaces;
  fields = c.fields;
  methods = map library_method_view c.methods;
}

abbrev pub library_view : List LibClass → named.Library
library_view classes = map library_class_view classes
