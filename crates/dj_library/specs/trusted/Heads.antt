-- The superclass and the interfaces of each class of a library.
use Rattle.std.specs.Prelude.{ℕ, List, Option, map}
use Rattle.dj_names.specs.trusted.Library.{LibraryClass, deterministic_library}

pub record Head : Type 0 where
  pub name : List ℕ
  pub flags : ℕ
  pub superclass : Option (List ℕ)
  pub interfaces : List (List ℕ)

abbrev pub head_of_library : LibraryClass → Head
head_of_library c = record {
  name = c.name;
  flags = c.flags;
  superclass = c.superclass;
  interfaces = c.interfaces;
}

-- the heads of the library's classes; those of the raw library are the same
unfoldable pub library_heads : List Head
library_heads = map head_of_library deterministic_library
