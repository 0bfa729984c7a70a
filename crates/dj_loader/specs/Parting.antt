-- Used by the code alone: the parts of classes by their numbers.
use Rattle.std.specs.Prelude.{◌≡◌, ℕ, List, [], Some, Contains, slice_get}
use Rattle.dj_names.specs.trusted.Library.{Library, LibraryClass}
use Rattle.dj_class.specs.trusted.ClassFile.{ClassFile}
use Rattle.dj_model.specs.trusted.Program.{Program}
use Rattle.dj_model.specs.trusted.Libraries.{library_class, joined}
use Rattle.dj_declarations.specs.trusted.Files.{declared_class}
use Rattle.dj_program.specs.trusted.Programs.{IsClassIn}
use Rattle.dj_image.specs.declared.parts.ClassParts.{ClassParts}
use Rattle.dj_image.specs.Sources.{class_of_source}
use Rattle.dj_image.specs.Parts.{source_of, FitClasses}
use Rattle.dj_loader.specs.Loads.{all_classes, IsLoadable, AreFewMembers}

-- classes that can be loaded, in the order of their names, with few enough members
pub record IsTableOf (library : Library) (files : List ClassFile) (table : Program) : Type 0 where
  pub is : table ≡ joined (all_classes library files) []
  pub loadable : IsLoadable (all_classes library files)
  pub few : AreFewMembers (all_classes library files)

-- the classes of a table have parts: files' classes have what their files have, and a library's nothing
pub record ArePartsOf (library : Library) (files : List ClassFile) (table : Program) (parts : List ClassParts) : Type 0 where
  pub fit : FitClasses table parts
  pub filled : (k : ℕ) (c : ClassFile) (p : ClassParts) → Contains files c → slice_get table k ≡ Some (declared_class c) → slice_get parts k ≡ Some p → IsClassIn c (class_of_source (source_of (declared_class c) p))
  pub bare : (k : ℕ) (c : LibraryClass) (p : ClassParts) → Contains library c → slice_get table k ≡ Some (library_class c) → slice_get parts k ≡ Some p
      → class_of_source (source_of (library_class c) p) ≡ library_class c
