-- Class files and libraries that can be loaded.
use Rattle.std.specs.Prelude.{◌<◌, List, map, length, All}
use Rattle.std.specs.List.{flat_map}
use Rattle.dj_names.specs.trusted.Descriptors.{IsDesc}
use Rattle.dj_library_types.specs.declared.library.LibClass.{LibClass}
use Rattle.dj_library_types.specs.Views.{library_view}
use Rattle.dj_class.specs.declared.class.ClassView.{ClassView}
use Rattle.dj_class.specs.trusted.ClassFile.{IsValid}
use Rattle.dj_class.specs.Views.{class_of}
use Rattle.dj_model.specs.trusted.Libraries.{library_class}
use Rattle.dj_early_rules.specs.trusted.Malformed.{HasFaultyMethod}
use Rattle.dj_resolution.specs.declared.linker.BaseNames.TheVariants as bases
use Rattle.dj_loader.specs.Loads.{methods_of, fields_of, HasStringIn}

-- no method is faulty
pub record IsSound (view : ClassView) : Type 0 where
  pub valid : IsValid (class_of view)
  pub coded : HasFaultyMethod (class_of view) → ⊥

-- its descriptors are some, String is there, and it has few classes and few members
pub record IsSmallLibrary (rows : List LibClass) : Type 0 where
  pub described : All (λ row. All (λ m. IsDesc m.desc) row.methods) rows
  pub string : HasStringIn (library_view rows) bases.Plain
  pub few : length rows < 100
  pub methods : length (flat_map methods_of (map library_class (library_view rows))) < 1000
  pub fields : length (flat_map fields_of (map library_class (library_view rows))) < 1000
