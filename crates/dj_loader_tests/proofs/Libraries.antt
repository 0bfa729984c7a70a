-- The libraries have few classes and few members, by computing.
use Rattle.std.proofs.Common.{◌≡◌, ◌<◌, List, map, length, sym, subst, arith}
use Rattle.std.specs.List.{flat_map}
use Rattle.std.proofs.lemmas.List.{length-map}
use Rattle.dj_names.specs.trusted.Library.{Library, deterministic_library, raw_library}
use Rattle.dj_library_types.specs.declared.library.LibClass.{LibClass}
use Rattle.dj_library_types.specs.Views.{library_class_view, library_view}
use Rattle.dj_model.specs.trusted.Libraries.{library_class}
use Rattle.dj_loader.specs.Loads.{methods_of, fields_of}
use Rattle.dj_loader.proofs.LibraryFacts.{deterministic_described, raw_described, deterministic_string, raw_string}
use Rattle.dj_loader_tests.specs.Sets.{IsSmallLibrary}

record IsFew (library : Library) : Type 0 where
  classes : length library < 100
  methods : length (flat_map methods_of (map library_class library)) < 1000
  fields : length (flat_map fields_of (map library_class library)) < 1000

deterministic_few : IsFew deterministic_library
deterministic_few = record { classes = omega arith; methods = omega arith; fields = omega arith }

raw_few : IsFew raw_library
raw_few = record { classes = omega arith; methods = omega arith; fields = omega arith }

few_rows : (rows : List LibClass) → IsFew (library_view rows) → length rows < 100
few_rows rows few = let many = length-map rows library_class_view in let classes = few.classes in omega (arith, many, classes)

pub deterministic_small : (rows : List LibClass) → library_view rows ≡ deterministic_library → IsSmallLibrary rows
deterministic_small rows is =
    let few : IsFew (library_view rows) = subst IsFew (sym is) deterministic_few in
    record {
      described = deterministic_described rows is;
      string = deterministic_string rows is;
      few = few_rows rows few;
      methods = few.methods;
      fields = few.fields;
    }

pub raw_small : (rows : List LibClass) → library_view rows ≡ raw_library → IsSmallLibrary rows
raw_small rows is =
    let few : IsFew (library_view rows) = subst IsFew (sym is) raw_few in
    record {
      described = raw_described rows is;
      string = raw_string rows is;
      few = few_rows rows few;
      methods = few.methods;
      fields = few.fields;
    }
