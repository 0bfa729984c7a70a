-- The class String of a library is in each program of it.
use Rattle.std.proofs.Common.{◌≡◌, ℕ, true, List, [], map, Contains, Option, Some, None, refl}
use Rattle.std.specs.Prelude.{is_some}
use Rattle.dj_names.specs.trusted.Library.{Library}
use Rattle.dj_class.specs.trusted.ClassFile.{ClassFile}
use Rattle.dj_model.specs.trusted.Types.{string_name}
use Rattle.dj_model.specs.trusted.Program.{Program}
use Rattle.dj_model.specs.trusted.Libraries.{library_class, joined}
use Rattle.dj_declarations.specs.trusted.Files.{declared_class}
use Rattle.dj_class_table.specs.Tables.{class_number}
use Rattle.dj_resolution.specs.declared.linker.BaseNames.{BaseNames}
use Rattle.dj_resolution.specs.Linked.{prefix_of}
use Rattle.dj_image.specs.Parts.{HasString}
use Rattle.dj_loader.specs.Loads.{all_classes, HasStringIn}
use Rattle.dj_loader.proofs.Lists.{member_back, member_mapped}
use Rattle.dj_loader.proofs.Named.{none_of_name, at_none_from_number}
use Rattle.dj_loader.proofs.Moved.{in_table}

pub string_there : (library : Library) (files : List ClassFile) (table : Program) (base : BaseNames) → table ≡ joined (all_classes library files) [] → HasStringIn library base → HasString table (prefix_of base)
string_there library files table base is has = by (class_number table (string_name (prefix_of base))) refl where
  own : Contains table (library_class has.class)
  own = in_table (all_classes library files) table is (library_class has.class)
      (member_back (map declared_class files) (map library_class library) (library_class has.class) (member_mapped library_class library has.class has.there))

  by : (o : Option ℕ) → class_number table (string_name (prefix_of base)) ≡ o → is_some o ≡ true
  by (Some k) e = refl
  by None e = absurd (none_of_name table (string_name (prefix_of base)) (at_none_from_number table (string_name (prefix_of base)) e) (library_class has.class) own has.named)
