-- Where the classes of a program come from: from class files without rule 1, or from a library with the heads of the deterministic one.
use Rattle.std.proofs.Common.{◌≡◌, ◌⊎◌, List, [], ◌∷◌, ◌++◌, map, Contains, refl, sym, ◌∙◌, subst, inl, inr}
use Rattle.dj_edge.specs.trusted.Held.{File}
use Rattle.dj_names.specs.trusted.Library.{Library, LibraryClass, deterministic_library, raw_library}
use Rattle.dj_class.specs.trusted.ClassFile.{ClassFile}
use Rattle.dj_library.specs.trusted.Heads.{Head}
use Rattle.dj_model.specs.trusted.Program.{Program, Class}
use Rattle.dj_model.specs.trusted.Libraries.{library_class, joined}
use Rattle.dj_early_rules.specs.trusted.Malformed.{IsGood}
use Rattle.dj_declarations.specs.Files.{bare_class}
use Rattle.dj_declarations.specs.trusted.Files.{declared_program}
use Rattle.dj_class_table.proofs.Joins.{joined-append}
use Rattle.dj_class_table.proofs.Rising.{members_joined}
use Rattle.dj_loader.proofs.Lists.{member_first, member_later, member_none, member_cases, member_back, member_of_either, of_map}
use Rattle.dj_program.specs.trusted.Programs.{AreSideBySide, IsClassIn, IsProgramIn}
use Rattle.dj_program.proofs.Bare.{bare_is}
use Rattle.dj_class_set.specs.trusted.Checked.{AreGoodFiles, HoldsHierarchy, IsLineBy}
use Rattle.dj_report.specs.declared.report.Violation.{Violation}
use Rattle.dj_sound.specs.Accepted.{IsAcceptedBy}

-- ---- heads

abbrev pub head_in : Class → Head
head_in c = record { name = c.name; flags = c.flags; superclass = c.superclass; interfaces = c.interfaces }

abbrev pub rows_of : Library → List Class
rows_of library = map library_class library

-- the library's classes stand as those of the deterministic one
abbrev pub IsAlike : Library → Type 0
IsAlike library = map head_in (rows_of library) ≡ map head_in (rows_of deterministic_library)

pub deterministic_alike : IsAlike deterministic_library
deterministic_alike = refl

pub raw_alike : IsAlike raw_library
raw_alike = refl

-- ---- no line of any rule

pub no_line : {judge : Library} (files : List File) (classes : List ClassFile) → IsAcceptedBy judge files classes → (v : Violation) → IsLineBy judge files v → ⊥
no_line files classes accepted v line = member_none v ((accepted.silent.all v).1 line)

pub holds_hierarchy : {judge : Library} (files : List File) (classes : List ClassFile) → IsAcceptedBy judge files classes → HoldsHierarchy files
holds_hierarchy files classes accepted v line = absurd (no_line files classes accepted v (inl line))

-- ---- origins

-- the class is that of one of the files
pub record IsOfFile (files : List File) (classes : List ClassFile) (class : Class) : Type 0 where
  pub file : File
  pub among : Contains files file
  pub read : ClassFile
  pub listed : Contains classes read
  pub good : IsGood file.1 read
  pub is : IsClassIn read class

of_later : (other : File) (c : ClassFile) (files : List File) (classes : List ClassFile) (class : Class) → IsOfFile files classes class → IsOfFile (other ∷ files) (c ∷ classes) class
of_later other c files classes class of = record {
  file = of.file;
  among = member_later other files of.file of.among;
  read = of.read;
  listed = member_later c classes of.read of.listed;
  good = of.good;
  is = of.is;
}

of_file : (files : List File) (classes : List ClassFile) (program : List Class) (class : Class) → AreGoodFiles files classes → AreSideBySide IsClassIn classes program
    → Contains program class → IsOfFile files classes class
of_file files [] [] class good each m = absurd (member_none class m)
of_file files [] (p ∷ program) class good each m = absurd each
of_file [] (c ∷ classes) program class good each m = absurd good
of_file (file ∷ files) (c ∷ classes) [] class good each m = absurd each
of_file (file ∷ files) (c ∷ classes) (p ∷ program) class good each m =
    elim (member_cases p program class m) [
      | inl e ↦ record { file = file; among = member_first file files; read = c; listed = member_first c classes; good = good.0; is = subst (IsClassIn c) e each.0 }
      | inr later ↦ of_later file c files classes class (of_file files classes program class good.1 each.1 later)
    ]

abbrev pub IsRow : Library → Class → Type 0
IsRow library class = (row : LibraryClass) × Contains library row × (library_class row ≡ class)

module _ (library : Library) (files : List File) (classes : List ClassFile) (program : Program) (good : AreGoodFiles files classes) (is : IsProgramIn library classes program) where
  pub as_joined : program ≡ joined (is.classes ++ rows_of library) []
  as_joined = is.is ∙ sym (joined-append is.classes (rows_of library))

  pub origin : (class : Class) → Contains program class → IsOfFile files classes class ⊎ IsRow library class
  origin class m =
      let in_both = (members_joined (is.classes ++ rows_of library) class).0 (subst (λ (p : Program). Contains p class) as_joined m) in
      elim (member_of_either is.classes (rows_of library) class in_both) [
        | inl prefix ↦ inl (of_file files classes is.classes class good is.each prefix)
        | inr back ↦ inr (of_map library_class library class back)
      ]

  -- each class of the library is there
  pub row_there : (row : LibraryClass) → Contains (rows_of library) (library_class row) → Contains program (library_class row)
  row_there row m =
      subst (λ (p : Program). Contains p (library_class row)) (sym as_joined)
      ((members_joined (is.classes ++ rows_of library) (library_class row)).1 (member_back is.classes (rows_of library) (library_class row) m))

  pub bare : map bare_class program ≡ declared_program library classes
  bare = bare_is library classes program is
