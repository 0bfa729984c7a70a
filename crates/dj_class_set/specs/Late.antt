-- Used by the code alone: whether the rules 1 to 6 hold, so that later rules are judged, the classes of files, and what links them.
use Rattle.std.specs.Prelude.{◌≡◌, ℕ, ⊤, ◌≤◌, ◌⊎◌, List, [], ◌∷◌, ◌++◌, map, Option, Some, None, Contains}
use Rattle.dj_edge.specs.trusted.Held.{File}
use Rattle.dj_names.specs.trusted.Types.{Name}
use Rattle.dj_names.specs.trusted.Library.{Library, deterministic_library, raw_library}
use Rattle.dj_class.specs.trusted.ClassFile.{ClassFile, IsClassFile, IsMalformed}
use Rattle.dj_library_types.specs.declared.library.LibClass.{LibClass}
use Rattle.dj_library_types.specs.Views.{library_class_view}
use Rattle.dj_model.specs.trusted.Program.{Class}
use Rattle.dj_model.specs.trusted.Libraries.{library_class, joined}
use Rattle.dj_report.specs.declared.report.Violation.{Violation}
use Rattle.dj_report.specs.Lines.{Adds}
use Rattle.dj_declarations.specs.trusted.Files.{declared_class, declared_program}
use Rattle.dj_class_table.specs.Tables.{IsShared}
use Rattle.dj_resolution.specs.Linked.{Linked}
use Rattle.dj_loader.specs.Loads.{IsOwnAncestor}
use Rattle.dj_class_set.specs.trusted.Checked.{HoldsHierarchy, IsLineBy}
use Rattle.dj_class_set.specs.declared.judging.JudgedSet.{JudgedSet}
use Rattle.dj_class_set.specs.declared.late.Links.{Links}
use Rattle.dj_class_set.specs.declared.late.Links.TheVariants as links

-- one of the lines is of the rules 1 to 6
abbrev pub HasHierarchyLine : List Violation → Type 0
HasHierarchyLine lines = (v : Violation) × Contains lines v × (v.rule ≤ 6)

-- the class files of the files, each at its file's place
abbrev pub AreReadFiles : List File → List ClassFile → Type 0
AreReadFiles [] [] = ⊤
AreReadFiles (file ∷ files) (c ∷ classes) = IsClassFile file.1 c × AreReadFiles files classes
AreReadFiles files classes = ⊥

-- the class of the class file that the bytes are; none where the bytes are no class file
abbrev pub IsDeclaredFrom : List ℕ → Option Class → Type 0
IsDeclaredFrom bytes None = IsMalformed bytes
IsDeclaredFrom bytes (Some class) = (c : ClassFile) × IsClassFile bytes c × (class ≡ declared_class c)

-- the classes of the files, each at its file's place
abbrev pub AreDeclared : List File → List Class → Type 0
AreDeclared files declared = (classes : List ClassFile) × AreReadFiles files classes × (declared ≡ map declared_class classes)

-- one of the files is no class file
abbrev pub HasMalformed : List File → Type 0
HasMalformed files = (file : File) × Contains files file × IsMalformed file.1

abbrev pub AreDeclaredOrNot : List File → Option (List Class) → Type 0
AreDeclaredOrNot files None = HasMalformed files
AreDeclaredOrNot files (Some declared) = AreDeclared files declared

-- the library of `check`, or that of `raw`
abbrev pub IsJudging : Library → Type 0
IsJudging library = (library ≡ deterministic_library) ⊎ (library ≡ raw_library)

-- the class of the library
abbrev pub row_class : LibClass → Class
row_class row = library_class (library_class_view row)

-- linked has the classes of the files and of the library, under their own names
abbrev pub LinksFiles : Library → List File → Linked → Type 0
LinksFiles library files linked =
    (classes : List ClassFile) × AreReadFiles files classes × (linked ≡ record { program = declared_program library classes; prefix = [] })

-- the classes of the files and of the library
abbrev pub with_library : Library → List Class → List Class
with_library library declared = declared ++ map library_class library

-- two of them have one name
abbrev pub SharesName : Library → List File → Type 0
SharesName library files = (declared : List Class) × AreDeclared files declared × ((name : Name) × IsShared (with_library library declared) name)

-- one of the classes is its own ancestor, by superclasses and listed interfaces together
abbrev pub HasCycle : List Class → Type 0
HasCycle classes = (name : Name) × IsOwnAncestor classes name

-- the same for the classes of the files and of the library
abbrev pub GoesRound : Library → List File → Type 0
GoesRound library files = (declared : List Class) × AreDeclared files declared × HasCycle (with_library library declared)

-- how classes in order are linked
abbrev pub IsLinkOf : List Class → Links → Type 0
IsLinkOf table (links.Linked linked) = linked ≡ record { program = table; prefix = [] }
IsLinkOf table links.NotClassFile = ⊥
IsLinkOf table links.SharedName = ⊥
IsLinkOf table links.Cycle = HasCycle table

-- how the classes of the library and these are linked
abbrev pub AreLinksOf : Library → List Class → Links → Type 0
AreLinksOf library declared (links.Linked linked) = linked ≡ record { program = joined (with_library library declared) []; prefix = [] }
AreLinksOf library declared links.NotClassFile = ⊥
AreLinksOf library declared links.SharedName = (name : Name) × IsShared (with_library library declared) name
AreLinksOf library declared links.Cycle = HasCycle (with_library library declared)

-- how the classes of the library and of the files are linked
abbrev pub AreLinks : Library → List File → Links → Type 0
AreLinks library files (links.Linked linked) = LinksFiles library files linked
AreLinks library files links.NotClassFile = HasMalformed files
AreLinks library files links.SharedName = SharesName library files
AreLinks library files links.Cycle = GoesRound library files

-- it links them and none of the rules 1 to 6 is violated, or one of these is violated and there is none
abbrev pub IsLinkedWhereHeld : Library → List File → Option Linked → Type 0
IsLinkedWhereHeld library files None = HoldsHierarchy files → ⊥
IsLinkedWhereHeld library files (Some linked) = HoldsHierarchy files × LinksFiles library files linked

-- the lines are those of the rules 1 to 19
pub record IsJudgedSet (library : Library) (files : List File) (judged : JudgedSet) : Type 0 where
  pub lines : Adds (IsLineBy library files) [] judged.found.items
  pub linked : IsLinkedWhereHeld library files judged.linker
