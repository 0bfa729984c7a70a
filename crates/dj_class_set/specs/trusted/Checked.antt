-- What `check` judges: the rules 1 to 16, and the rules 17 to 19 where no file of the set violates one of the rules 1 to 6. The rules 17 to 19 look at
-- the program of the files and a library, which for `check` is the deterministic one.
use Rattle.std.specs.Prelude.{◌<◌, ◌⊎◌, ⊤, List, [], ◌∷◌}
use Rattle.dj_edge.specs.trusted.Held.{File}
use Rattle.dj_names.specs.trusted.Library.{Library, deterministic_library}
use Rattle.dj_class.specs.trusted.ClassFile.{ClassFile}
use Rattle.dj_report.specs.declared.report.Violation.{Violation}
use Rattle.dj_report.specs.trusted.Lines.{AreExactly}
use Rattle.dj_early_rules.specs.trusted.Malformed.{IsGood}
use Rattle.dj_early_rules.specs.trusted.Rules.{IsEarlyLine}
use Rattle.dj_declarations.specs.trusted.Files.{declared_program}
use Rattle.dj_rules.specs.trusted.Lines.{IsLinkedLine}

-- the class files of the files, each at its file's place; none of them violates rule 1
abbrev pub AreGoodFiles : List File → List ClassFile → Type 0
AreGoodFiles [] [] = ⊤
AreGoodFiles (file ∷ files) (c ∷ classes) = IsGood file.1 c × AreGoodFiles files classes
AreGoodFiles files classes = ⊥

-- no file violates one of the rules 1 to 6
abbrev pub HoldsHierarchy : List File → Type 0
HoldsHierarchy files = (v : Violation) → IsEarlyLine files v → 6 < v.rule

-- a line of the rules 17 to 19, for the program of all the class files and the library
pub record IsLateLine (library : Library) (files : List File) (v : Violation) : Type 0 where
  pub hierarchy : HoldsHierarchy files
  pub classes : List ClassFile
  pub good : AreGoodFiles files classes
  pub line : IsLinkedLine (declared_program library classes) files v

-- a line of the rules 1 to 19
abbrev pub IsLineBy : Library → List File → Violation → Type 0
IsLineBy library files v = IsEarlyLine files v ⊎ IsLateLine library files v

-- all violations of these rules, in order, each once
abbrev pub AreViolationsBy : Library → List File → List Violation → Type 0
AreViolationsBy library files = AreExactly (IsLineBy library files)

-- all violations that `check` reports, in order, each once
abbrev pub AreCheckViolations : List File → List Violation → Type 0
AreCheckViolations files = AreViolationsBy deterministic_library files
