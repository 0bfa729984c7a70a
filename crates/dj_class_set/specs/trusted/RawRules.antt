-- What is judged before a run of `raw`: the rules 1 to 19 with its library, and rule 20, ENTRY, where no file of the set violates one of the rules
-- 1 to 6.
use Rattle.std.specs.Prelude.{◌≡◌, ◌⊎◌, Bool, List, [], ◌∷◌, ◌++◌, Some, codes, IsFalse}
use Rattle.dj_edge.specs.trusted.Held.{File}
use Rattle.dj_names.specs.declared.descriptor.Base.TheVariants as bases
use Rattle.dj_names.specs.declared.descriptor.Desc.{Desc}
use Rattle.dj_names.specs.declared.descriptor.Desc.TheVariants as descs
use Rattle.dj_names.specs.trusted.Types.{Name, base_array}
use Rattle.dj_names.specs.trusted.Library.{raw_library}
use Rattle.dj_class.specs.trusted.ClassFile.{ClassFile}
use Rattle.dj_model.specs.trusted.Types.{Declared}
use Rattle.dj_model.specs.trusted.Program.{Program, method_at, runs_static}
use Rattle.dj_report.specs.declared.report.Violation.{Violation}
use Rattle.dj_report.specs.trusted.Lines.{file_line, AreExactly}
use Rattle.dj_declarations.specs.trusted.Files.{declared_program}
use Rattle.dj_class_set.specs.trusted.Checked.{AreGoodFiles, HoldsHierarchy, IsLineBy}

-- ([B)[B: from an array of bytes to one
abbrev pub entry_desc : Desc
entry_desc = descs.Method (base_array bases.Byte ∷ []) (Some (base_array bases.Byte))

-- the method of the class that is run
abbrev pub entry_of : Name → Declared
entry_of class = record { class = class; name = codes "verify"; desc = entry_desc }

-- the program has this method, and it is static and has code. Methods of a library have no code, so the class is one of the files'
abbrev pub runs_entry : Program → Name → Bool
runs_entry program class = runs_static (method_at program (entry_of class))

-- rule 20, ENTRY: no class of the name is in the set, or it has no such method; the line's path is the class's name and .class
pub record LacksEntry (files : List File) (class : Name) (v : Violation) : Type 0 where
  pub hierarchy : HoldsHierarchy files
  pub classes : List ClassFile
  pub good : AreGoodFiles files classes
  pub lacks : IsFalse (runs_entry (declared_program raw_library classes) class)
  pub line : v ≡ file_line (class ++ codes ".class") 20

abbrev pub IsRawLine : List File → Name → Violation → Type 0
IsRawLine files class v = IsLineBy raw_library files v ⊎ LacksEntry files class v

-- all violations that `raw` reports, in order, each once
abbrev pub AreRawViolations : List File → Name → List Violation → Type 0
AreRawViolations files class = AreExactly (IsRawLine files class)
