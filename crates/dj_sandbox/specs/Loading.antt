-- Used by the code alone: the image of files, and the entry in it.
use Rattle.std.specs.Prelude.{◌≡◌, ◌<◌, ℕ, List, [], length}
use Rattle.dj_edge.specs.trusted.Held.{File}
use Rattle.dj_names.specs.trusted.Types.{Name}
use Rattle.dj_names.specs.trusted.Library.{raw_library}
use Rattle.dj_class.specs.trusted.ClassFile.{ClassFile}
use Rattle.dj_program.specs.trusted.Programs.{IsProgramIn}
use Rattle.dj_numbering.specs.Members.{all_methods}
use Rattle.dj_image.specs.Imaged.{Imaged, program_of}
use Rattle.dj_current_method.specs.Activations.{declared_at}
use Rattle.dj_class_set.specs.trusted.Checked.{AreGoodFiles}
use Rattle.dj_class_set.specs.trusted.RawRules.{entry_of}

-- its program is that of the class files of the files and of the raw library
abbrev pub IsImageOf : List File → Imaged → Type 0
IsImageOf files imaged =
    (classes : List ClassFile) × AreGoodFiles files classes × IsProgramIn raw_library classes (program_of imaged) × (imaged.prefix ≡ [])

-- the method of the number is the entry of the class of this name
pub record IsEntryAt (imaged : Imaged) (class : Name) (number : ℕ) : Type 0 where
  pub there : number < length (all_methods (program_of imaged))
  pub named : declared_at (program_of imaged) number ≡ entry_of class
