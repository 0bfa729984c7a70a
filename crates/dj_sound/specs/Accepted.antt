-- What `check` accepts, what `raw` accepts, and what holds of the programs of such files.
use Rattle.std.specs.Prelude.{List, []}
use Rattle.dj_edge.specs.trusted.Held.{File}
use Rattle.dj_names.specs.trusted.Library.{Library, deterministic_library, raw_library}
use Rattle.dj_names.specs.trusted.Types.{Name}
use Rattle.dj_class.specs.trusted.ClassFile.{ClassFile}
use Rattle.dj_model.specs.trusted.Program.{Program}
use Rattle.dj_model.specs.Sound.{IsSound}
use Rattle.dj_model.specs.Standing.{IsEntry}
use Rattle.dj_loader.specs.Loads.{all_classes, IsLoadable}
use Rattle.dj_program.specs.trusted.Programs.{IsProgramIn}
use Rattle.dj_class_set.specs.trusted.Checked.{AreGoodFiles, AreViolationsBy}
use Rattle.dj_class_set.specs.trusted.RawRules.{entry_of}

-- these are the class files of the files, and none of the rules 1 to 19 is violated where they are judged with the library
pub record IsAcceptedBy (judge : Library) (files : List File) (classes : List ClassFile) : Type 0 where
  pub good : AreGoodFiles files classes
  pub silent : AreViolationsBy judge files []

-- `check` judges so
abbrev pub IsAccepted : List File → List ClassFile → Type 0
IsAccepted files classes = IsAcceptedBy deterministic_library files classes

-- each program of `library` and of files that are accepted with `judge` is such
abbrev pub OfAcceptedBy : Library → Library → (Program → Type 0) → Type 0
OfAcceptedBy judge library IsSuch =
    (files : List File) (classes : List ClassFile) (program : Program) → IsAcceptedBy judge files classes → IsProgramIn library classes program → IsSuch program

abbrev pub OfAccepted : Library → (Program → Type 0) → Type 0
OfAccepted library IsSuch = OfAcceptedBy deterministic_library library IsSuch

-- none of the rules of `raw` for a run of the class is violated: these are the class files of the files, they load with the raw library, and whatever
-- program they are with it is sound and has the entry
pub record IsRawAccepted (files : List File) (class : Name) (classes : List ClassFile) : Type 0 where
  pub accepted : IsAcceptedBy raw_library files classes
  pub loadable : IsLoadable (all_classes raw_library classes)
  pub sound : (program : Program) → IsProgramIn raw_library classes program → IsSound program []
  pub entry : (program : Program) → IsProgramIn raw_library classes program → IsEntry program (entry_of class)

-- the deterministic or the raw library
pub record OfEither (IsSuch : Program → Type 0) : Type 0 where
  pub deterministic : OfAccepted deterministic_library IsSuch
  pub raw : OfAccepted raw_library IsSuch
