-- What follows of accepted files and of their programs.
use Rattle.std.specs.Prelude.{ℕ, ◌⊎◌, not, ◌||◌, List, [], Contains, IsTrue, IsSome}
use Rattle.std.specs.List.{list_all, list_any}
use Rattle.dj_edge.specs.trusted.Held.{File}
use Rattle.dj_edge.specs.declared.host.HostAnswer.{HostAnswer}
use Rattle.dj_names.specs.trusted.Types.{Name, class_type}
use Rattle.dj_names.specs.trusted.Library.{Library, deterministic_library, raw_library}
use Rattle.dj_names.specs.Library.{sandbox_library}
use Rattle.dj_names.specs.declared.run.Thresholds.{Thresholds}
use Rattle.dj_class.specs.trusted.ClassFile.{ClassFile}
use Rattle.dj_class.specs.Laws.{AreBytes}
use Rattle.dj_model.specs.trusted.Program.{Program, Class, Method, is_interface}
use Rattle.dj_model.specs.trusted.Libraries.{library_program}
use Rattle.dj_model.specs.trusted.Types.{Declared, string_name, is_stop}
use Rattle.dj_model.specs.trusted.State.{Terms}
use Rattle.dj_model.specs.trusted.Runs.{plain_run}
use Rattle.dj_model.specs.Runs.{metered_run}
use Rattle.dj_model.specs.Standing.{AsksNothing, RunStands, IsEntry, Starves}
use Rattle.dj_model.specs.trusted.Linking.{chain, superclasses, is_among}
use Rattle.dj_model.specs.Sound.{names_rise, fields_differ, methods_differ, ReachesTop, is_interface_name, is_object_or_none, IsBody, is_sound_field, IsSoundBody, IsSound}
use Rattle.dj_loader.specs.Loads.{all_classes, IsLoadable}
use Rattle.dj_program.specs.trusted.Programs.{IsProgramIn}
use Rattle.dj_class_set.specs.trusted.Checked.{AreGoodFiles, AreCheckViolations}
use Rattle.dj_class_set.specs.trusted.RawRules.{entry_of, AreRawViolations}
use Rattle.dj_sound.specs.Accepted.{IsAcceptedBy, IsAccepted, IsRawAccepted, OfEither}

-- each byte of each file is one
abbrev pub AreOfBytes : List File → Type 0
AreOfBytes files = (file : File) → Contains files file → AreBytes file.1

-- files in which no rule is violated are class files
abbrev pub HaveClassFiles : Type 0
HaveClassFiles = (files : List File) → AreOfBytes files → AreCheckViolations files [] → (classes : List ClassFile) × IsAccepted files classes

-- ---- the parts of a sound program

-- the names of the classes rise
abbrev pub HasRisingNames : Program → Type 0
HasRisingNames program = IsTrue (names_rise program)

abbrev pub NamesRise : Type 0
NamesRise = OfEither HasRisingNames

-- no two fields and no two methods of a class have the same name and the same descriptor
abbrev pub HasApartMembers : Program → Type 0
HasApartMembers program = (c : Class) → Contains program c → IsTrue (fields_differ c.fields) × IsTrue (methods_differ c.methods)

abbrev pub MembersDiffer : Type 0
MembersDiffer = OfEither HasApartMembers

-- the way upward from each class ends
abbrev pub HasEnds : Program → Type 0
HasEnds program = (c : Class) → Contains program c → ReachesTop program c.name

abbrev pub HaveEnds : Type 0
HaveEnds = OfEither HasEnds

-- what is above a class: interfaces where it lists them, Object alone above an interface, and neither texts nor the object that stops a run
pub record HasHierarchy (program : Program) (c : Class) : Type 0 where
  pub interfaces : IsTrue (list_all (is_interface_name program) c.interfaces)
  pub above_interface : IsTrue (not (is_interface c.flags) || is_object_or_none [] c.superclass)
  pub above : IsTrue (not (is_among (superclasses (chain program c.name)) (string_name [])))
  pub above_stop : IsTrue (not (list_any (λ name. is_stop [] (class_type name)) (superclasses (chain program c.name))))

abbrev pub IsHierarchy : Program → Type 0
IsHierarchy program = (c : Class) → Contains program c → HasHierarchy program c

abbrev pub HaveHierarchy : Type 0
HaveHierarchy = OfEither IsHierarchy

-- each static field begins with a constant of its kind, or with none
abbrev pub HasConstants : Program → Type 0
HasConstants program = (c : Class) → Contains program c → IsTrue (list_all is_sound_field c.fields)

abbrev pub HaveConstants : Type 0
HaveConstants = OfEither HasConstants

-- each method with code has code as JVMS 4.9.1 requires: instructions, and targets, handlers, ranges and frames at some of them
abbrev pub HasCodes : Program → Type 0
HasCodes program = (c : Class) → Contains program c → (m : Method) → Contains c.methods m → IsBody m.body

abbrev pub HaveCodes : Type 0
HaveCodes = OfEither HasCodes

-- the code of each method has shape, and what it names is linked; and each native method takes and gives the kinds of its descriptor
abbrev pub HasBodies : Program → Type 0
HasBodies program = (c : Class) → Contains program c → (m : Method) → Contains c.methods m → IsSoundBody program [] m m.body

abbrev pub HaveBodies : Type 0
HaveBodies = OfEither HasBodies

-- the program is sound: all of these parts together
abbrev pub IsSoundProgram : Program → Type 0
IsSoundProgram program = IsSound program []

abbrev pub AcceptedIsSound : Type 0
AcceptedIsSound = OfEither IsSoundProgram

-- ---- what follows

-- the classes of accepted files and of a library load, where there is memory
pub record AreLoadable : Type 0 where
  pub deterministic : (files : List File) (classes : List ClassFile) → IsAccepted files classes → IsLoadable (all_classes deterministic_library classes)
  pub raw : (files : List File) (classes : List ClassFile) → IsAccepted files classes → IsLoadable (all_classes raw_library classes)

-- files that violate no rule of `raw`
abbrev pub AreRawAccepted : Type 0
AreRawAccepted = (files : List File) (class : Name) (classes : List ClassFile) → AreGoodFiles files classes → AreRawViolations files class [] → IsRawAccepted files class classes

-- and they have class files
abbrev pub HaveRawClassFiles : Type 0
HaveRawClassFiles = (files : List File) (class : Name) → AreOfBytes files → AreRawViolations files class [] → (classes : List ClassFile) × IsRawAccepted files class classes

-- a plain run has a report, or an answer of the host is missing or of another kind
abbrev pub IsReportedOrStarves : Program → Terms → Declared → List ℕ → List HostAnswer → ℕ → Type 0
IsReportedOrStarves program terms entry input answers most =
    IsSome (plain_run program [] terms entry input answers most) ⊎ Starves program [] terms entry input answers most

-- of files that `check` accepts, and of files that are accepted where they are judged with the raw library: no turn of a metered run is ill-formed, nor any
-- step of a plain run, unless an answer of the host is missing or of another kind
pub record RunsStand : Type 0 where
  pub metered : (files : List File) (classes : List ClassFile) (program : Program) → IsAccepted files classes → IsProgramIn deterministic_library classes program
      → (entry : Declared) (input : List ℕ) (most : Thresholds) (n : ℕ) → IsEntry program entry → RunStands program (metered_run program entry input most n)
  pub plain : (files : List File) (classes : List ClassFile) (program : Program) → IsAccepted files classes → IsProgramIn raw_library classes program
      → (terms : Terms) (entry : Declared) (input : List ℕ) (answers : List HostAnswer) (most : ℕ) → IsEntry program entry
      → IsReportedOrStarves program terms entry input answers most
  pub raw : (files : List File) (classes : List ClassFile) (program : Program) → IsAcceptedBy raw_library files classes → IsProgramIn raw_library classes program
      → (terms : Terms) (entry : Declared) (input : List ℕ) (answers : List HostAnswer) (most : ℕ) → IsEntry program entry
      → IsReportedOrStarves program terms entry input answers most
  -- where no rule of `raw` is violated for a run of a class, its entry is one
  pub judged : (files : List File) (class : Name) (classes : List ClassFile) (program : Program) → AreGoodFiles files classes → AreRawViolations files class []
      → IsProgramIn raw_library classes program → (terms : Terms) (input : List ℕ) (answers : List HostAnswer) (most : ℕ)
      → IsReportedOrStarves program terms (entry_of class) input answers most

-- class files ask the host nothing: a program of them asks it what the library asks, and of the libraries only the raw one asks anything
pub record OthersAskNothing : Type 0 where
  pub any : (library : Library) (classes : List ClassFile) (program : Program) → AsksNothing (library_program library) → IsProgramIn library classes program → AsksNothing program
  pub deterministic : (classes : List ClassFile) (program : Program) → IsProgramIn deterministic_library classes program → AsksNothing program
  pub sandbox : (classes : List ClassFile) (program : Program) → IsProgramIn sandbox_library classes program → AsksNothing program
  pub raw : AsksNothing (library_program raw_library) → ⊥
