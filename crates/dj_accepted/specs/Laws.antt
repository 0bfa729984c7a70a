-- What follows of accepted files for rewriting them, and for runs of the rewritten program.
use Rattle.std.specs.Prelude.{◌≡◌, ℕ, ◌≤◌, List, length, Contains}
use Rattle.std.specs.List.{AllByRecursion}
use Rattle.dj_edge.specs.trusted.Held.{File}
use Rattle.dj_names.specs.declared.run.Thresholds.{Thresholds}
use Rattle.dj_names.specs.trusted.Library.{deterministic_library}
use Rattle.dj_names.specs.Library.{sandbox_library}
use Rattle.dj_class.specs.trusted.ClassFile.{MemberInfo, ClassFile}
use Rattle.dj_model.specs.trusted.Types.{Declared}
use Rattle.dj_model.specs.trusted.Program.{Program, Class, Method, Code, Runs}
use Rattle.dj_model.specs.trusted.Linking.{most_classes}
use Rattle.dj_model.specs.Standing.{AsksNothing, IsEntry}
use Rattle.dj_groups.specs.Rewritten.{rewritten}
use Rattle.dj_program.specs.trusted.Codes.{CodeParts, code_in, IsMethodCode}
use Rattle.dj_program.specs.trusted.Programs.{AreSideBySide, IsProgramIn}
use Rattle.dj_rewritten.specs.Files.{IsRewrittenFile}
use Rattle.dj_rewritten.specs.Rewritable.{IsRewritable}
use Rattle.dj_sim.specs.Objects.{HasBase}
use Rattle.dj_sim.specs.Metering.{Meters}
use Rattle.dj_class_set.specs.trusted.Limits.{most_files}
use Rattle.dj_sound.specs.Accepted.{IsAccepted}
use Rattle.dj_accepted.specs.News.{MakesKnown}

-- the program of accepted files, with the classes of the files
abbrev pub OfAcceptedFiles : (List ClassFile → Program → Type 0) → Type 0
OfAcceptedFiles IsSuch = (files : List File) (classes : List ClassFile) (program : Program) → IsAccepted files classes → IsProgramIn deterministic_library classes program → IsSuch classes program

-- ---- for rewriting

abbrev pub AreRewritable : Type 0
AreRewritable = OfAcceptedFiles (λ classes program. AllByRecursion IsRewritable classes)

-- the class of each `new` is there: in the code of each method of the program, and in that of each method of the files
pub record AreKnownIn (classes : List ClassFile) (program : Program) : Type 0 where
  pub methods : (c : Class) → Contains program c → (m : Method) → Contains c.methods m → (code : Code) → m.body ≡ Runs code → AllByRecursion (MakesKnown program) code.instructions
  pub files : (c : ClassFile) → Contains classes c → (m : MemberInfo) → Contains c.methods m → (parts : CodeParts) → IsMethodCode c.pool m parts
      → AllByRecursion (MakesKnown program) (code_in c.pool parts).instructions

abbrev pub AreNewsKnown : Type 0
AreNewsKnown = OfAcceptedFiles AreKnownIn

-- the rewritten files are those of the rewritten program and of no other, and it asks the host nothing
pub record AreReadBack (classes : List ClassFile) (program : Program) : Type 0 where
  pub reads : (written : List ClassFile) → AreSideBySide (IsRewrittenFile program) classes written → IsProgramIn sandbox_library written (rewritten program)
  pub one : (written : List ClassFile) (other : Program) → AreSideBySide (IsRewrittenFile program) classes written → IsProgramIn sandbox_library written other → other ≡ rewritten program
  pub quiet : AsksNothing (rewritten program)

abbrev pub AcceptedReadBack : Type 0
AcceptedReadBack = OfAcceptedFiles AreReadBack

-- ---- for runs

-- no more classes than there are levels in the chain of a class
abbrev pub IsFew : Program → Type 0
IsFew program = length program ≤ most_classes

-- so have the files of any job
abbrev pub AreFew : Type 0
AreFew = (files : List File) (classes : List ClassFile) (program : Program) → IsAccepted files classes → IsProgramIn deterministic_library classes program → length files ≤ most_files → IsFew program

abbrev pub HaveBase : Type 0
HaveBase = OfAcceptedFiles (λ classes program. IsFew program → HasBase program)

-- the plain run of the rewritten program follows the metered run
abbrev pub AcceptedMeters : Type 0
AcceptedMeters = OfAcceptedFiles (λ classes program. IsFew program → (entry : Declared) → IsEntry program entry → (most : Thresholds) (input : List ℕ) → Meters program most entry input)
