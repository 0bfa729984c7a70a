-- Laws of rewritten class files: what is read of them.
use Rattle.std.specs.Prelude.{◌≡◌, List}
use Rattle.std.specs.List.{AllByRecursion}
use Rattle.dj_names.specs.Types.{in_sandbox}
use Rattle.dj_names.specs.trusted.Library.{deterministic_library}
use Rattle.dj_names.specs.Library.{sandbox_library}
use Rattle.dj_class.specs.trusted.ClassFile.{ClassFile}
use Rattle.dj_early_rules.specs.trusted.Malformed.{HasFaultyMethod}
use Rattle.dj_model.specs.trusted.Program.{Program, Class}
use Rattle.dj_model.specs.Program.{class_map}
use Rattle.dj_program.specs.trusted.Programs.{AreSideBySide, IsClassIn, IsProgramIn}
use Rattle.dj_groups.specs.Rewritten.{rewritten_code, rewritten}
use Rattle.dj_rewritten.specs.Files.{IsRewrittenFile}
use Rattle.dj_rewritten.specs.Rewritable.{IsRewritable}

-- a rewritten file's class is the class with the names of the package sandbox and the rewritten code
abbrev pub ClassReadBack : Type 0
ClassReadBack = (program : Program) (c d : ClassFile) (class : Class) → IsRewritable c → IsRewrittenFile program c d → IsClassIn c class
    → IsClassIn d (class_map in_sandbox (rewritten_code program) class)

-- no method of it is faulty
abbrev pub NoFaultyMethods : Type 0
NoFaultyMethods = (program : Program) (c d : ClassFile) → IsRewritable c → IsRewrittenFile program c d → HasFaultyMethod d → ⊥

-- the rewritten files of a program's files are, with the library of rewritten classes, the rewritten program
abbrev pub ProgramReadBack : Type 0
ProgramReadBack = (cs ds : List ClassFile) (program : Program) → AllByRecursion IsRewritable cs → AreSideBySide (IsRewrittenFile program) cs ds → IsProgramIn deterministic_library cs program
    → IsProgramIn sandbox_library ds (rewritten program)

-- and no other program is theirs
abbrev pub NoOtherProgram : Type 0
NoOtherProgram = (cs ds : List ClassFile) (program other : Program) → AllByRecursion IsRewritable cs → AreSideBySide (IsRewrittenFile program) cs ds → IsProgramIn deterministic_library cs program
    → IsProgramIn sandbox_library ds other → other ≡ rewritten program
