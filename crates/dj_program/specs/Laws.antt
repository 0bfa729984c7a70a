-- Laws of programs of class files.
use Rattle.std.specs.Prelude.{◌≡◌, ⊤, List, [], ◌∷◌, map}
use Rattle.dj_names.specs.trusted.Library.{Library}
use Rattle.dj_class.specs.trusted.ClassFile.{ClassFile}
use Rattle.dj_model.specs.trusted.Program.{Program}
use Rattle.dj_early_rules.specs.trusted.Malformed.{IsFaulty}
use Rattle.dj_declarations.specs.trusted.Files.{declared_program}
use Rattle.dj_declarations.specs.Files.{bare_class}
use Rattle.dj_program.specs.trusted.Programs.{IsProgramIn}

-- none of the files has a faulty part
abbrev pub AreWhole : List ClassFile → Type 0
AreWhole [] = ⊤
AreWhole (c ∷ files) = (IsFaulty c → ⊥) × AreWhole files

-- files without faulty parts have one program at most
abbrev pub OneProgram : Type 0
OneProgram = (library : Library) (files : List ClassFile) (a b : Program) → AreWhole files → IsProgramIn library files a → IsProgramIn library files b → a ≡ b

-- without its code and its constants it is the program as the files declare it
abbrev pub BareIsDeclared : Type 0
BareIsDeclared = (library : Library) (files : List ClassFile) (program : Program) → IsProgramIn library files program → map bare_class program ≡ declared_program library files
