-- The rules 17 and 18 over an image.
use Rattle.std.specs.Prelude.{map}
use Rattle.dj_model.specs.trusted.Program.{Program}
use Rattle.dj_declarations.specs.Files.{bare_class}
use Rattle.dj_image.specs.Imaged.{Imaged, program_of}

-- the classes of an image without code and constants, which the rules 17 and 18 don't read
abbrev pub declared_of : Imaged → Program
declared_of imaged = map bare_class (program_of imaged)
