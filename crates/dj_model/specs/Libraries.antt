-- Beside trusted/Libraries.antt: what no clause of the call `djvm` reaches.
use Rattle.std.specs.Prelude.{List}
use Rattle.dj_names.specs.trusted.Library.{deterministic_library, raw_library}
use Rattle.dj_names.specs.Library.{sandbox_library}
use Rattle.dj_model.specs.trusted.Program.{Program, Class}
use Rattle.dj_model.specs.trusted.Libraries.{joined, library_program}

-- ---- the order of names

-- the classes of the files and of the deterministic library
unfoldable pub metered_program : List Class → Program
metered_program files = joined files (library_program deterministic_library)

-- the classes of the files and of the raw library
unfoldable pub raw_program : List Class → Program
raw_program files = joined files (library_program raw_library)

-- the classes of the files and of the library for rewritten classes
unfoldable pub sandbox_program : List Class → Program
sandbox_program files = joined files (library_program sandbox_library)
