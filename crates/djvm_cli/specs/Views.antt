-- The program's values as the definitions see them.
use Rattle.std.specs.Prelude.{string_bytes}
use Rattle.dj_edge.specs.trusted.Held.{File}
use Rattle.djvm_cli.specs.declared.load.SourceFile.{SourceFile}

-- a file that was read, under its path
abbrev pub source_view : SourceFile → File
source_view file = (string_bytes file.path, file.bytes.items)
