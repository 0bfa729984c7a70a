-- The values as the definitions see them.
use Rattle.dj_edge.specs.trusted.Held.{File}
use Rattle.dj_report.specs.declared.report.PathFile.{PathFile}

-- a file under its path within the folder
abbrev pub path_file_view : PathFile → File
path_file_view file = (file.path.now, file.bytes.now)
