-- Beside trusted/Checked.antt: what no clause of the call `djvm` reaches.
use Rattle.std.specs.Prelude.{List}
use Rattle.dj_edge.specs.trusted.Held.{File}
use Rattle.dj_names.specs.trusted.Library.{deterministic_library}
use Rattle.dj_report.specs.declared.report.Violation.{Violation}
use Rattle.dj_class_set.specs.trusted.Checked.{IsLineBy}

abbrev pub IsCheckLine : List File → Violation → Type 0
IsCheckLine files v = IsLineBy deterministic_library files v
