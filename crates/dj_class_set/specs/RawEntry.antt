-- Used by the code alone: whether a method has code, and the line of an entry that a program doesn't have.
use Rattle.std.specs.Prelude.{◌≡◌, Bool, ◌++◌, codes, IsFalse}
use Rattle.dj_names.specs.trusted.Types.{Name}
use Rattle.dj_model.specs.trusted.Program.{Program, Method, has_code}
use Rattle.dj_report.specs.declared.report.Violation.{Violation}
use Rattle.dj_report.specs.trusted.Lines.{file_line}
use Rattle.dj_class_set.specs.trusted.RawRules.{runs_entry}

abbrev pub method_has_code : Method → Bool
method_has_code m = has_code m.body

abbrev pub EntryLine : Program → Name → Violation → Type 0
EntryLine program class v = IsFalse (runs_entry program class) × (v ≡ file_line (class ++ codes ".class") 20)
