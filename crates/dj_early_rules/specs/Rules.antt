-- Beside trusted/Rules.antt: what no clause of the call `djvm` reaches.
use Rattle.std.specs.Prelude.{List}
use Rattle.dj_edge.specs.trusted.Held.{File}
use Rattle.dj_report.specs.declared.report.Violation.{Violation}
use Rattle.dj_report.specs.trusted.Lines.{AreExactly}
use Rattle.dj_early_rules.specs.trusted.Rules.{IsEarlyLine}

-- ---- lines of files

-- all violations of these rules, in order, each once
abbrev pub AreEarlyViolations : List File → List Violation → Type 0
AreEarlyViolations files = AreExactly (IsEarlyLine files)
