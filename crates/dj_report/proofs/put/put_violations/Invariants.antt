use Rattle.std.proofs.Common.{◌≡◌, ◌++◌, take}
use Rattle.std.specs.List.{flat_map}
use Rattle.dj_report.specs.trusted.Text.{violation_text}
use Rattle.dj_report.proofs.put.put_violations.Given as goal

abbrev pub invariant-loop-violation : goal.invariant-loop-violation
invariant-loop-violation l = l.out.items ≡ l.initial.out.items ++ flat_map violation_text (take l.violation-index l.violations)
