use Rattle.std.proofs.Common.{◌≡◌, ◌++◌, take}
use Rattle.std.specs.List.{flat_map}
use Rattle.dj_report.specs.trusted.Outcomes.{unit_hex}
use Rattle.dj_report.proofs.outcome.put_unit_digits.Given as goal

abbrev pub invariant-loop-unit : goal.invariant-loop-unit
invariant-loop-unit l = l.out.items ≡ l.initial.out.items ++ flat_map unit_hex (take l.unit-index l.units)
