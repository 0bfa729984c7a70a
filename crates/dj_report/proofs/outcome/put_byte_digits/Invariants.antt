use Rattle.std.proofs.Common.{◌≡◌, ◌++◌, take}
use Rattle.std.specs.List.{flat_map}
use Rattle.dj_report.specs.trusted.Outcomes.{byte_hex}
use Rattle.dj_report.proofs.outcome.put_byte_digits.Given as goal

abbrev pub invariant-loop-byte : goal.invariant-loop-byte
invariant-loop-byte l = l.out.items ≡ l.initial.out.items ++ flat_map byte_hex (take l.byte-index l.bytes)
