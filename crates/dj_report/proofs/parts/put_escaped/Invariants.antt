use Rattle.std.proofs.Common.{◌≡◌, ◌++◌, take}
use Rattle.dj_report.specs.trusted.Parts.{escaped}
use Rattle.dj_report.proofs.parts.put_escaped.Given as goal

abbrev pub invariant-loop-byte : goal.invariant-loop-byte
invariant-loop-byte l = l.out.items ≡ l.initial.out.items ++ escaped (take l.byte-index l.text)
