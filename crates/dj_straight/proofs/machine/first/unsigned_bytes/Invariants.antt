use Rattle.std.proofs.Common.{◌≡◌, map, take}
use Rattle.std.specs.Int.{w8, cast_unsigned}
use Rattle.dj_straight.proofs.machine.first.unsigned_bytes.Given as goal

abbrev pub invariant-loop-byte : goal.invariant-loop-byte
invariant-loop-byte l = l.unsigned.items ≡ map (cast_unsigned w8) (take l.byte-index l.bytes)
