use Rattle.std.proofs.Common.{◌≡◌, map, take}
use Rattle.std.specs.Int.{w8, cast_signed}
use Rattle.dj_straight.proofs.machine.first.signed_bytes.Given as goal

abbrev pub invariant-loop-byte : goal.invariant-loop-byte
invariant-loop-byte l = l.signed.items ≡ map (cast_signed w8) (take l.byte-index l.bytes)
