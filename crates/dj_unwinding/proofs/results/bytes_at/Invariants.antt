use Rattle.std.proofs.Common.{◌≡◌, map, take}
use Rattle.std.specs.Int.{w8, cast_unsigned}
use Rattle.dj_unwinding.specs.Results.{contents_at}
use Rattle.dj_unwinding.proofs.results.bytes_at.Given as goal

abbrev pub invariant-loop-at : goal.invariant-loop-at
invariant-loop-at l = l.bytes ≡ take l.at (map (cast_unsigned w8) (contents_at l.heap l.r))
