use Rattle.std.proofs.Common.{◌≡◌, ◌≤◌, length, take, drop, []}
use Rattle.dj_names.specs.trusted.DescReading.{name_read}
use Rattle.dj_names.proofs.walk.name_at.Given as goal

-- the rest decides
abbrev pub invariant-loop-rest : goal.invariant-loop-rest
invariant-loop-rest l = record {
  within : l.at ≤ length l.bytes;
  rest_is : l.rest ≡ drop l.at l.bytes;
  reads : name_read (take l.at l.bytes) l.rest ≡ name_read [] l.fn.bytes;
}

abbrev pub decreases-loop-rest : goal.decreases-loop-rest
decreases-loop-rest l = length l.rest
