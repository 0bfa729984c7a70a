use Rattle.std.proofs.Common.{◌≡◌, length}
use Rattle.dj_names.specs.trusted.DescReading.{dims_read}
use Rattle.dj_names.proofs.walk.dims_at.Given as goal

-- the rest decides
abbrev pub invariant-loop-rest : goal.invariant-loop-rest
invariant-loop-rest l = dims_read l.dims l.rest ≡ dims_read 0 l.fn.bytes

abbrev pub decreases-loop-rest : goal.decreases-loop-rest
decreases-loop-rest l = length l.rest
