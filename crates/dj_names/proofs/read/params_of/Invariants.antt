use Rattle.std.proofs.Common.{◌≡◌, ◌≤◌, ◌-◌, length}
use Rattle.dj_names.specs.trusted.DescReading.{params_read}
use Rattle.dj_names.proofs.DescLaws.{with_prefix}
use Rattle.dj_names.proofs.read.params_of.Given as goal

-- the parameters so far, and those that are still read
abbrev pub invariant-loop : goal.invariant-loop
invariant-loop l = record {
  few : l.slots ≤ 255;
  reads : with_prefix l.params (params_read (l.end - l.counter) l.slots l.rest) ≡ params_read (length l.fn.bytes) 0 l.fn.bytes;
}
