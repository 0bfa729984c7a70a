use Rattle.std.proofs.Common.{take}
use Rattle.dj_emit.specs.Arrivals.{AreArrivals}
use Rattle.dj_emit.proofs.arrivals.arrivals.Given as goal

abbrev pub invariant-loop-range : goal.invariant-loop-range
invariant-loop-range l = AreArrivals l.count (take l.range-index l.ranges) l.arrives.items
