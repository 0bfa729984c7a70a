use Rattle.std.proofs.Common.{length}
use Rattle.dj_resolution.specs.Numbers.{AreInside, lists_of}
use Rattle.dj_resolution.proofs.order.put_below.Given as goal

-- so far
abbrev pub invariant-loop-interface : goal.invariant-loop-interface
invariant-loop-interface l = AreInside (length l.initial.below) (lists_of l.below)
