use Rattle.std.proofs.Common.{◌<◌, length, IfSome}
use Rattle.dj_resolution.proofs.long.is_low.Given as goal

abbrev pub invariant-loop : goal.invariant-loop
invariant-loop l = IfSome l.next (λ at. at < length l.table)
