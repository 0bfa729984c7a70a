use Rattle.std.proofs.Common.{◌<◌, length, IfSome}
use Rattle.dj_resolution.proofs.costly.left_by_chain.Given as goal

abbrev pub invariant-loop : goal.invariant-loop
invariant-loop l = IfSome l.next (λ at. at < length l.table)
