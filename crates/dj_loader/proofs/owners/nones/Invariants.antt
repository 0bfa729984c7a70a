use Rattle.std.proofs.Common.{◌≡◌, replicate, None}
use Rattle.dj_loader.proofs.owners.nones.Given as goal

-- this many so far
abbrev pub invariant-loop : goal.invariant-loop
invariant-loop g l = l.nones.items ≡ replicate l.counter None
