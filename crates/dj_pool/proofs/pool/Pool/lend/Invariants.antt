use Rattle.std.proofs.Common.{◌≡◌, map, take}
use Rattle.dj_pool.specs.Views.{constant_of}
use Rattle.dj_pool.proofs.pool.Pool.lend.Given as goal

-- what is copied so far
abbrev pub invariant-loop-entry : goal.invariant-loop-entry
invariant-loop-entry l = map constant_of l.entries.items ≡ map constant_of (take l.entry-index l.entry-items)
