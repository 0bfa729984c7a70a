use Rattle.std.proofs.Common.{◌≡◌, ◌++◌, take, map}
use Rattle.std.specs.List.{flat_map}
use Rattle.dj_pool.specs.trusted.Pool.{constant_bytes}
use Rattle.dj_pool.specs.Views.{constant_of}
use Rattle.dj_write.proofs.pool.put_entries.Given as goal

abbrev pub invariant-loop-entry : goal.invariant-loop-entry
invariant-loop-entry l = l.out.items ≡ l.initial.out.items ++ flat_map constant_bytes (map constant_of (take l.entry-index l.entries))
