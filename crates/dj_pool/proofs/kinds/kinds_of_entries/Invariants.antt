use Rattle.std.proofs.Common.{◌≡◌, map, take}
use Rattle.dj_pool.specs.Views.{constant_of}
use Rattle.dj_pool.specs.Tests.{kinds_of}
use Rattle.dj_pool.proofs.kinds.kinds_of_entries.Given as goal

abbrev pub invariant-loop-entry : goal.invariant-loop-entry
invariant-loop-entry l = l.kinds.items ≡ map kinds_of (map constant_of (take l.entry-index l.entries))
