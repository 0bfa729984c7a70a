use Rattle.std.proofs.Common.{◌≡◌, map, take}
use Rattle.dj_pool.specs.Views.{constant_of}
use Rattle.dj_image.specs.Owned.{constant_of_owned}
use Rattle.dj_image.proofs.owned.own_pool.Given as goal

abbrev pub invariant-loop-entry : goal.invariant-loop-entry
invariant-loop-entry l = map constant_of_owned l.entries.items ≡ map constant_of (take l.entry-index l.entry-items)
