use Rattle.std.proofs.Common.{◌≡◌, take, map}
use Rattle.dj_pool.specs.trusted.Pool.{indexed}
use Rattle.dj_pool.specs.Views.{constant_of}
use Rattle.dj_asm_pool.specs.Pooling.{constants_in}
use Rattle.dj_asm_pool.proofs.entries.entries_of.Given as goal

abbrev pub invariant-loop-key : goal.invariant-loop-key
invariant-loop-key l = map constant_of l.list.items ≡ indexed (constants_in l.texts (take l.key-index l.keys))
