use Rattle.std.proofs.Common.{◌≡◌}
use Rattle.dj_pool.specs.Reading.{first_unlinked}
use Rattle.dj_pool.proofs.Found.{unlinked_from}
use Rattle.dj_pool.proofs.judged.JudgedPool.find_unlinked.Given as goal

abbrev pub invariant-loop-i : goal.invariant-loop-i
invariant-loop-i l = unlinked_from l.self l.entry-items l.i ≡ first_unlinked l.self 1 l.self
