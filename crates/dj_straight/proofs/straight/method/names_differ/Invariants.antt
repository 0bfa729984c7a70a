use Rattle.std.proofs.Common.{map, take}
use Rattle.dj_straight.specs.Finds.{now_of}
use Rattle.dj_straight.proofs.StraightNames.{AreSeen}
use Rattle.dj_straight.proofs.straight.method.names_differ.Given as goal

-- the names so far differ, and they are the set's
abbrev pub invariant-loop-name : goal.invariant-loop-name
invariant-loop-name l = AreSeen (take l.name-index (map now_of l.names)) l.seen
