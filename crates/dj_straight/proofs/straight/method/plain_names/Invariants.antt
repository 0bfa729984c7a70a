use Rattle.std.proofs.Common.{map, take}
use Rattle.dj_class.specs.Members.{member_of}
use Rattle.dj_straight.specs.Finds.{now_of}
use Rattle.dj_straight.specs.Straight.{ArePlainNames}
use Rattle.dj_straight.proofs.straight.method.plain_names.Given as goal

-- the names so far
abbrev pub invariant-loop-method : goal.invariant-loop-method
invariant-loop-method l = ArePlainNames l.pool (take l.method-index (map member_of l.methods)) (map now_of l.names.items)
