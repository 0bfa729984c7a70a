use Rattle.std.proofs.Common.{map, take}
use Rattle.dj_class.specs.Members.{member_of}
use Rattle.dj_straight.specs.Methods.{method_view}
use Rattle.dj_straight.specs.trusted.Straight.{AreStraightMethods}
use Rattle.dj_straight.proofs.straight.method.straight_methods.Given as goal

-- the methods so far are straight
abbrev pub invariant-loop-method : goal.invariant-loop-method
invariant-loop-method l = AreStraightMethods l.pool (take l.method-index (map member_of l.methods)) (map method_view l.found.items)
