use Rattle.std.proofs.Common.{◌≡◌, map, drop, codes}
use Rattle.dj_straight.specs.trusted.Program.{method_in}
use Rattle.dj_straight.specs.trusted.Methods.{straight_descriptor}
use Rattle.dj_straight.specs.Methods.{method_view}
use Rattle.dj_class_set.proofs.run_rules.verify_of.Given as goal

-- none of the methods so far is verify
abbrev pub invariant-loop-method : goal.invariant-loop-method
invariant-loop-method l =
    method_in (map method_view (drop l.method-index l.methods)) (codes "verify") straight_descriptor
    ≡ method_in (map method_view l.methods) (codes "verify") straight_descriptor
