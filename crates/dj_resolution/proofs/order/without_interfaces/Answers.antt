use Rattle.std.proofs.Common.{ℕ, length, subst, sym, ◌∙◌, ap}
use Rattle.std.specs.Global.{Vec}
use Rattle.dj_resolution.specs.Numbers.{AreBelow}
use Rattle.dj_resolution.proofs.Marks.{below_push}
use Rattle.dj_resolution.proofs.order.without_interfaces.Goals as goal
use Rattle.dj_resolution.proofs.order.without_interfaces.Goals.{then-count-eq0+in_ok-push, else-count-eq0}

pub loop-class-preserved : goal.loop-class-preserved
loop-class-preserved c = elim c.if-count-eq0.branch [
  | then-count-eq0+in_ok-push w ↦
      below_push (length c.args.counts.now) c.loop-class.order.items c.if-count-eq0.order.items c.loop-class.class c.loop-class.invariant c.loop-class-test.true
      (ap (λ (v : Vec ℕ). v.items) w.order-is ∙ w.in_ok-push.ensures.items)
  | else-count-eq0 w ↦ subst (λ (v : Vec ℕ). AreBelow (length c.args.counts.now) v.items) (sym w.order-is) c.loop-class.invariant
]
