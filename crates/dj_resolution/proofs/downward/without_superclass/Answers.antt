use Rattle.std.proofs.Common.{ℕ, length, subst, sym, ◌∙◌, ap, arith}
use Rattle.std.specs.Global.{Vec}
use Rattle.dj_resolution.specs.Numbers.{AreBelow}
use Rattle.dj_resolution.proofs.Marks.{below_push}
use Rattle.dj_resolution.proofs.downward.without_superclass.Goals as goal
use Rattle.dj_resolution.proofs.downward.without_superclass.Goals.{then-is_none+in_ok-push, else-is_none}

pub loop-class-preserved : goal.loop-class-preserved
loop-class-preserved c = elim c.if-is_none.branch [
  | then-is_none+in_ok-push w ↦
      below_push (length c.args.table.now) c.loop-class.order.items c.if-is_none.order.items c.loop-class.class c.loop-class.invariant (omega (arith, c.class_count-class-end.ensures.count))
      (ap (λ (v : Vec ℕ). v.items) w.order-is ∙ w.in_ok-push.ensures.items)
  | else-is_none w ↦ subst (λ (v : Vec ℕ). AreBelow (length c.args.table.now) v.items) (sym w.order-is) c.loop-class.invariant
]
