use Rattle.std.proofs.Common.{◌<◌, ℕ, length, get_or, subst, sym, ◌∙◌, ap}
use Rattle.std.specs.Global.{Vec}
use Rattle.std.proofs.Math.ListN.{length-set}
use Rattle.dj_resolution.specs.Numbers.{AreBelow}
use Rattle.dj_resolution.proofs.Finding.{has_at}
use Rattle.dj_resolution.proofs.Marks.{below_push}
use Rattle.dj_resolution.proofs.order.release.Goals as goal
use Rattle.dj_resolution.proofs.order.release.Goals.{then-left-at-eq0+in_ok-push, else-left-at-eq0}

pub bounds-left-at : goal.bounds-left-at
bounds-left-at c =
    subst (λ (n : ℕ). get_or c.args.classes.now c.loop-class.class-index 0 < n) (sym c.loop-class.auto.left)
    (c.requires.classes (get_or c.args.classes.now c.loop-class.class-index 0) (has_at c.args.classes.now c.loop-class.class-index c.loop-class-test.true))

pub bounds-left-at-in-loop-class : goal.bounds-left-at-in-loop-class
bounds-left-at-in-loop-class c =
    subst (λ (n : ℕ). get_or c.args.classes.now c.loop-class.class-index 0 < n) (sym c.loop-class.auto.left)
    (c.requires.classes (get_or c.args.classes.now c.loop-class.class-index 0) (has_at c.args.classes.now c.loop-class.class-index c.loop-class-test.true))

pub bounds-left-at-in-loop-class-2 : goal.bounds-left-at-in-loop-class-2
bounds-left-at-in-loop-class-2 c =
    subst (λ (n : ℕ). get_or c.args.classes.now c.loop-class.class-index 0 < n)
    (sym (length-set c.loop-class.left (get_or c.args.classes.now c.loop-class.class-index 0) c.saturating_sub.result ∙ c.loop-class.auto.left))
    (c.requires.classes (get_or c.args.classes.now c.loop-class.class-index 0) (has_at c.args.classes.now c.loop-class.class-index c.loop-class-test.true))

pub loop-class-preserved : goal.loop-class-preserved
loop-class-preserved c = elim c.if-left-at-eq0.branch [
  | then-left-at-eq0+in_ok-push w ↦
      below_push (length c.args.left.now) c.loop-class.order.items c.if-left-at-eq0.order.items (get_or c.args.classes.now c.loop-class.class-index 0) c.loop-class.invariant
      (c.requires.classes (get_or c.args.classes.now c.loop-class.class-index 0) (has_at c.args.classes.now c.loop-class.class-index c.loop-class-test.true))
      (ap (λ (v : Vec ℕ). v.items) w.order-is ∙ w.in_ok-push.ensures.items)
  | else-left-at-eq0 w ↦ subst (λ (v : Vec ℕ). AreBelow (length c.args.left.now) v.items) (sym w.order-is) c.loop-class.invariant
]
