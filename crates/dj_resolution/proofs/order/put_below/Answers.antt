use Rattle.std.proofs.Common.{◌<◌, ℕ, length, get_or, subst, sym}
use Rattle.dj_resolution.proofs.Finding.{has_at}
use Rattle.dj_resolution.proofs.Marks.{inside_more}
use Rattle.dj_resolution.proofs.order.put_below.Goals as goal

pub bounds-below-interface : goal.bounds-below-interface
bounds-below-interface c =
    subst (λ (n : ℕ). get_or c.args.listed.now c.loop-interface.interface-index 0 < n) (sym c.loop-interface.auto.below)
    (c.requires.listed (get_or c.args.listed.now c.loop-interface.interface-index 0) (has_at c.args.listed.now c.loop-interface.interface-index c.loop-interface-test.true))

pub loop-interface-preserved : goal.loop-interface-preserved
loop-interface-preserved c =
    inside_more (length c.args.below.now) c.loop-interface.below (get_or c.args.listed.now c.loop-interface.interface-index 0) c.args.class c.index-below-interface.result c.push.new.self c.loop-interface.invariant
    (c.requires.listed (get_or c.args.listed.now c.loop-interface.interface-index 0) (has_at c.args.listed.now c.loop-interface.interface-index c.loop-interface-test.true))
    c.requires.there c.in_ok-push.ensures.items
