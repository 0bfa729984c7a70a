use Rattle.std.proofs.Common.{ℕ, ◌<◌, length, subst, ap, arith, sym, ◌∙◌}
use Rattle.std.specs.Global.{Vec}
use Rattle.std.proofs.lemmas.List.{length-map}
use Rattle.dj_resolution.specs.Numbers.{AreBelow}
use Rattle.dj_resolution.proofs.Marks.{found_below, row_below}
use Rattle.dj_resolution.proofs.order.order_of.Goals as goal

pub without_interfaces-requires : goal.without_interfaces-requires
without_interfaces-requires c = let same = ap length c.deref.ensures.value in omega (arith, same, c.in_ok-left.ensures, c.class_count-count.ensures.count, c.class_count-count.ensures.few)

pub index-requires : goal.index-requires
index-requires c =
    let found = c.in-Some.ensures.lookup in
    let lt : c.in-Some.field-0.now < length c.args.table.now =
    found_below (length c.args.table.now) c.loop-turn.order.items c.deref-in-loop-turn.result.now c.loop-turn.turn c.in-Some.field-0.now c.loop-turn.invariant.0 c.deref-in-loop-turn.ensures.value found.3.0 (found.3.1 0) in
    let count = length-map c.in_ok-below.below.items (λ (l : Vec ℕ). l.items) in
    let inside = c.in_ok-below.ensures in
    omega (arith, lt, count, inside.count)

pub release-requires-clause-classes : goal.release-requires-clause-classes
release-requires-clause-classes c =
    let found = c.in-Some.ensures.lookup in
    let lt : c.in-Some.field-0.now < length c.args.table.now =
    found_below (length c.args.table.now) c.loop-turn.order.items c.deref-in-loop-turn.result.now c.loop-turn.turn c.in-Some.field-0.now c.loop-turn.invariant.0 c.deref-in-loop-turn.ensures.value found.3.0 (found.3.1 0) in
    subst (λ (n : ℕ). AreBelow n c.deref-in-loop-turn-2.result.now) (sym (ap length c.deref_mut.ensures.value ∙ c.loop-turn.invariant.1))
    (row_below (length c.args.table.now) c.in_ok-below.below.items c.in-Some.field-0.now c.index.result.now c.deref-in-loop-turn-2.result.now c.in_ok-below.ensures lt c.index.ensures c.deref-in-loop-turn-2.ensures.value)
