use Rattle.std.proofs.Common.{ℕ, ◌<◌, length, arith}
use Rattle.std.specs.Global.{Vec}
use Rattle.std.proofs.lemmas.List.{length-map}
use Rattle.dj_resolution.proofs.Chained.{below_append}
use Rattle.dj_resolution.proofs.Marks.{found_below, row_below}
use Rattle.dj_resolution.proofs.downward.downward.Goals as goal

pub index-requires : goal.index-requires
index-requires c =
    let found = c.in-Some.ensures.lookup in
    let lt : c.in-Some.field-0.now < length c.args.table.now =
    found_below (length c.args.table.now) c.loop-turn.order.items c.deref.result.now c.loop-turn.turn c.in-Some.field-0.now c.loop-turn.invariant c.deref.ensures.value found.3.0 (found.3.1 0) in
    let count = length-map c.in_ok-below.below.items (λ (l : Vec ℕ). l.items) in
    let inside = c.in_ok-below.ensures in
    omega (arith, lt, count, inside.count)

pub loop-turn-preserved : goal.loop-turn-preserved
loop-turn-preserved c =
    let found = c.in-Some.ensures.lookup in
    let lt : c.in-Some.field-0.now < length c.args.table.now =
    found_below (length c.args.table.now) c.loop-turn.order.items c.deref.result.now c.loop-turn.turn c.in-Some.field-0.now c.loop-turn.invariant c.deref.ensures.value found.3.0 (found.3.1 0) in
    below_append (length c.args.table.now) c.loop-turn.order.items c.deref-in-loop-turn.result.now c.extend_from_slice.new.self.items c.loop-turn.invariant
    (row_below (length c.args.table.now) c.in_ok-below.below.items c.in-Some.field-0.now c.index.result.now c.deref-in-loop-turn.result.now c.in_ok-below.ensures lt c.index.ensures c.deref-in-loop-turn.ensures.value)
    c.in_ok-extend_from_slice.ensures.items
