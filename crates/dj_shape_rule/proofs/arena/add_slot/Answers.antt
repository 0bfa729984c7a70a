use Rattle.std.proofs.Common.{◌≡◌, ◌+◌, length, sym, subst, arith}
use Rattle.dj_shape_rule.specs.Arena.{AreLinked}
use Rattle.dj_shape_rule.proofs.Links.{few_slots, linked_more, one_more}
use Rattle.dj_shape_rule.proofs.arena.add_slot.Goals as goal

pub overflow_add-result : goal.overflow_add-result
overflow_add-result c =
    let within = c.requires.within.0 in
    let count = c.requires.within.1 in
    let few = few_slots c.args.slots.now.items c.args.place.end in
    omega (arith, c.in_ok-end.ensures.0, c.in_ok-end.ensures.1, c.len.ensures, c.args.slots.now.ok.0)

pub returns-clause-linked : goal.returns-clause-linked
returns-clause-linked c =
    subst AreLinked (sym c.in_ok-push.ensures.items) (linked_more c.args.slots.now.items _ c.requires.linked c.requires.within.0)

pub returns-clause-added : goal.returns-clause-added
returns-clause-added c =
    let end : c.in_ok-end.end ≡ length c.args.slots.now.items + 1 = omega (arith, c.in_ok-end.ensures.0, c.len.ensures, c.args.slots.now.ok.0) in
    one_more c.args.slots.now.items c.push.new.self.items c.args.place c.args.kind c.in_ok-end.end c.requires.linked c.requires.within c.in_ok-push.ensures.items end
