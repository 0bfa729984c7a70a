use Rattle.std.proofs.Common.{◌-◌, None, refl, slice_index_or, arith}
use Rattle.dj_shape_rule.specs.declared.arena.Slot.{Slot}
use Rattle.dj_shape_rule.proofs.Links.{below_is}
use Rattle.dj_shape_rule.proofs.arena.below.Goals as goal

abbrev none : Slot
none = record { kind = None; before = 0 }

pub overflow_sub-under : goal.overflow_sub-under
overflow_sub-under c =
    let some = (below_is c.args.slots.now c.requires.linked c.args.place none (slice_index_or c.args.slots.now (c.args.place.end - 1) none) c.requires.within c.requires.some refl).0 in
    omega (arith, some)

pub returns-clause-within : goal.returns-clause-within
returns-clause-within c = (below_is c.args.slots.now c.requires.linked c.args.place none (slice_index_or c.args.slots.now (c.args.place.end - 1) none) c.requires.within c.requires.some refl).1

pub returns-clause-less : goal.returns-clause-less
returns-clause-less c = (below_is c.args.slots.now c.requires.linked c.args.place none (slice_index_or c.args.slots.now (c.args.place.end - 1) none) c.requires.within c.requires.some refl).2

pub returns-clause-kinds : goal.returns-clause-kinds
returns-clause-kinds c = (below_is c.args.slots.now c.requires.linked c.args.place none (slice_index_or c.args.slots.now (c.args.place.end - 1) none) c.requires.within c.requires.some refl).3
