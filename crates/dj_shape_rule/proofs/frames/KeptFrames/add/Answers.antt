use Rattle.dj_shape_rule.proofs.Places.{placed_grown}
use Rattle.dj_shape_rule.proofs.frames.KeptFrames.add.Goals as goal

pub invariant_of-self : goal.invariant_of-self
invariant_of-self c = record {
  linked = c.add_slot.ensures.linked;
  placed = placed_grown c.args.self.now.slots.items c.add_slot.new.slots.items c.args.self.now.reported c.args.self.now.linked c.add_slot.ensures.extends c.args.self.now.placed;
}
