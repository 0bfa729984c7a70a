use Rattle.std.specs.List.{AllWithin}
use Rattle.dj_frames.specs.StackMaps.{IsTypeBelow}
use Rattle.dj_frames.proofs.conditions.are_types_below.Given as goal

abbrev pub invariant-loop-item : goal.invariant-loop-item
invariant-loop-item l = AllWithin (IsTypeBelow l.fn.limit) l.fn.types 0 l.item-index
