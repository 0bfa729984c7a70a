use Rattle.std.specs.List.{AllWithin}
use Rattle.dj_frames.specs.trusted.StackMaps.{IsType}
use Rattle.dj_frames.proofs.conditions.are_types.Given as goal

abbrev pub invariant-loop-item : goal.invariant-loop-item
invariant-loop-item l = AllWithin (IsType l.fn.starts) l.fn.types 0 l.item-index
