use Rattle.std.specs.List.{AllWithin}
use Rattle.dj_frames.specs.StackMaps.{IsFrameBelow}
use Rattle.dj_frames.proofs.conditions.are_below.Given as goal

abbrev pub invariant-loop-frame : goal.invariant-loop-frame
invariant-loop-frame l = AllWithin (IsFrameBelow l.fn.limit) l.fn.frames 0 l.frame-index
