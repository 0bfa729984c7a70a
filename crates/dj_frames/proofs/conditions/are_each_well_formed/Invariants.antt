use Rattle.std.specs.List.{AllWithin}
use Rattle.dj_frames.specs.StackMaps.{IsWellFormed}
use Rattle.dj_frames.proofs.conditions.are_each_well_formed.Given as goal

abbrev pub invariant-loop-frame : goal.invariant-loop-frame
invariant-loop-frame l = AllWithin (IsWellFormed l.fn.starts) l.fn.frames 0 l.frame-index
