use Rattle.std.proofs.Common.{◌≡◌, map, take}
use Rattle.dj_frames.specs.Moves.{moved_frame}
use Rattle.dj_frames.proofs.relocation.relocate.Given as goal

abbrev pub invariant-loop-frame : goal.invariant-loop-frame
invariant-loop-frame l = l.moved ≡ map (moved_frame l.fn.start l.fn.own) (take l.frame-index l.fn.frames)
