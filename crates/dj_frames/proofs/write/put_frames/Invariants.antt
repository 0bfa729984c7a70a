use Rattle.dj_frames.proofs.Written.{IsWriting}
use Rattle.dj_frames.proofs.write.put_frames.Given as goal

abbrev pub invariant-loop-frame : goal.invariant-loop-frame
invariant-loop-frame l = IsWriting l.fn.starts l.initial.out l.frames l.frame-index l.least l.out
