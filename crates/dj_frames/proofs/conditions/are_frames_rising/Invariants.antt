use Rattle.std.proofs.Common.{ℕ, ◌+◌, ◌<◌, get_or}
use Rattle.dj_ops.specs.declared.frames.Frame.{Frame}
use Rattle.dj_frames.proofs.conditions.are_frames_rising.Given as goal

abbrev pub invariant-loop-index : goal.invariant-loop-index
invariant-loop-index l = (k : ℕ) (d : Frame) → k + 1 < l.index → (get_or l.fn.frames k d).at < (get_or l.fn.frames (k + 1) d).at
