use Rattle.std.proofs.Common.{ℕ, ◌+◌, ◌<◌}
use Rattle.std.specs.Prelude.{slice_index}
use Rattle.dj_frames.proofs.conditions.is_rising.Given as goal

abbrev pub invariant-loop-index : goal.invariant-loop-index
invariant-loop-index l = (k : ℕ) → k + 1 < l.index → slice_index l.fn.numbers k < slice_index l.fn.numbers (k + 1)
