use Rattle.std.proofs.Common.{◌≡◌, ◌<◌, ℕ, false, true, get_or}
use Rattle.dj_resolution.proofs.above.interfaces_above.Given as goal

-- those so far are marked
abbrev pub invariant-loop-mark : goal.invariant-loop-mark
invariant-loop-mark l = (k : ℕ) → k < l.mark-index → get_or l.mark-items k false ≡ true
