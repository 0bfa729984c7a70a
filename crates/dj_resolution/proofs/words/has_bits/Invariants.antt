use Rattle.std.proofs.Common.{◌≡◌, ◌<◌, ℕ, get_or, bit_and}
use Rattle.dj_resolution.proofs.words.has_bits.Given as goal

-- those so far are among the others
abbrev pub invariant-loop-at : goal.invariant-loop-at
invariant-loop-at l = (k : ℕ) → k < l.at → bit_and (get_or l.words k 0) (get_or l.others k 0) ≡ get_or l.others k 0
