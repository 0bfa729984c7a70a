use Rattle.std.proofs.Common.{◌≡◌, drop}
use Rattle.dj_ops.specs.Lookups.{first_target}
use Rattle.dj_ops.proofs.matches.target_in_turn.Given as goal

-- the pairs that are left decide
abbrev pub invariant-loop-pair : goal.invariant-loop-pair
invariant-loop-pair l = first_target (drop l.pair-index l.pairs) l.wanted ≡ first_target l.pairs l.wanted
