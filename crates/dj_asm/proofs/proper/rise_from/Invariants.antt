use Rattle.std.proofs.Common.{◌≡◌, map, drop}
use Rattle.dj_asm_source.specs.PairViews.{pair_view}
use Rattle.dj_asm.specs.Judging.{rise_from}
use Rattle.dj_asm.proofs.proper.rise_from.Given as goal

-- the pairs that are left decide
abbrev pub invariant-loop-pair : goal.invariant-loop-pair
invariant-loop-pair l = rise_from l.last (map pair_view (drop l.pair-index l.pairs)) ≡ rise_from l.key (map pair_view l.pairs)
