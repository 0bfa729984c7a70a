use Rattle.std.proofs.Common.{◌≡◌, ℤ, pos, map, take}
use Rattle.dj_asm_source.specs.trusted.Lines.{Label}
use Rattle.dj_asm_source.specs.trusted.Labels.{label_number}
use Rattle.dj_asm_source.specs.PairViews.{pair_view}
use Rattle.dj_asm.proofs.instrs.pairs_of.Given as goal

abbrev pub invariant-loop-pair : goal.invariant-loop-pair
invariant-loop-pair l = l.pairs.items ≡ map (λ (pair : ℤ × Label). (pair.0, pos (label_number l.labels pair.1))) (map pair_view (take l.pair-index l.list))
