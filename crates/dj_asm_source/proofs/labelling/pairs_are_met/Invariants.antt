use Rattle.std.proofs.Common.{◌≡◌, ℤ, map, drop}
use Rattle.std.specs.List.{list_all}
use Rattle.dj_asm_source.specs.trusted.Lines.{Label}
use Rattle.dj_asm_source.specs.PairViews.{pair_view}
use Rattle.dj_asm_source.specs.trusted.Labels.{AtInstruction}
use Rattle.dj_asm_source.specs.LabelReading.{is_met}
use Rattle.dj_asm_source.proofs.labelling.pairs_are_met.Given as goal

-- the pairs that are left decide
abbrev pub invariant-loop-pair : goal.invariant-loop-pair
invariant-loop-pair l =
    list_all (is_met l.table l.count) (map (λ (pair : ℤ × Label). AtInstruction pair.1) (map pair_view (drop l.pair-index l.pairs)))
    ≡ list_all (is_met l.table l.count) (map (λ (pair : ℤ × Label). AtInstruction pair.1) (map pair_view l.pairs))
