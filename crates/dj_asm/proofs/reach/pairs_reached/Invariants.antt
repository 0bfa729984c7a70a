use Rattle.std.proofs.Common.{◌≡◌, map, drop}
use Rattle.std.specs.List.{list_all}
use Rattle.dj_asm_source.specs.PairViews.{pair_view}
use Rattle.dj_asm_source.specs.trusted.Labels.{label_number}
use Rattle.dj_asm.specs.Judging.{reaches, target}
use Rattle.dj_asm.proofs.reach.pairs_reached.Given as goal

-- the pairs that are left decide
abbrev pub invariant-loop-pair : goal.invariant-loop-pair
invariant-loop-pair l =
    list_all (reaches (label_number l.labels) l.starts 2147483648 l.at) (map target (map pair_view (drop l.pair-index l.pairs)))
    ≡ list_all (reaches (label_number l.labels) l.starts 2147483648 l.at) (map target (map pair_view l.pairs))
