use Rattle.std.proofs.lemmas.List.Filters.{dedup_is}
use Rattle.dj_early_rules.proofs.HeadLaws.{once_indexes}
use Rattle.dj_early_rules.proofs.heads.each_index_once.Goals as goal

pub returns : goal.returns
returns c = once_indexes _ _ _ c.sort_unstable.ensures.permutation (dedup_is _ _ _ c.dedup.ensures.filtered)
