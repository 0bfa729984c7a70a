use Rattle.std.proofs.lemmas.List.Filters.{dedup_is}
use Rattle.dj_file_rules.proofs.Pairs.{once_pairs}
use Rattle.dj_file_rules.proofs.texts.each_once.Goals as goal

pub returns : goal.returns
returns c = once_pairs _ _ _ c.sort_unstable.ensures.permutation (dedup_is _ _ _ c.dedup.ensures.filtered)
