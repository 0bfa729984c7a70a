use Rattle.std.proofs.lemmas.List.Filters.{dedup_is}
use Rattle.dj_early_rules.proofs.Marked.{once_marks}
use Rattle.dj_early_rules.proofs.lines.each_once.Goals as goal

pub returns : goal.returns
returns c = once_marks _ _ _ c.sort_unstable.ensures.permutation (dedup_is _ _ _ c.dedup.ensures.filtered)
