use Rattle.std.proofs.Common.{take}
use Rattle.dj_early_rules.specs.Gathered.{AreClassTexts}
use Rattle.dj_early_rules.proofs.heads.class_texts.Given as goal

-- those of the indexes so far
abbrev pub invariant-loop-index : goal.invariant-loop-index
invariant-loop-index l = AreClassTexts l.pool l.texts (take l.index-index l.indexes) l.firsts.items
