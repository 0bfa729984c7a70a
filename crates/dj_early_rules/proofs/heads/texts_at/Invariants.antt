use Rattle.std.proofs.Common.{take}
use Rattle.dj_early_rules.specs.Gathered.{texts_of, AreTextsAt}
use Rattle.dj_early_rules.proofs.heads.texts_at.Given as goal

-- those of the indexes so far
abbrev pub invariant-loop-index : goal.invariant-loop-index
invariant-loop-index l = AreTextsAt l.pool (take l.index-index l.indexes) (texts_of l.names.items)
