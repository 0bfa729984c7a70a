use Rattle.dj_early_rules.specs.Judged.{AreOwnTexts}
use Rattle.dj_early_rules.proofs.judged.judge_own_texts.Given as goal

-- the texts so far
abbrev pub invariant-loop-index : goal.invariant-loop-index
invariant-loop-index l = AreOwnTexts l.pool l.index l.texts.items
