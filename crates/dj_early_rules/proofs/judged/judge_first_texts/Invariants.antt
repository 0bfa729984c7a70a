use Rattle.dj_early_rules.specs.Judged.{AreFirstTexts}
use Rattle.dj_early_rules.proofs.judged.judge_first_texts.Given as goal

-- the texts so far
abbrev pub invariant-loop-index : goal.invariant-loop-index
invariant-loop-index l = AreFirstTexts l.indexes l.marks l.index l.view.pool l.texts.items
