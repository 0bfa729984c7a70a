use Rattle.std.proofs.Common.{take, zip}
use Rattle.dj_report.specs.Lines.{Gains}
use Rattle.dj_report.proofs.Adding.{IsAmong}
use Rattle.dj_rewrite.specs.Steps.{IsLargeText}
use Rattle.dj_rewrite.proofs.large.add_texts.Given as goal

-- the texts of the methods so far
abbrev pub invariant-loop-i : goal.invariant-loop-i
invariant-loop-i l = Gains (IsAmong (IsLargeText l.view.pool) (take l.i (zip l.view.methods l.answers))) l.initial.texts.items l.texts.items
