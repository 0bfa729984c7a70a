use Rattle.std.proofs.Common.{take, All}
use Rattle.dj_report.specs.Lines.{Adds, IsLineAmong}
use Rattle.dj_class_set.specs.Shaped.{IsReported}
use Rattle.dj_class_set.proofs.RunRules.{IsOwnShapeLine}
use Rattle.dj_class_set.proofs.run_rules.add_shape_lines.Given as goal

-- the lines of the methods so far, of which each is judged
abbrev pub invariant-loop-method : goal.invariant-loop-method
invariant-loop-method l = record {
  lines : Adds (IsLineAmong (IsOwnShapeLine l.path) (take l.method-index l.methods)) l.initial.found.items l.found.items;
  judged : All IsReported (take l.method-index l.methods);
}
