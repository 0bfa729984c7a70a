use Rattle.std.proofs.Common.{List, subst}
use Rattle.dj_report.specs.declared.report.Violation.{Violation}
use Rattle.dj_report.specs.Lines.{Adds}
use Rattle.dj_file_rules.proofs.FileLines.{IsOwnFileLine, one_file_lines}
use Rattle.dj_file_rules.proofs.judge.judge_one.Goals as goal

pub returns : goal.returns
returns c = record {
  violations = one_file_lines c.args.file.now c.add_file_lines.new.found.items c.in_order.result
      (subst (λ (xs : List Violation). Adds (IsOwnFileLine c.args.file.now) xs c.add_file_lines.new.found.items) c.new-found.ensures.items c.in_ok-add_file_lines.ensures)
      c.in_order.ensures.ordered c.in_order.ensures.members;
  only = c.in_ok-view.ensures;
}
