use Rattle.std.proofs.Common.{List, subst}
use Rattle.dj_report.specs.declared.report.Violation.{Violation}
use Rattle.dj_report.specs.Lines.{Adds}
use Rattle.dj_report.proofs.Adding.{adds_part}
use Rattle.dj_file_rules.proofs.FileLines.{IsOwnFileLine}
use Rattle.dj_file_rules.proofs.files.add_sorted_lines.Goals as goal

pub returns : goal.returns
returns c =
    adds_part (IsOwnFileLine c.args.file.now) c.args.found.now.items c.add_file_lines.new.found.items c.add_in_order.new.found.items
    (subst (λ (xs : List Violation). Adds (IsOwnFileLine c.args.file.now) xs c.add_file_lines.new.found.items) c.new-lines.ensures.items c.in_ok-add_file_lines.ensures)
    c.in_ok-add_in_order.ensures
