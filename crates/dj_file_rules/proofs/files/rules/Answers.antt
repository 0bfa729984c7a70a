use Rattle.std.proofs.Common.{[], List, take, sym, subst}
use Rattle.dj_report.specs.declared.report.Violation.{Violation}
use Rattle.dj_report.specs.Lines.{Adds, IsLineAmong}
use Rattle.dj_report.proofs.Adding.{adds_none_yet, adds_one_more}
use Rattle.dj_file_rules.proofs.FileLines.{IsOwnFileLine, all_lines}
use Rattle.dj_file_rules.proofs.files.rules.Goals as goal

pub loop-file-init : goal.loop-file-init
loop-file-init c =
    subst (λ (xs : List Violation). Adds (IsLineAmong IsOwnFileLine (take 0 c.args.files.now)) [] xs) (sym c.new-found.ensures.items) (adds_none_yet IsOwnFileLine c.args.files.now [])

pub loop-file-preserved : goal.loop-file-preserved
loop-file-preserved c =
    adds_one_more IsOwnFileLine c.args.files.now c.loop-file.file-index _ [] c.loop-file.found.items c.add_sorted_lines.new.found.items
    c.loop-file-test.true c.loop-file.invariant c.in_ok-add_sorted_lines.ensures

pub returns : goal.returns
returns c =
    all_lines c.args.files.now c.loop-file.file-index c.loop-file.found.items c.in_order.result c.loop-file-test.false c.loop-file.invariant
    c.in_order.ensures.ordered c.in_order.ensures.members
