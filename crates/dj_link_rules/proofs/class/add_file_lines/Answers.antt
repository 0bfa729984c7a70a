use Rattle.std.proofs.Common.{List, subst}
use Rattle.dj_report.specs.declared.report.Violation.{Violation}
use Rattle.dj_report.specs.Lines.{Adds}
use Rattle.dj_report.proofs.Adding.{adds_part}
use Rattle.dj_link_rules.proofs.FileLaws.{IsOwnLinkLine}
use Rattle.dj_link_rules.proofs.class.add_file_lines.Goals as goal

pub returns : goal.returns
returns c =
    let IsOwn = IsOwnLinkLine c.args.linker.now.program c.args.file.now in
    adds_part IsOwn c.args.found.now.items c.add_view_lines.new.found.items c.add_in_order.new.found.items
    (subst (λ (old : List Violation). Adds IsOwn old c.add_view_lines.new.found.items) c.new-lines.ensures.items c.in_ok-add_view_lines.ensures)
    c.in_ok-add_in_order.ensures
