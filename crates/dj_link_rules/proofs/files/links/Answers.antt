use Rattle.std.proofs.Common.{List, map, subst}
use Rattle.dj_report.specs.declared.report.Violation.{Violation}
use Rattle.dj_report.specs.Lines.{Adds}
use Rattle.dj_report.proofs.Adding.{exactly_found}
use Rattle.dj_file_rules.specs.Views.{path_file_view}
use Rattle.dj_link_rules.specs.trusted.Lines.{IsLinkLine}
use Rattle.dj_link_rules.proofs.files.links.Goals as goal

pub returns : goal.returns
returns c =
    let IsLine = IsLinkLine c.args.linker.now.program (map path_file_view c.args.files.now) in
    let found = c.add_link_lines.new.found.items in
    exactly_found IsLine found c.in_order.result
    (subst (λ (old : List Violation). Adds IsLine old found) c.new-found.ensures.items c.in_ok-add_link_lines.ensures)
    c.in_order.ensures.ordered c.in_order.ensures.members
