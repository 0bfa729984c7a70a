use Rattle.std.proofs.Common.{Bool, List, map, length, subst}
use Rattle.std.proofs.lemmas.List.{length-map}
use Rattle.dj_report.specs.Lines.{Adds}
use Rattle.dj_report.proofs.Adding.{on_ok}
use Rattle.dj_hierarchy_rule.specs.Views.{head_view}
use Rattle.dj_early_rules.specs.Kept.{IsMarkedLine}
use Rattle.dj_early_rules.proofs.HierarchyLaws.{owners_lines}
use Rattle.dj_early_rules.proofs.hierarchy.add_hierarchy_lines.Goals as goal

pub returns : goal.returns
returns c =
    let heads = map head_view c.args.heads.now in
    let owners = c.args.owners.now in
    on_ok c.add_marked_lines.result
    (λ added. owners_lines heads owners c.in_ok-marks.marks.items c.args.found.now.items c.add_marked_lines.new.found.items (simp length-map c.requires) c.in_ok-marks.ensures
    (subst (λ (marks : List Bool). Adds (IsMarkedLine (length owners) owners marks) c.args.found.now.items c.add_marked_lines.new.found.items) c.deref.ensures.value added))
    c.add_marked_lines.ensures
