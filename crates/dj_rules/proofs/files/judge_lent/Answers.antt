use Rattle.std.proofs.Common.{List, map, subst}
use Rattle.dj_report.specs.declared.report.Violation.{Violation}
use Rattle.dj_report.specs.Lines.{Adds, IsLineAmong}
use Rattle.dj_file_rules.specs.Views.{path_file_view}
use Rattle.dj_hierarchy_rule.specs.declared.head.ClassHead.{ClassHead}
use Rattle.dj_hierarchy_rule.specs.Views.{head_view}
use Rattle.dj_early_rules.specs.declared.doubles.NamedFile.{NamedFile}
use Rattle.dj_early_rules.specs.declared.hierarchy.Owner.{Owner}
use Rattle.dj_early_rules.specs.Doubles.{IsRepeatedLine}
use Rattle.dj_early_rules.specs.Kept.{IsOwnersLine}
use Rattle.dj_rules.specs.trusted.Lines.{IsLinkedLine}
use Rattle.dj_rules.proofs.FileLaws.{all_early_lines}
use Rattle.dj_rules.proofs.files.judge_lent.Goals as goal

pub returns-clause-early : goal.returns-clause-early
returns-clause-early c =
    let kept = c.in_ok-kept.kept in
    let lone = c.judge_all.new.found.early.items in
    let doubles = c.add_duplicate_lines.new.found.items in
    let found = c.add_hierarchy_lines.new.found.items in
    all_early_lines c.args.files.now kept c.new.result.items lone doubles found c.new.ensures.items c.in_ok-kept.ensures.early c.in_ok-kept.ensures.kept
    (subst (λ (named : List NamedFile). Adds (IsLineAmong (IsRepeatedLine named) named) lone doubles) c.deref.ensures.value c.in_ok-add_duplicate_lines.ensures)
    (subst (λ (heads : List ClassHead). Adds (IsOwnersLine (map head_view heads) kept.owners.items) doubles found) c.deref-2.ensures.value
    (subst (λ (owners : List Owner). Adds (IsOwnersLine (map head_view c.deref-2.result.now) owners) doubles found) c.deref-3.ensures.value c.in_ok-add_hierarchy_lines.ensures))

pub returns-clause-late : goal.returns-clause-late
returns-clause-late c program has =
    subst (λ (xs : List Violation). Adds (IsLinkedLine program (map path_file_view c.args.files.now)) xs c.judge_all.new.found.late.items) c.new-2.ensures.items (c.in_ok-kept.ensures.late program has)
