use Rattle.std.proofs.Common.{◌∙◌, map, sym, ap, subst, refl}
use Rattle.dj_report.proofs.Adding.{not_both}
use Rattle.dj_file_rules.specs.Views.{path_file_view}
use Rattle.dj_resolution.specs.Linked.{Linked}
use Rattle.dj_class_set.specs.Late.{HasHierarchyLine}
use Rattle.dj_class_set.proofs.LateLaws.{line_breaks, hierarchy_holds, early_alone, early_and_late}
use Rattle.dj_class_set.proofs.judging.judge_linked.Goals as goal

pub judge_files-requires-clause-plain : goal.judge_files-requires-clause-plain
judge_files-requires-clause-plain c = λ linked has. (let (library, (classes, read, is)) = c.requires.links in ap (λ (l : Linked). l.prefix) (sym has ∙ is))

pub returns-then-breaks_hierarchy : goal.returns-then-breaks_hierarchy
returns-then-breaks_hierarchy c = λ library links.
    let files = map path_file_view c.args.files.now in
    let early = c.in_ok-early.field-0.early.items in
    let broken = line_breaks files early c.in_ok-early.ensures.early (subst HasHierarchyLine c.deref.ensures.value (c.breaks_hierarchy.ensures.0 c.if-breaks_hierarchy.true)) in
    record { lines = early_alone library files early c.in_ok-early.ensures.early broken; linked = broken }

pub returns : goal.returns
returns c = λ library links.
    let files = map path_file_view c.args.files.now in
    let early = c.in_ok-early.field-0.early.items in
    let none : HasHierarchyLine early → ⊥ = λ has.
    not_both c.breaks_hierarchy.result (c.breaks_hierarchy.ensures.1 (subst HasHierarchyLine (sym c.deref.ensures.value) has)) c.if-breaks_hierarchy.false in
    record {
      lines =
          early_and_late library files c.args.linker early c.in_ok-early.field-0.late.items c.add_in_order.new.found.items c.in_ok-early.ensures.early none links
          (c.in_ok-early.ensures.late c.args.linker refl) c.in_ok-add_in_order.ensures;
      linked = (hierarchy_holds files early c.in_ok-early.ensures.early none, links);
    }
