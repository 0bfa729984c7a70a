use Rattle.std.proofs.Common.{◌≡◌, Option, Bor, [], map, refl, sym, subst}
use Rattle.dj_edge.proofs.Lists.{ok_so}
use Rattle.dj_report.specs.Lines.{Adds}
use Rattle.dj_file_rules.specs.Views.{path_file_view}
use Rattle.dj_resolution.specs.Linked.{Linked}
use Rattle.dj_rules.specs.Judged.{HasLinker}
use Rattle.dj_rules.specs.trusted.Lines.{IsLinkedLine}
use Rattle.dj_rules.proofs.files.judge_files.Goals as goal

pub judge_linked-requires-clause-plain : goal.judge_linked-requires-clause-plain
judge_linked-requires-clause-plain c = c.requires.plain c.in-Some.linker.now (subst (λ (linker : Option (Bor Linked)). HasLinker linker c.in-Some.linker.now) (sym c.in-Some.is) refl)

pub returns-clause-late : goal.returns-clause-late
returns-clause-late c =
    ok_so c.judge_linked.result _ _
    (λ judged reported linked has.
    let same : c.in-Some.linker.now ≡ linked = subst (λ (linker : Option (Bor Linked)). HasLinker linker linked) c.in-Some.is has in
    subst (λ (l : Linked). Adds (IsLinkedLine l.program (map path_file_view c.args.files.now)) [] judged.late.items) same reported)
    c.judge_linked.ensures.late
