use Rattle.std.proofs.Common.{◌≡◌, [], map, inl, subst}
use Rattle.dj_names.specs.trusted.Library.{Library, deterministic_library}
use Rattle.dj_library_types.specs.Views.{library_view}
use Rattle.dj_report.specs.Lines.{Adds}
use Rattle.dj_report.proofs.Adding.{exactly_found}
use Rattle.dj_file_rules.specs.Views.{path_file_view}
use Rattle.dj_class_set.specs.trusted.Checked.{IsLineBy}
use Rattle.dj_class_set.proofs.LateLaws.{ok_mapped}
use Rattle.dj_class_set.proofs.checking.check_violations.Goals as goal

pub judge_set-requires-clause-library : goal.judge_set-requires-clause-library
judge_set-requires-clause-library c =
    inl (ok_mapped c.deterministic.result _ (λ library. library_view library ≡ deterministic_library) _ c.in_ok-library.ensures.cases c.in_ok-library.ensures.variant c.deterministic.ensures)

pub returns : goal.returns
returns c =
    let files = map path_file_view c.args.files.now in
    let reported : library_view c.in_ok-library.library ≡ deterministic_library =
    ok_mapped c.deterministic.result _ (λ library. library_view library ≡ deterministic_library) _ c.in_ok-library.ensures.cases c.in_ok-library.ensures.variant c.deterministic.ensures in
    exactly_found (IsLineBy deterministic_library files) c.in_ok-judged.judged.found.items c.in_order.result
    (subst (λ (l : Library). Adds (IsLineBy l files) [] c.in_ok-judged.judged.found.items) reported c.in_ok-judged.ensures.lines) c.in_order.ensures.ordered c.in_order.ensures.members
