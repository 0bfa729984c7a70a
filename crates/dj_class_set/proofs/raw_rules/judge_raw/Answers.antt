use Rattle.std.proofs.Common.{◌≡◌, map, inr, subst}
use Rattle.dj_names.specs.trusted.Library.{Library, raw_library}
use Rattle.dj_library_types.specs.Views.{library_view}
use Rattle.dj_file_rules.specs.Views.{path_file_view}
use Rattle.dj_class_set.specs.Late.{IsJudgedSet}
use Rattle.dj_class_set.proofs.LateLaws.{ok_mapped}
use Rattle.dj_class_set.proofs.raw_rules.judge_raw.Goals as goal

pub judge_set-requires-clause-library : goal.judge_set-requires-clause-library
judge_set-requires-clause-library c =
    inr (ok_mapped c.raw.result _ (λ library. library_view library ≡ raw_library) _ c.in_ok-library.ensures.cases c.in_ok-library.ensures.variant c.raw.ensures)

pub returns : goal.returns
returns c =
    let files = map path_file_view c.args.files.now in
    let reported : library_view c.in_ok-library.library ≡ raw_library =
    ok_mapped c.raw.result _ (λ library. library_view library ≡ raw_library) _ c.in_ok-library.ensures.cases c.in_ok-library.ensures.variant c.raw.ensures in
    c.judgement_of.ensures files (subst (λ (l : Library). IsJudgedSet l files c.in_ok-judged.judged) reported c.in_ok-judged.ensures)
