use Rattle.std.proofs.Common.{◌≡◌, ℕ, List, [], ◌∷◌, map, ap, ◌∙◌, sym, Some, None, refl}
use Rattle.std.specs.Prelude.{slice_get}
use Rattle.std.specs.Option.{option_copied}
use Rattle.dj_report.specs.declared.report.PathFile.{PathFile}
use Rattle.dj_report.specs.declared.report.Report.TheVariants.{Later}
use Rattle.dj_straight.specs.trusted.Straight.{IsNotStraight}
use Rattle.dj_class_set.specs.trusted.Judging.{IsFirstPath}
use Rattle.dj_file_rules.specs.Views.{path_file_view}
use Rattle.dj_edge.proofs.Lists.{ok_so}
use Rattle.dj_class_set.proofs.running.later_first.Goals as goal

not_straight_some : (files : List PathFile) → IsNotStraight (map path_file_view files) → slice_get files 0 ≡ None → ⊥
not_straight_some [] not none = not [] refl
not_straight_some (file ∷ files) not none = absurd cc

first_path : (files : List PathFile) (file : PathFile) → slice_get files 0 ≡ Some file → IsFirstPath (map path_file_view files) file.path.now
first_path [] file is = absurd cc
first_path (first ∷ files) file is = let same : first ≡ file = cc in ap (λ (f : PathFile). f.path.now) (sym same)

pub unreachable-requires : goal.unreachable-requires
unreachable-requires c =
    not_straight_some c.args.files.now c.requires.not_straight (sym c.first.ensures.value ∙ ap option_copied c.in-None.is)

pub returns : goal.returns
returns c =
    ok_so c.later.result (λ report. report ≡ Later c.in-Some.file.now.path.now)
    (λ report. (path : List ℕ) × (report ≡ Later path) × IsFirstPath (map path_file_view c.args.files.now) path)
    (λ report is. (
      c.in-Some.file.now.path.now,
      is,
      first_path c.args.files.now c.in-Some.file.now (sym c.first.ensures.value ∙ ap option_copied c.in-Some.is),
    ))
    c.later.ensures
