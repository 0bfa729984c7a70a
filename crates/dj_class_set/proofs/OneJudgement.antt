-- Files are judged in one way at most: no stage both decides and hands on, and none decides two reports.
use Rattle.std.proofs.Common.{◌≡◌, ℕ, List, [], ◌∷◌, Some, None, refl, sym, ap, ◌∙◌, subst}
use Rattle.dj_names.specs.declared.run.Outcome.{Outcome}
use Rattle.dj_names.specs.declared.run.Costs.{Costs}
use Rattle.dj_edge.specs.trusted.Held.{File}
use Rattle.dj_names.specs.declared.run.Thresholds.{Thresholds}
use Rattle.dj_report.specs.Stages.{DecidesOne, DecideOne}
use Rattle.dj_report.specs.declared.report.Report.TheVariants as reports
use Rattle.dj_report.specs.declared.report.Violation.{Violation}
use Rattle.dj_report.proofs.InOrder.{same_violations}
use Rattle.dj_file_rules.specs.trusted.Violations.{AreViolations}
use Rattle.dj_straight.specs.trusted.Program.{Program}
use Rattle.dj_straight.specs.trusted.Metered.{RunsTo}
use Rattle.dj_straight.proofs.Turns.{same_end}
use Rattle.dj_straight.specs.trusted.Straight.{IsStraightSet}
use Rattle.dj_straight.proofs.Straights.{one_program}
use Rattle.dj_class_set.specs.trusted.Checked.{AreCheckViolations}
use Rattle.dj_class_set.specs.trusted.Entry.{entry_method, AreRunViolations}
use Rattle.dj_class_set.specs.trusted.Judging.{JudgesSet, JudgesFiles, Accepts, FindsStraight, JudgesRun, Runs, IsFirstPath, check_stages, run_stages}

same_lines : (files : List File) (xs ys : List Violation) → AreViolations files xs → AreViolations files ys → xs ≡ ys
same_lines files xs ys a b =
    same_violations xs ys a.in_order b.in_order (λ v. (λ m. (b.all v).1 ((a.all v).0 m), λ m. (a.all v).1 ((b.all v).0 m)))

same_set_of_lines : (files : List File) (xs ys : List Violation) → AreCheckViolations files xs → AreCheckViolations files ys → xs ≡ ys
same_set_of_lines files xs ys a b =
    same_violations xs ys a.in_order b.in_order (λ v. (λ m. (b.all v).1 ((a.all v).0 m), λ m. (a.all v).1 ((b.all v).0 m)))

same_run_lines : (files : List File) (p : Program) (class : List ℕ) (xs ys : List Violation) → AreRunViolations files p class xs → AreRunViolations files p class ys → xs ≡ ys
same_run_lines files p class xs ys a b =
    same_violations xs ys a.in_order b.in_order (λ v. (λ m. (b.all v).1 ((a.all v).0 m), λ m. (a.all v).1 ((b.all v).0 m)))

-- the lines of the rules of a run, whichever program the set is
same_set_lines : (files : List File) (p q : Program) (class : List ℕ) (xs ys : List Violation) → IsStraightSet files p → IsStraightSet files q
    → AreRunViolations files p class xs → AreRunViolations files q class ys → xs ≡ ys
same_set_lines files p q class xs ys straight other a b =
    same_run_lines files p class xs ys a (subst (λ r. AreRunViolations files r class ys) (one_program files q p other straight) b)

same_first_path : (files : List File) (p q : List ℕ) → IsFirstPath files p → IsFirstPath files q → p ≡ q
same_first_path [] p q a b = absurd a
same_first_path (file ∷ files) p q a b = a ∙ sym b

-- ---- stage by stage

set_one : (files : List File) → DecidesOne (JudgesSet files)
set_one files (Some r) (Some s) (xs, r-is, a, some) (ys, s-is, b, other) = ap Some (r-is ∙ ap reports.Rejected (same_set_of_lines files xs ys a b) ∙ sym s-is)
set_one files (Some r) None (xs, r-is, a, some) none = absurd (some (same_set_of_lines files xs [] a none))
set_one files None (Some s) none (ys, s-is, b, some) = absurd (some (same_set_of_lines files ys [] b none))
set_one files None None a b = refl

files_one : (files : List File) → DecidesOne (JudgesFiles files)
files_one files (Some r) (Some s) (xs, r-is, a, some) (ys, s-is, b, other) = ap Some (r-is ∙ ap reports.Rejected (same_lines files xs ys a b) ∙ sym s-is)
files_one files (Some r) None (xs, r-is, a, some) none = absurd (some (same_lines files xs [] a none))
files_one files None (Some s) none (ys, s-is, b, some) = absurd (some (same_lines files ys [] b none))
files_one files None None a b = refl

accepts_one : (files : List File) → DecidesOne (Accepts files)
accepts_one files (Some r) (Some s) r-is s-is = ap Some (r-is ∙ sym s-is)
accepts_one files (Some r) None r-is none = absurd none
accepts_one files None b none p = absurd none

straight_one : (files : List File) → DecidesOne (FindsStraight files)
straight_one files (Some r) (Some s) (p, r-is, not, a) (q, s-is, not2, b) = ap Some (r-is ∙ ap reports.Later (same_first_path files p q a b) ∙ sym s-is)
straight_one files (Some r) None (p, r-is, not, a) (program, straight) = absurd (not program straight)
straight_one files None (Some s) (program, straight) (q, s-is, not, b) = absurd (not program straight)
straight_one files None None a b = refl

run_lines_one : (files : List File) (class : List ℕ) → DecidesOne (JudgesRun files class)
run_lines_one files class (Some r) (Some s) (p, xs, straight, r-is, a, some) (q, ys, straight2, s-is, b, other) =
    ap Some (r-is ∙ ap reports.Rejected (same_set_lines files p q class xs ys straight straight2 a b) ∙ sym s-is)
run_lines_one files class (Some r) None (p, xs, straight, r-is, a, some) (q, straight2, none) = absurd (some (same_set_lines files p q class xs [] straight straight2 a none))
run_lines_one files class None (Some s) (p, straight, none) (q, ys, straight2, s-is, b, some) = absurd (some (same_set_lines files q p class ys [] straight2 straight b none))
run_lines_one files class None None a b = refl

same_costed : (program : Program) (class input : List ℕ) (most : Thresholds) (o o2 : Outcome) (c c2 : Costs) → RunsTo program (entry_method class) input most o c
    → RunsTo program (entry_method class) input most o2 c2 → reports.Costed o c ≡ reports.Costed o2 c2
same_costed program class input most o o2 c c2 a b =
    let end = same_end program (entry_method class) input most o o2 c c2 a b in
    λ i. reports.Costed (end.0 i) (end.1 i)

runs_one : (files : List File) (class input : List ℕ) (most : Thresholds) → DecidesOne (Runs files class input most)
runs_one files class input most (Some r) (Some s) (p, o, c, straight, r-is, a) (q, o2, c2, straight2, s-is, b) =
    let same : RunsTo p (entry_method class) input most o2 c2 =
    subst (λ t. RunsTo t (entry_method class) input most o2 c2) (one_program files q p straight2 straight) b in
    ap Some (r-is ∙ same_costed p class input most o o2 c c2 a same ∙ sym s-is)
runs_one files class input most (Some r) None a none = absurd none
runs_one files class input most None b none p = absurd none

-- ---- the order of work

pub check_one : (files : List File) → DecideOne (check_stages files)
check_one files = (set_one files, (accepts_one files, tt))

pub run_one : (files : List File) (class input : List ℕ) (most : Thresholds) → DecideOne (run_stages files class input most)
run_one files class input most = (files_one files, (straight_one files, (run_lines_one files class, (runs_one files class input most, tt))))
