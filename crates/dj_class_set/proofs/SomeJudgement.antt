-- Files are not without a report: each stage of judging them has an answer where those before it handed on.
use Rattle.std.proofs.Common.{◌≢◌, ℕ, List, [], ◌∷◌, length, Option, Some, None, refl, inl, inr}
use Rattle.dj_edge.specs.trusted.Held.{File}
use Rattle.dj_names.specs.declared.run.Thresholds.{Thresholds}
use Rattle.dj_report.specs.trusted.Stages.{Stage}
use Rattle.dj_report.specs.Stages.{Answers, AnswerInTurn}
use Rattle.dj_report.specs.declared.report.Report.{Report}
use Rattle.dj_report.specs.declared.report.Report.TheVariants as reports
use Rattle.dj_report.specs.declared.report.Violation.{Violation}
use Rattle.dj_file_rules.specs.trusted.Violations.{AreViolations}
use Rattle.dj_straight.specs.trusted.Program.{Program}
use Rattle.dj_straight.specs.trusted.Straight.{IsStraightSet, IsNotStraight}
use Rattle.dj_class_set.specs.trusted.Checked.{AreCheckViolations}
use Rattle.dj_class_set.specs.trusted.Entry.{AreRunViolations}
use Rattle.dj_class_set.specs.trusted.Judging.{JudgesSet, JudgesFiles, Accepts, FindsStraight, JudgesRun, Runs, check_stages, run_stages}
use Rattle.dj_class_set.proofs.Classical.{NotNot, so, decide}
use Rattle.dj_class_set.proofs.SomeLines.{some_violations}
use Rattle.dj_class_set.proofs.SomeLateLines.{some_check_violations}
use Rattle.dj_class_set.proofs.SomeRun.{some_run_violations, some_end}

-- an answer, where there is one
pub answers : (stage : Stage Report) → NotNot ((a : Option Report) × stage a) → Answers stage
answers stage some none = some (λ (a, p). none a p)

pub not_nil : (v : Violation) (violations : List Violation) → v ∷ violations ≢ []
not_nil v violations e = absurd cc

-- ---- stage by stage

judged_files : (files : List File) (violations : List Violation) → AreViolations files violations → (a : Option Report) × JudgesFiles files a
judged_files files [] are = (None, are)
judged_files files (v ∷ violations) are = (Some (reports.Rejected (v ∷ violations)), (v ∷ violations, refl, are, not_nil v violations))

judged_set : (files : List File) (violations : List Violation) → AreCheckViolations files violations → (a : Option Report) × JudgesSet files a
judged_set files [] are = (None, are)
judged_set files (v ∷ violations) are = (Some (reports.Rejected (v ∷ violations)), (v ∷ violations, refl, are, not_nil v violations))

set_answers : (files : List File) → Answers (JudgesSet files)
set_answers files = answers (JudgesSet files) (so (some_check_violations files) (λ (violations, are). judged_set files violations are))

files_answer : (files : List File) → Answers (JudgesFiles files)
files_answer files = answers (JudgesFiles files) (so (some_violations files) (λ (violations, are). judged_files files violations are))

accepts_answers : (files : List File) → Answers (Accepts files)
accepts_answers files none = none (Some (reports.Accepted (length files))) refl

-- a set that isn't straight has a first file
not_straight : (files : List File) → IsNotStraight files → (a : Option Report) × FindsStraight files a
not_straight [] not = absurd (not [] refl)
not_straight (file ∷ files) not = (Some (reports.Later file.0), (file.0, refl, not, refl))

straight_answers : (files : List File) → Answers (FindsStraight files)
straight_answers files = answers (FindsStraight files) (so (decide ((program : Program) × IsStraightSet files program)) (elim [
  | inl straight ↦ (None, straight)
  | inr not ↦ not_straight files (λ program straight. not (program, straight))
]))

judged_run : (files : List File) (class : List ℕ) (program : Program) → IsStraightSet files program → (violations : List Violation)
    → AreRunViolations files program class violations → (a : Option Report) × JudgesRun files class a
judged_run files class program straight [] are = (None, (program, straight, are))
judged_run files class program straight (v ∷ violations) are =
    (Some (reports.Rejected (v ∷ violations)), (program, v ∷ violations, straight, refl, are, not_nil v violations))

run_lines_answer : (files : List File) (class : List ℕ) → FindsStraight files None → Answers (JudgesRun files class)
run_lines_answer files class (program, straight) =
    answers (JudgesRun files class) (so (some_run_violations files program class) (λ (violations, are). judged_run files class program straight violations are))

runs_answer : (files : List File) (class input : List ℕ) (most : Thresholds) → JudgesRun files class None → Answers (Runs files class input most)
runs_answer files class input most (program, straight, none) =
    answers (Runs files class input most) (so (some_end files program class input most straight none)
    (λ (outcome, costs, runs). (Some (reports.Costed outcome costs), (program, outcome, costs, straight, refl, runs))))

-- ---- the order of work

pub check_answers : (files : List File) → AnswerInTurn (check_stages files)
check_answers files = (set_answers files, λ none. (accepts_answers files, λ on. on))

pub run_answers : (files : List File) (class input : List ℕ) (most : Thresholds) → AnswerInTurn (run_stages files class input most)
run_answers files class input most = (
  files_answer files,
  λ none. (
    straight_answers files,
    λ straight. (run_lines_answer files class straight, λ lines. (runs_answer files class input most lines, λ on. on)),
  ),
)
