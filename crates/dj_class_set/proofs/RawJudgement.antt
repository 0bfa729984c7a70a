-- A raw run has one report at most under the same answers of the host; and what is judged of it always has an answer.
use Rattle.std.proofs.Common.{◌≡◌, ℕ, List, [], ◌∷◌, Option, Some, None, refl, sym, ap, ◌∙◌, subst}
use Rattle.std.proofs.lemmas.Option.{same_Some}
use Rattle.dj_edge.specs.trusted.Held.{File}
use Rattle.dj_edge.specs.declared.host.HostAnswer.{HostAnswer}
use Rattle.dj_names.specs.trusted.Types.{Name}
use Rattle.dj_names.specs.trusted.Library.{raw_library}
use Rattle.dj_class.specs.trusted.ClassFile.{ClassFile}
use Rattle.dj_report.specs.Stages.{DecidesOne, DecideOne, Answers}
use Rattle.dj_report.specs.declared.report.Report.{Report}
use Rattle.dj_report.specs.declared.report.Report.TheVariants as reports
use Rattle.dj_report.specs.declared.report.Violation.{Violation}
use Rattle.dj_report.proofs.InOrder.{same_violations}
use Rattle.dj_model.specs.trusted.Program.{Program}
use Rattle.dj_model.specs.trusted.Runs.{plain_run}
use Rattle.dj_model.specs.trusted.Runs as model_runs
use Rattle.dj_program.specs.Laws.{AreWhole}
use Rattle.dj_program.specs.trusted.Programs.{IsProgramIn}
use Rattle.dj_program.proofs.Once.{one_is}
use Rattle.dj_class_set.specs.trusted.Checked.{AreGoodFiles}
use Rattle.dj_class_set.specs.trusted.RawRules.{entry_of, AreRawViolations}
use Rattle.dj_class_set.specs.trusted.Judging.{JudgesRaw, RunsRaw, raw_terms, raw_stages}
use Rattle.dj_class_set.proofs.Classical.{so}
use Rattle.dj_class_set.proofs.GoodFiles.{same_good}
use Rattle.dj_class_set.proofs.SomeLateLines.{some_raw_violations}
use Rattle.dj_class_set.proofs.SomeJudgement.{answers, not_nil}

-- ---- the rules

same_raw_lines : (files : List File) (class : Name) (xs ys : List Violation) → AreRawViolations files class xs → AreRawViolations files class ys → xs ≡ ys
same_raw_lines files class xs ys a b =
    same_violations xs ys a.in_order b.in_order (λ v. (λ m. (b.all v).1 ((a.all v).0 m), λ m. (a.all v).1 ((b.all v).0 m)))

rules_one : (files : List File) (class : Name) → DecidesOne (JudgesRaw files class)
rules_one files class (Some r) (Some s) (xs, r-is, a, some) (ys, s-is, b, other) = ap Some (r-is ∙ ap reports.Rejected (same_raw_lines files class xs ys a b) ∙ sym s-is)
rules_one files class (Some r) None (xs, r-is, a, some) none = absurd (some (same_raw_lines files class xs [] a none))
rules_one files class None (Some s) none (ys, s-is, b, some) = absurd (some (same_raw_lines files class ys [] b none))
rules_one files class None None a b = refl

judged : (files : List File) (class : Name) (violations : List Violation) → AreRawViolations files class violations → (a : Option Report) × JudgesRaw files class a
judged files class [] are = (None, are)
judged files class (v ∷ violations) are = (Some (reports.Rejected (v ∷ violations)), (v ∷ violations, refl, are, not_nil v violations))

pub raw_rules_answer : (files : List File) (class : Name) → Answers (JudgesRaw files class)
raw_rules_answer files class = answers (JudgesRaw files class) (so (some_raw_violations files class) (λ (violations, are). judged files class violations are))

-- ---- the run

wholes : (files : List File) (classes : List ClassFile) → AreGoodFiles files classes → AreWhole classes
wholes [] [] good = tt
wholes [] (c ∷ classes) good = absurd good
wholes (file ∷ files) [] good = absurd good
wholes (file ∷ files) (c ∷ classes) good = (good.0.whole, wholes files classes good.1)

same_program : (files : List File) (xs ys : List ClassFile) (p q : Program) → AreGoodFiles files xs → AreGoodFiles files ys → IsProgramIn raw_library xs p → IsProgramIn raw_library ys q → p ≡ q
same_program files xs ys p q a b x y =
    one_is raw_library xs p q (wholes files xs a) x (subst (λ (cs : List ClassFile). IsProgramIn raw_library cs q) (same_good files ys xs b a) y)

run_one : (files : List File) (class : Name) (input : List ℕ) (steps : ℕ) (gave : List HostAnswer) → DecidesOne (RunsRaw files class input steps gave)
run_one files class input steps gave (Some r) (Some s) (xs, p, x, a, is, ran, took, r-is) (ys, q, y, b, is2, ran2, took2, s-is) =
    let same : p ≡ q = same_program files xs ys p q a b is is2 in
    let other : plain_run p [] raw_terms (entry_of class) input gave steps ≡ Some y =
    subst (λ (t : Program). plain_run t [] raw_terms (entry_of class) input gave steps ≡ Some y) (sym same) ran2 in
    let one : x ≡ y = same_Some x y (sym ran ∙ other) in
    ap Some (r-is ∙ ap (λ (t : model_runs.Report). reports.Raw t.outcome t.steps) one ∙ sym s-is)
run_one files class input steps gave (Some r) None a none = absurd none
run_one files class input steps gave None b none p = absurd none

pub raw_one : (files : List File) (class : Name) (input : List ℕ) (steps : ℕ) (gave : List HostAnswer) → DecideOne (raw_stages files class input steps gave)
raw_one files class input steps gave = (rules_one files class, (run_one files class input steps gave, tt))
