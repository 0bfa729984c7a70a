-- Under the same answers of the host the report on a raw run is on the same runs.
use Rattle.std.proofs.Common.{◌≡◌, ℕ, List, [], ◌∷◌, Some, refl, sym, ap, ◌∙◌, subst}
use Rattle.std.proofs.lemmas.Option.{same_Some}
use Rattle.dj_edge.specs.trusted.Held.{File}
use Rattle.dj_edge.specs.declared.host.HostAnswer.{HostAnswer}
use Rattle.dj_names.specs.declared.run.Costs.{Costs}
use Rattle.dj_names.specs.trusted.Types.{Name}
use Rattle.dj_names.specs.trusted.Library.{raw_library}
use Rattle.dj_class.specs.trusted.ClassFile.{ClassFile}
use Rattle.dj_model.specs.trusted.Program.{Program}
use Rattle.dj_model.specs.trusted.Runs.{plain_run}
use Rattle.dj_model.specs.trusted.Runs as model_runs
use Rattle.dj_program.specs.Laws.{AreWhole}
use Rattle.dj_program.specs.trusted.Programs.{IsProgramIn}
use Rattle.dj_program.proofs.Once.{one_is}
use Rattle.dj_class_set.specs.trusted.Checked.{AreGoodFiles}
use Rattle.dj_class_set.specs.trusted.RawRules.{entry_of}
use Rattle.dj_class_set.specs.trusted.Judging.{raw_terms}
use Rattle.dj_class_set.proofs.GoodFiles.{same_good}
use Rattle.dj_sandbox.specs.trusted.Runs.{IsRawRun, AreRawRuns}

wholes : (files : List File) (classes : List ClassFile) → AreGoodFiles files classes → AreWhole classes
wholes [] [] good = tt
wholes [] (c ∷ classes) good = absurd good
wholes (file ∷ files) [] good = absurd good
wholes (file ∷ files) (c ∷ classes) good = (good.0.whole, wholes files classes good.1)

same_program : (files : List File) (xs ys : List ClassFile) (p q : Program) → AreGoodFiles files xs → AreGoodFiles files ys → IsProgramIn raw_library xs p → IsProgramIn raw_library ys q → p ≡ q
same_program files xs ys p q a b x y =
    one_is raw_library xs p q (wholes files xs a) x (subst (λ (cs : List ClassFile). IsProgramIn raw_library cs q) (same_good files ys xs b a) y)

same_run : (files : List File) (class : Name) (input : List ℕ) (steps : ℕ) (answers : List HostAnswer) (a b : Costs × ℕ)
    → IsRawRun files class input steps answers a → IsRawRun files class input steps answers b → a ≡ b
same_run files class input steps answers a b (xs, p, x, good, is, ran, took, a-is) (ys, q, y, good2, is2, ran2, took2, b-is) =
    let same : p ≡ q = same_program files xs ys p q good good2 is is2 in
    let other : plain_run p [] raw_terms (entry_of class) input answers steps ≡ Some y =
    subst (λ (t : Program). plain_run t [] raw_terms (entry_of class) input answers steps ≡ Some y) (sym same) ran2 in
    let one : x ≡ y = same_Some x y (sym ran ∙ other) in
    a-is ∙ ap (λ (t : model_runs.Report). (t.costs, t.steps)) one ∙ sym b-is

pub same_raw_runs : (files : List File) (class : Name) (input : List ℕ) (steps : ℕ) (answers : List HostAnswer) (first second : List (Costs × ℕ))
    → AreRawRuns files class input steps answers first → AreRawRuns files class input steps answers second → first ≡ second
same_raw_runs files class input steps answers [] [] a b = refl
same_raw_runs files class input steps answers [] (run ∷ []) a b = absurd (a b.0)
same_raw_runs files class input steps answers [] (run ∷ other ∷ more) a b = absurd b
same_raw_runs files class input steps answers (run ∷ []) [] a b = absurd (b a.0)
same_raw_runs files class input steps answers (run ∷ []) (run2 ∷ []) a b = ap (λ (r : Costs × ℕ). r ∷ []) (same_run files class input steps answers run run2 a.1 b.1)
same_raw_runs files class input steps answers (run ∷ []) (run2 ∷ other ∷ more) a b = absurd b
same_raw_runs files class input steps answers (run ∷ other ∷ more) second a b = absurd a
