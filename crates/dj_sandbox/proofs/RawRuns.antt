-- Files of which nothing is violated that is judged of a raw run have one, under some answers of the host.
use Rattle.std.proofs.Common.{ℕ, List, [], Some, refl}
use Rattle.dj_edge.specs.trusted.Held.{File}
use Rattle.dj_names.specs.trusted.Types.{Name}
use Rattle.dj_names.specs.trusted.Library.{raw_library}
use Rattle.dj_edge.specs.declared.host.HostAnswer.{HostAnswer}
use Rattle.dj_class.specs.trusted.ClassFile.{ClassFile}
use Rattle.dj_model.specs.trusted.Program.{Program}
use Rattle.dj_report.specs.declared.report.Report.{Report}
use Rattle.dj_report.specs.declared.report.Report.TheVariants as reports
use Rattle.dj_program.specs.trusted.Programs.{IsProgramIn}
use Rattle.dj_class_set.specs.trusted.Checked.{AreGoodFiles}
use Rattle.dj_class_set.specs.trusted.RawRules.{entry_of, AreRawViolations}
use Rattle.dj_class_set.specs.trusted.Judging.{raw_terms, RunsRaw}
use Rattle.dj_sound.proofs.RawAccepted.{are_raw_accepted}
use Rattle.dj_sandbox.specs.Laws.{HasRawRun}
use Rattle.dj_sandbox.proofs.TakenAnswers.{run_takes}
use Rattle.dj_sandbox.proofs.SomePrograms.{some_program, some_class_files}

runs_so : (files : List File) (class : Name) (input : List ℕ) (steps : ℕ) → AreRawViolations files class [] → (classes : List ClassFile) → AreGoodFiles files classes
    → (program : Program) → IsProgramIn raw_library classes program → (answers : List HostAnswer) × (report : Report) × RunsRaw files class input steps answers (Some report)
runs_so files class input steps silent classes good program is =
    let accepted = are_raw_accepted files class classes good silent in
    let run = run_takes program [] (accepted.sound program is) raw_terms (entry_of class) input steps (accepted.entry program is) in
    (run.0, reports.Raw run.1.outcome run.1.steps, (classes, program, run.1, good, is, run.2, run.3, refl))

pub has_raw_run : HasRawRun
has_raw_run files class input steps silent none =
    some_class_files files class silent (λ (classes, good). some_program raw_library files classes good (λ (program, is).
    let run = runs_so files class input steps silent classes good program is in
    none run.0 run.1 run.2))
