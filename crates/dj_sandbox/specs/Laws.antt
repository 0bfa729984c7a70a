-- What follows for files that violate no rule of a raw run, and for runs whose charges nobody counts.
use Rattle.std.specs.Prelude.{◌≡◌, ℕ, false, List, [], Option, Some, IfSome}
use Rattle.dj_edge.specs.trusted.Held.{File}
use Rattle.dj_edge.specs.declared.host.HostAnswer.{HostAnswer}
use Rattle.dj_names.specs.trusted.Types.{Name}
use Rattle.dj_model.specs.trusted.Types.{Prefix, Declared}
use Rattle.dj_model.specs.trusted.Program.{Program}
use Rattle.dj_model.specs.trusted.State.{Terms, Uncounted}
use Rattle.dj_model.specs.trusted.Runs.{plain_run}
use Rattle.dj_report.specs.declared.report.Report.{Report}
use Rattle.dj_class_set.specs.trusted.RawRules.{AreRawViolations}
use Rattle.dj_class_set.specs.trusted.Judging.{RunsRaw}
use Rattle.dj_sandbox.specs.Runs.{is_stopped}

-- under some answers of the host, all of which it takes, the run ends or makes all of its steps
abbrev pub HasRawRun : Type 0
HasRawRun = (files : List File) (class : Name) (input : List ℕ) (steps : ℕ) → AreRawViolations files class []
    → ((answers : List HostAnswer) (report : Report) → RunsRaw files class input steps answers (Some report) → ⊥) → ⊥

-- nobody counts charges
abbrev pub uncounted : Option ℕ → Terms
uncounted limit = record { limit = limit; counting = Uncounted }

-- no charge stops a plain run of any program
abbrev pub NeverStopped : Type 0
NeverStopped = (program : Program) (prefix : Prefix) (limit : Option ℕ) (entry : Declared) (input : List ℕ) (answers : List HostAnswer) (most : ℕ)
    → IfSome (plain_run program prefix (uncounted limit) entry input answers most) (λ run. is_stopped run.outcome ≡ false)
