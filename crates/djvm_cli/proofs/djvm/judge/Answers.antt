use Rattle.std.proofs.Common.{◌≡◌, List, ℕ, Some, IfOk, sym, subst, ◌∙◌}
use Rattle.dj_report.specs.trusted.Stages.{IsDecided}
use Rattle.dj_host.specs.trusted.Hosted.{given_since}
use Rattle.dj_class_set.specs.trusted.Entry.{entry_name}
use Rattle.dj_class_set.specs.trusted.Judging.{run_stages}
use Rattle.dj_command_line.specs.declared.command.FolderCommand.{FolderCommand}
use Rattle.dj_command_line.specs.trusted.DoneJobs.{OnFolder}
use Rattle.djvm_cli.specs.Engine.{LeavesJudged}
use Rattle.djvm_cli.specs.trusted.Jobs.{IsRawJob}
use Rattle.djvm_cli.specs.trusted.Report.{judging}
use Rattle.djvm_cli.proofs.Leaving.{judged_quietly}
use Rattle.dj_command_line.specs.Views.{folder_job_view}
use Rattle.djvm_cli.proofs.djvm.judge.Goals as goal

pub returns-in_ok-verify-in-Verify-clause-decided : goal.returns-in_ok-verify-in-Verify-clause-decided
returns-in_ok-verify-in-Verify-clause-decided g c =
    let files = c.args.set.now in
    let class_is : c.as_slice.result.now ≡ entry_name c.in-Verify.entry.now = c.as_slice.ensures ∙ c.in_ok-class-in-Verify.ensures in
    subst (λ (command : FolderCommand). IsDecided (judging (folder_job_view command) files c.args.input.now (given_since (g.H.Host.given c.args.host.now) (g.H.Host.given c.args.host.now))) c.in_ok-verify-in-Verify.field-0) (sym c.in-Verify.is)
    (subst (λ (class : List ℕ). IsDecided (run_stages files class c.args.input.now c.in-Verify.thresholds) c.in_ok-verify-in-Verify.field-0) class_is c.in_ok-verify-in-Verify.ensures.decided)

pub returns-in_err-check-in-Check-clause-leaves : goal.returns-in_err-check-in-Check-clause-leaves
returns-in_err-check-in-Check-clause-leaves g c =
    judged_quietly (folder_job_view c.args.command) c.args.set.now c.args.input.now (g.H.Host.given c.args.host.now) (g.E.Engine.runs c.args.engine.now) _
    (subst (λ (command : FolderCommand). IsRawJob (Some (OnFolder (folder_job_view command))) → ⊥) (sym c.in-Check.is) (λ raw. raw))

pub returns-in_ok-check-in-Check-clause-leaves : goal.returns-in_ok-check-in-Check-clause-leaves
returns-in_ok-check-in-Check-clause-leaves g c =
    judged_quietly (folder_job_view c.args.command) c.args.set.now c.args.input.now (g.H.Host.given c.args.host.now) (g.E.Engine.runs c.args.engine.now) _
    (subst (λ (command : FolderCommand). IsRawJob (Some (OnFolder (folder_job_view command))) → ⊥) (sym c.in-Check.is) (λ raw. raw))

pub returns-in_err-class-in-Verify-clause-leaves : goal.returns-in_err-class-in-Verify-clause-leaves
returns-in_err-class-in-Verify-clause-leaves g c =
    judged_quietly (folder_job_view c.args.command) c.args.set.now c.args.input.now (g.H.Host.given c.args.host.now) (g.E.Engine.runs c.args.engine.now) _
    (subst (λ (command : FolderCommand). IsRawJob (Some (OnFolder (folder_job_view command))) → ⊥) (sym c.in-Verify.is) (λ raw. raw))

pub returns-in_err-verify-in-Verify-clause-leaves : goal.returns-in_err-verify-in-Verify-clause-leaves
returns-in_err-verify-in-Verify-clause-leaves g c =
    judged_quietly (folder_job_view c.args.command) c.args.set.now c.args.input.now (g.H.Host.given c.args.host.now) (g.E.Engine.runs c.args.engine.now) _
    (subst (λ (command : FolderCommand). IsRawJob (Some (OnFolder (folder_job_view command))) → ⊥) (sym c.in-Verify.is) (λ raw. raw))

pub returns-in_ok-verify-in-Verify-clause-leaves : goal.returns-in_ok-verify-in-Verify-clause-leaves
returns-in_ok-verify-in-Verify-clause-leaves g c =
    judged_quietly (folder_job_view c.args.command) c.args.set.now c.args.input.now (g.H.Host.given c.args.host.now) (g.E.Engine.runs c.args.engine.now) _
    (subst (λ (command : FolderCommand). IsRawJob (Some (OnFolder (folder_job_view command))) → ⊥) (sym c.in-Verify.is) (λ raw. raw))

pub returns-in-Raw-clause-leaves : goal.returns-in-Raw-clause-leaves
returns-in-Raw-clause-leaves g c =
    subst (λ (command : FolderCommand). LeavesJudged (folder_job_view command) c.args.set.now c.args.input.now (g.H.Host.given c.args.host.now) (g.H.Host.given c.judge_raw.new.host)
    (g.E.Engine.runs c.args.engine.now) (g.E.Engine.runs c.judge_raw.new.engine) c.judge_raw.result) (sym c.in-Raw.is) c.judge_raw.ensures.leaves

pub returns-in-Raw-clause-decided : goal.returns-in-Raw-clause-decided
returns-in-Raw-clause-decided g c =
    subst (λ (command : FolderCommand). IfOk c.judge_raw.result (IsDecided (judging (folder_job_view command) c.args.set.now c.args.input.now (given_since (g.H.Host.given c.args.host.now) (g.H.Host.given c.judge_raw.new.host)))))
    (sym c.in-Raw.is) c.judge_raw.ensures.decided
