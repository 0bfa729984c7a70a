use Rattle.std.proofs.Common.{◌≡◌, ◌∙◌, sym, ap, subst, Option, Some, None, map, option_map, string_bytes}
use Rattle.std.proofs.lemmas.Result.{err_from_is_err_and}
use Rattle.dj_command_line.specs.trusted.DoneJobs.{DoneJob, done_job_of}
use Rattle.dj_command_line.specs.Views.{job_view}
use Rattle.djvm_cli.specs.Engine.{LeavesJob}
use Rattle.djvm_cli.proofs.Allowed.{done_job_allowed}
use Rattle.djvm_cli.proofs.Leaving.{no_job, no_words}
use Rattle.djvm_cli.proofs.djvm.report_of.Goals as goal

pub report_of_job-requires : goal.report_of_job-requires
report_of_job-requires g c =
    let some : Some (job_view c.in-Some.command) ≡ done_job_of (map string_bytes c.args.words.now) = sym (ap (option_map job_view) c.in-Some.is) ∙ c.in_ok-command.ensures.some in
    record { allowed = done_job_allowed (map string_bytes c.args.words.now) (job_view c.in-Some.command) some }

pub returns-in-Some-clause-leaves : goal.returns-in-Some-clause-leaves
returns-in-Some-clause-leaves g c =
    let some : Some (job_view c.in-Some.command) ≡ done_job_of (map string_bytes c.args.words.now) = sym (ap (option_map job_view) c.in-Some.is) ∙ c.in_ok-command.ensures.some in
    subst (λ (job : Option DoneJob). LeavesJob job (g.F.Files.held c.args.files.now) (g.H.Host.given c.args.host.now) (g.H.Host.given c.report_of_job.new.host)
    (g.E.Engine.runs c.args.engine.now) (g.E.Engine.runs c.report_of_job.new.engine) c.report_of_job.result) some c.report_of_job.ensures.leaves

pub returns-in-None-clause-leaves : goal.returns-in-None-clause-leaves
returns-in-None-clause-leaves g c =
    let none : None ≡ done_job_of (map string_bytes c.args.words.now) = sym (ap (option_map job_view) c.in-None.is) ∙ c.in_ok-command.ensures.some in
    no_job (done_job_of (map string_bytes c.args.words.now)) (g.F.Files.held c.args.files.now) (g.H.Host.given c.args.host.now) (g.E.Engine.runs c.args.engine.now) _ none

pub returns-in_err-command-clause-leaves : goal.returns-in_err-command-clause-leaves
returns-in_err-command-clause-leaves g c =
    let p = err_from_is_err_and c.from_residual.result c.from_residual.ensures.1 in
    rw p.1 (no_words (done_job_of (map string_bytes c.args.words.now)) (g.F.Files.held c.args.files.now) (g.H.Host.given c.args.host.now) (g.E.Engine.runs c.args.engine.now) p.0)
