use Rattle.std.proofs.Common.{Some, sym, subst}
use Rattle.dj_command_line.specs.declared.command.Command.{Command}
use Rattle.dj_command_line.specs.Views.{job_view}
use Rattle.djvm_cli.specs.Engine.{LeavesJob}
use Rattle.djvm_cli.proofs.Leaving.{assembled}
use Rattle.djvm_cli.proofs.djvm.report_of_job.Goals as goal

pub returns-in-OnFolder-clause-leaves : goal.returns-in-OnFolder-clause-leaves
returns-in-OnFolder-clause-leaves g c =
    subst (λ (command : Command). LeavesJob (Some (job_view command)) (g.F.Files.held c.args.files.now) (g.H.Host.given c.args.host.now) (g.H.Host.given c.report_of_folder.new.host)
    (g.E.Engine.runs c.args.engine.now) (g.E.Engine.runs c.report_of_folder.new.engine) c.report_of_folder.result) (sym c.in-OnFolder.is) c.report_of_folder.ensures.leaves

pub returns-in-Assemble-clause-leaves : goal.returns-in-Assemble-clause-leaves
returns-in-Assemble-clause-leaves g c =
    subst (λ (command : Command). LeavesJob (Some (job_view command)) (g.F.Files.held c.args.files.now) (g.H.Host.given c.args.host.now) (g.H.Host.given c.args.host.now)
    (g.E.Engine.runs c.args.engine.now) (g.E.Engine.runs c.args.engine.now) c.report_of_text.result) (sym c.in-Assemble.is)
    (assembled c.in-Assemble.file.now (g.F.Files.held c.args.files.now) (g.H.Host.given c.args.host.now) (g.E.Engine.runs c.args.engine.now) c.report_of_text.result)
