use Rattle.std.proofs.Common.{Ok, Err, map, string_bytes}
use Rattle.dj_host.specs.trusted.Hosted.{given_since}
use Rattle.dj_command_line.specs.trusted.DoneJobs.{done_job_of}
use Rattle.djvm_cli.proofs.Leaving.{all_added, prefix_added}
use Rattle.djvm_cli.proofs.djvm.djvm.Goals as goal

pub returns-in-Ok-clause-runs : goal.returns-in-Ok-clause-runs
returns-in-Ok-clause-runs g c = λ no_fault no_write_fault memory.
    all_added (done_job_of (map string_bytes c.args.words.now)) (given_since (g.H.Host.given c.args.host.now) (g.H.Host.given c.report_of.new.host))
    (g.E.Engine.runs c.args.engine.now) (g.E.Engine.runs c.report_of.new.engine) (g.F.Files.held c.args.files.now) c.in-Ok.ensures.leaves.runs

pub returns-in-Ok-clause-prefix : goal.returns-in-Ok-clause-prefix
returns-in-Ok-clause-prefix g c =
    prefix_added (done_job_of (map string_bytes c.args.words.now)) (given_since (g.H.Host.given c.args.host.now) (g.H.Host.given c.report_of.new.host))
    (g.E.Engine.runs c.args.engine.now) (g.E.Engine.runs c.report_of.new.engine) (g.F.Files.held c.args.files.now) (Ok c.in-Ok.report) c.in-Ok.ensures.leaves.runs

pub returns-in-Err-Fault-clause-prefix : goal.returns-in-Err-Fault-clause-prefix
returns-in-Err-Fault-clause-prefix g c =
    prefix_added (done_job_of (map string_bytes c.args.words.now)) (given_since (g.H.Host.given c.args.host.now) (g.H.Host.given c.report_of.new.host))
    (g.E.Engine.runs c.args.engine.now) (g.E.Engine.runs c.report_of.new.engine) (g.F.Files.held c.args.files.now) (Err c.in-Err-Fault.field-0) c.in-Err-Fault.ensures.leaves.runs

pub returns-in-Err-Memory-clause-prefix : goal.returns-in-Err-Memory-clause-prefix
returns-in-Err-Memory-clause-prefix g c =
    prefix_added (done_job_of (map string_bytes c.args.words.now)) (given_since (g.H.Host.given c.args.host.now) (g.H.Host.given c.report_of.new.host))
    (g.E.Engine.runs c.args.engine.now) (g.E.Engine.runs c.report_of.new.engine) (g.F.Files.held c.args.files.now) (Err c.in-Err-Memory.field-0) c.in-Err-Memory.ensures.leaves.runs
