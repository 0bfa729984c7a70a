use Rattle.std.proofs.Common.{subst, sym}
use Rattle.dj_host.specs.trusted.Hosted.{given_since}
use Rattle.dj_model.specs.Standing.{AsksNothing}
use Rattle.dj_image.specs.Imaged.{Imaged, program_of}
use Rattle.dj_step.specs.Running.{declared_at}
use Rattle.dj_step.specs.Machines.{start_outcome}
use Rattle.dj_machine.proofs.EngineLaws.{ended_quietly, runs_from}
use Rattle.dj_machine.proofs.plain.run_entry.Goals as goal

pub returns-in-Ok-clause-ran : goal.returns-in-Ok-clause-ran
returns-in-Ok-clause-ran g c =
    runs_from c.args.image.now (declared_at (program_of c.args.image.now) c.args.entry.number) c.args.input.now c.args.limits c.args.heap_limit c.args.steps c.in-Ok.machine
    (given_since (g.H.Host.given c.args.host.now) (g.H.Host.given c.run_machine.new.host)) c.run_machine.result c.in-Ok.ensures.begins c.run_machine.ensures.ran

pub returns-in-Err-clause-ran : goal.returns-in-Err-clause-ran
returns-in-Err-clause-ran g c =
    ended_quietly c.args.image.now (declared_at (program_of c.args.image.now) c.args.entry.number) c.args.input.now c.args.limits c.args.heap_limit c.args.steps
    (start_outcome c.in-Err.e) c.ended_at_start.result (g.H.Host.given c.args.host.now) c.in-Err.ensures.ends c.ended_at_start.ensures

pub returns-in-Ok-clause-quiet : goal.returns-in-Ok-clause-quiet
returns-in-Ok-clause-quiet g c = λ quiet.
    c.run_machine.ensures.quiet (subst (λ (image : Imaged). AsksNothing (program_of image)) (sym c.in-Ok.ensures.begins.image) quiet)
