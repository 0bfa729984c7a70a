use Rattle.std.proofs.Common.{IfOk, sym, subst, arith}
use Rattle.dj_model.specs.trusted.Types.{Declared}
use Rattle.dj_model.specs.Standing.{IsEntry}
use Rattle.dj_image.specs.Imaged.{program_of}
use Rattle.dj_host.specs.trusted.Hosted.{given_since}
use Rattle.dj_machine.specs.Engines.{RunsPlainly}
use Rattle.dj_class_set.specs.trusted.Limits.{most_heap_bytes}
use Rattle.dj_sandbox.specs.Runs.{no_limits}
use Rattle.dj_sandbox.proofs.raw_run.run_image.Goals as goal

pub plain-requires-clause-method : goal.plain-requires-clause-method
plain-requires-clause-method g c = c.entry_in.ensures.there

pub plain-requires-clause-entry : goal.plain-requires-clause-entry
plain-requires-clause-entry g c = subst (IsEntry (program_of c.args.image.now)) (sym c.entry_in.ensures.named) c.requires.entry

pub plain-requires-clause-limits : goal.plain-requires-clause-limits
plain-requires-clause-limits g c = record { alloc = omega arith; invoke = omega arith; jump = omega arith; throw = omega arith }

pub returns-clause-ran : goal.returns-clause-ran
returns-clause-ran g c =
    subst (λ (entry : Declared). IfOk c.plain.result
    (RunsPlainly c.args.image.now entry c.args.input.now no_limits most_heap_bytes c.args.steps (given_since (g.H.Host.given c.args.host.now) (g.H.Host.given c.plain.new.host))))
    c.entry_in.ensures.named c.plain.ensures.ran
