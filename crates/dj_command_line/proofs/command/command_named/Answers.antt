use Rattle.std.proofs.Common.{sym, ap, ◌∙◌}
use Rattle.std.specs.Prelude.{option_and_then}
use Rattle.dj_command_line.specs.trusted.DoneJobs.{done}
use Rattle.dj_command_line.specs.Views.{texts, values_view}
use Rattle.dj_command_line.proofs.Done.{job_of_raw, job_of_assemble, job_of_others}
use Rattle.dj_command_line.proofs.command.command_named.Goals as goal

pub returns-then-eq-3 : goal.returns-then-eq-3
returns-then-eq-3 c =
    c.raw_command.ensures
    ∙ sym (ap (option_and_then done) (job_of_raw c.args.name.now (texts c.args.operands.now) (values_view c.args.options) (sym c.if-eq-3.ensures)))

pub returns-then-eq-4 : goal.returns-then-eq-4
returns-then-eq-4 c =
    c.assemble_command.ensures
    ∙ sym (ap (option_and_then done) (job_of_assemble c.args.name.now (texts c.args.operands.now) (values_view c.args.options) (sym c.if-eq-4.ensures)))

pub returns-else-eq-4 : goal.returns-else-eq-4
returns-else-eq-4 c =
    sym (job_of_others c.args.name.now (texts c.args.operands.now) (values_view c.args.options) (sym c.if-eq.ensures) (sym c.if-eq-2.ensures) (sym c.if-eq-3.ensures) (sym c.if-eq-4.ensures))
