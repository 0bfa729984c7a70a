use Rattle.std.proofs.lemmas.Result.{err_from_is_err_and}
use Rattle.dj_image.specs.Imaged.{program_of}
use Rattle.dj_current_method.specs.Activations.{declared_at}
use Rattle.dj_step.proofs.BeginLaws.{input_refused}
use Rattle.dj_step.proofs.machine.Machine.new.Goals as goal

pub returns-in_err-heap-clause-ends : goal.returns-in_err-heap-clause-ends
returns-in_err-heap-clause-ends c =
    let p = err_from_is_err_and c.from_residual.result c.from_residual.ensures.1 in
    rw (p.1, p.2) (input_refused c.args.image.now (declared_at (program_of c.args.image.now) c.args.entry.number) c.args.input.now c.args.limits c.args.heap_limit c.in_err-heap.field-0.0 c.in_err-heap.ensures.refused)
