use Rattle.std.proofs.lemmas.Result.{err_from_is_err_and}
use Rattle.dj_asm_source.specs.trusted.Lines.{Operation, Does}
use Rattle.dj_asm_source.specs.LineReading.{operation}
use Rattle.dj_asm_tokens.specs.Views.{left_of}
use Rattle.dj_asm_source.proofs.TypeLists.{stop_map}
use Rattle.dj_asm_source.proofs.body.operation_line.Goals as goal

pub returns-in_err-operation : goal.returns-in_err-operation
returns-in_err-operation c =
    let p = err_from_is_err_and c.from_residual.result c.from_residual.ensures.1 in
    rw (p.1, p.2) (stop_map (λ (x : Operation). Does x) c.in_err-operation.field-0.0 (operation c.args.op (left_of c.args.at)) c.in_err-operation.ensures)
