use Rattle.std.proofs.Common.{ℕ}
use Rattle.std.proofs.lemmas.Result.{err_from_is_err_and}
use Rattle.std.specs.Bool.{⊤}
use Rattle.dj_asm_source.specs.trusted.Lines.{Array}
use Rattle.dj_asm_source.specs.Reading.{read_then}
use Rattle.dj_asm_source.specs.LineReading.{base, line_end}
use Rattle.dj_asm_tokens.specs.Views.{left_of}
use Rattle.dj_asm_source.proofs.TypeLists.{stop_map, then_stops}
use Rattle.dj_asm_source.proofs.operand.array.Goals as goal

pub returns-in_err-base : goal.returns-in_err-base
returns-in_err-base c =
    let p = err_from_is_err_and c.from_residual.result c.from_residual.ensures.1 in
    let stop = c.in_err-base.field-0.0 in
    rw (p.1, p.2)
    (stop_map (λ (x : ℕ × ⊤). Array x.0) stop (read_then (base (left_of c.args.at)) line_end) (then_stops stop (base (left_of c.args.at)) line_end c.in_err-base.ensures))
