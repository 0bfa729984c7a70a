use Rattle.std.proofs.lemmas.Result.{err_from_is_err_and}
use Rattle.dj_asm_source.specs.trusted.Lines.{Frame, Framed}
use Rattle.dj_asm_source.specs.LineReading.{frame}
use Rattle.dj_asm_tokens.specs.Views.{left_of}
use Rattle.dj_asm_source.proofs.TypeLists.{stop_map}
use Rattle.dj_asm_source.proofs.body.frame_line.Goals as goal

pub returns-in_err-frame : goal.returns-in_err-frame
returns-in_err-frame c =
    let p = err_from_is_err_and c.from_residual.result c.from_residual.ensures.1 in
    rw (p.1, p.2) (stop_map (λ (x : Frame). Framed x) c.in_err-frame.field-0.0 (frame (left_of c.args.at)) c.in_err-frame.ensures)
