use Rattle.std.proofs.Common.{◌+◌, arith}
use Rattle.std.proofs.lemmas.List.{take_rest}
use Rattle.dj_asm_tokens.proofs.LineLaws.{first_line}
use Rattle.dj_asm_tokens.proofs.line.line_at.Goals as goal

pub returns-else-size-text-clause-lines : goal.returns-else-size-text-clause-lines
returns-else-size-text-clause-lines c =
    first_line c.args.text.now _ _ c.line_size-size.result c.line_size-size.ensures.size (omega arith) c.without_return.ensures.line (take_rest c.args.text.now (c.line_size-size.result + 1))
