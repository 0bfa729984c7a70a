use Rattle.dj_asm_tokens.specs.trusted.Words.{word_units}
use Rattle.dj_asm_source.proofs.FrameWords.{simple_found}
use Rattle.dj_asm_source.proofs.frame_type.simple_type.Goals as goal

pub returns : goal.returns
returns c = simple_found (word_units 0 c.args.bytes.now) c.row_at.result c.row_at.ensures
