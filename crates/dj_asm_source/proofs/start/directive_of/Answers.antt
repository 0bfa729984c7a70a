use Rattle.dj_asm_tokens.specs.trusted.Words.{word_units}
use Rattle.dj_asm_source.proofs.Directives.{directives_are}
use Rattle.dj_asm_source.proofs.start.directive_of.Goals as goal

pub returns : goal.returns
returns c = directives_are (word_units 0 c.args.bytes.now) c.row_at.result c.row_at.ensures
