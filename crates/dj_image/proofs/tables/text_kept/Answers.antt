use Rattle.std.proofs.Common.{sym, ap, ◌∙◌}
use Rattle.std.specs.Option.{option_copied}
use Rattle.dj_image.specs.Operands.{text_operand}
use Rattle.dj_image.proofs.Making.{text_placed}
use Rattle.dj_image.proofs.tables.text_kept.Goals as goal

pub returns-in-Some : goal.returns-in-Some
returns-in-Some c = λ texts held.
    c.text_operand.ensures ∙ ap text_operand (c.number_at.ensures ∙ text_placed texts c.args.pool.now c.args.places.now c.args.index _ held (sym c.text.ensures ∙ ap option_copied c.in-Some.is))
