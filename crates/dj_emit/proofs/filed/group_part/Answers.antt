use Rattle.std.proofs.Common.{◌≡◌, sym, ◌∙◌}
use Rattle.dj_image.specs.Imaged.{program_of}
use Rattle.dj_emit.proofs.FiledFacts.{plain_part_is, new_part_is, new_part_refused}
use Rattle.dj_emit.proofs.filed.group_part.Goals as goal

pub returns-in_default : goal.returns-in_default
returns-in_default c =
    plain_part_is (program_of c.args.image.now) c.args.pool.now c.args.instr.now c.args.arrives c.plain_part.result c.requires.proper (sym c.new_class.ensures ∙ c.in_default.is)
    c.plain_part.ensures.arrives c.plain_part.ensures.charge c.plain_part.ensures.popped

pub returns : goal.returns
returns c =
    new_part_is (program_of c.args.image.now) c.args.pool.now c.args.instr.now c.in-Some.class c.args.number c.args.arrives c.in_ok-charge.charge (sym c.new_class.ensures ∙ c.in-Some.is) c.in_ok-charge.ensures
