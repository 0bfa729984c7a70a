use Rattle.std.proofs.Common.{subst}
use Rattle.dj_image.specs.Codes.{IsBodyAt}
use Rattle.dj_image_step.proofs.ShortTables.{bounded_code}
use Rattle.dj_image_step.proofs.shortness.is_bounded.Goals as goal

pub returns-then-is_short : goal.returns-then-is_short
returns-then-is_short c = λ loads.
    bounded_code c.args.image.now c.args.method.number c.in-Code.code (subst (IsBodyAt c.args.image.now c.args.method.number) c.in-Code.is c.body.ensures) (c.is_short.ensures c.if-is_short.true)
    (c.load_by_known.ensures loads)
