use Rattle.std.proofs.Common.{◌≡◌, ◌∙◌}
use Rattle.dj_invocation.specs.declared.choosing.Mode.TheVariants as modes
use Rattle.dj_image_step.proofs.UsedLaws.{called_plainly, static_used}
use Rattle.dj_image_step.proofs.uses.called_class.Goals as goal

pub returns-in-Static : goal.returns-in-Static
returns-in-Static c = λ called m resolved e resolves is.
    static_used c.args.image.now called m resolved c.args.method c.method.result (e ∙ c.in-Static.is) resolves is c.method.ensures

pub returns-in-Virtual : goal.returns-in-Virtual
returns-in-Virtual c = λ called m resolved e resolves is.
    called_plainly c.args.image.now called m c.args.mode e (λ (static : c.args.mode ≡ modes.Static). let own : c.args.mode ≡ modes.Virtual = c.in-Virtual.is in absurd cc)

pub returns-in-Special : goal.returns-in-Special
returns-in-Special c = λ called m resolved e resolves is.
    called_plainly c.args.image.now called m c.args.mode e (λ (static : c.args.mode ≡ modes.Static). let own : c.args.mode ≡ modes.Special = c.in-Special.is in absurd cc)

pub returns-in-Interface : goal.returns-in-Interface
returns-in-Interface c = λ called m resolved e resolves is.
    called_plainly c.args.image.now called m c.args.mode e (λ (static : c.args.mode ≡ modes.Static). let own : c.args.mode ≡ modes.Interface = c.in-Interface.is in absurd cc)
