use Rattle.dj_rewrite.proofs.LeastParts.{least_first, least_next, least_end}
use Rattle.dj_rewrite.proofs.least.least_text.Goals as goal

pub loop-text-init : goal.loop-text-init
loop-text-init c = least_first c.args.texts.now c.index-texts-0.result c.requires c.index-texts-0.is

pub loop-text-preserved : goal.loop-text-preserved
loop-text-preserved c =
    least_next c.args.texts.now c.loop-text.text-index c.text-item.result c.loop-text.least.now c.lesser_text-least.result.now c.loop-text-test.true c.text-item.is c.lesser_text-least.ensures c.loop-text.invariant

pub returns : goal.returns
returns c = least_end c.args.texts.now c.loop-text.text-index c.loop-text.least.now c.loop-text-test.false c.loop-text.invariant
