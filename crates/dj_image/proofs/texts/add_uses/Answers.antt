use Rattle.std.proofs.Common.{refl}
use Rattle.dj_image.specs.Uses.{pushed_text}
use Rattle.dj_image.specs.declared.uses.Use.TheVariants as uses
use Rattle.dj_image.proofs.TextFacts.{text_step, no_more, all_added}
use Rattle.dj_image.proofs.texts.add_uses.Goals as goal

pub loop-one-init : goal.loop-one-init
loop-one-init c = λ all same. no_more all _ same

pub loop-one-preserved : goal.loop-one-preserved
loop-one-preserved c = λ all same. text_step (pushed_text c.args.pool.now) c.args.uses.now c.loop-one.one-index (uses.Itself 0) _ all _ c.loop-one-test.true refl (c.in_ok-add_use.ensures _ (c.loop-one.invariant all same))

pub returns : goal.returns
returns c = λ all same. all_added (pushed_text c.args.pool.now) c.args.uses.now c.loop-one.one-index all _ c.loop-one-test.false (c.loop-one.invariant all same)
