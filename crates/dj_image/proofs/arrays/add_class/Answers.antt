use Rattle.std.proofs.Common.{refl}
use Rattle.dj_image.specs.declared.uses.Use.TheVariants as uses
use Rattle.dj_image.proofs.Wholes.{item_fits, use_step, class_done}
use Rattle.dj_image.proofs.arrays.add_class.Goals as goal

pub add_use-requires-clause-fit : goal.add_use-requires-clause-fit
add_use-requires-clause-fit c = item_fits c.args.parts.now c.in_ok-uses.uses.items c.deref-one-items.result.now c.loop-one.one-index (uses.Itself 0) c.requires.fit c.in_ok-uses.ensures c.deref-one-items.ensures.value c.loop-one-test.true

pub loop-one-preserved : goal.loop-one-preserved
loop-one-preserved c = (
  c.in_ok-add_use.ensures.keyed,
  λ wholes are. use_step c.args.linker.now.program c.args.parts.now.pool c.deref-one-items.result.now c.loop-one.one-index (uses.Itself 0) _ wholes c.add_use.new.rows c.loop-one-test.true refl (c.in_ok-add_use.ensures.rows _ (c.loop-one.invariant.1 wholes are)),
)

pub returns-clause-rows : goal.returns-clause-rows
returns-clause-rows c = λ wholes are.
    class_done c.args.linker.now.program c.args.parts.now c.in_ok-uses.uses.items c.deref-one-items.result.now c.loop-one.one-index wholes c.loop-one.rows c.in_ok-uses.ensures c.deref-one-items.ensures.value c.loop-one-test.false (c.loop-one.invariant.1 wholes are)
