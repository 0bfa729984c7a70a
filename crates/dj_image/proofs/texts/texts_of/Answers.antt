use Rattle.std.proofs.Common.{map}
use Rattle.dj_image.proofs.TextFacts.{class_text_step, class_texts_done, has_pool}
use Rattle.dj_image.proofs.ArrayFacts.{both_ok}
use Rattle.dj_image.specs.Texts.{key_items}
use Rattle.dj_image.proofs.texts.texts_of.Goals as goal

pub add_class-requires : goal.add_class-requires
add_class-requires c = has_pool c.args.parts.now c.loop-class.class-index c.class-item.result c.requires c.loop-class-test.true c.class-item.is

pub loop-class-preserved : goal.loop-class-preserved
loop-class-preserved c = class_text_step c.args.parts.now c.loop-class.class-index c.class-item.result c.class-item.result _ c.loop-class-test.true c.class-item.is (c.in_ok-add_class.ensures _ c.loop-class.invariant)

pub returns-clause-listed : goal.returns-clause-listed
returns-clause-listed c =
    both_ok c.listed.result _ _ _ c.listed.ensures.listed c.listed.ensures.rise
    (λ texts is up. class_texts_done c.args.parts.now c.loop-class.class-index texts.items (map key_items c.loop-class.texts.keys) c.loop-class-test.false is c.loop-class.invariant)
