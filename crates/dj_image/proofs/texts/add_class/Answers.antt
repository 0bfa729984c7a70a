use Rattle.std.proofs.Common.{map}
use Rattle.dj_image.specs.Texts.{key_items, class_texts, value_texts}
use Rattle.dj_image.proofs.TextFacts.{class_texts_join, ok_then}
use Rattle.dj_image.proofs.texts.add_class.Goals as goal

pub returns : goal.returns
returns c = λ all same.
    ok_then c.add_values.result _ _ (c.add_values.ensures _ (c.in_ok-add_pushed.ensures all same))
    (λ now. class_texts_join all (class_texts c.args.class.now) (value_texts c.args.class.now.pool c.args.class.now.values.items) (map key_items c.add_values.new.texts.keys) now)
