use Rattle.std.proofs.Common.{map}
use Rattle.dj_image.specs.Uses.{class_uses}
use Rattle.dj_image.specs.Texts.{key_items}
use Rattle.dj_image.proofs.TextFacts.{same_texts, ok_then}
use Rattle.dj_image.proofs.texts.add_pushed.Goals as goal

pub returns : goal.returns
returns c = λ all same.
    ok_then c.add_uses.result _ _ (c.add_uses.ensures all same)
    (λ now. same_texts c.args.parts.now.pool (class_uses c.args.parts.now) c.in_ok-uses.uses.items c.deref.result.now all (map key_items c.add_uses.new.texts.keys) c.in_ok-uses.ensures c.deref.ensures.value now)
