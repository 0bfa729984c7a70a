use Rattle.std.proofs.Common.{map}
use Rattle.dj_image.specs.Texts.{key_items}
use Rattle.dj_image.proofs.TextFacts.{same_values, ok_then}
use Rattle.dj_image.proofs.texts.add_values.Goals as goal

pub returns : goal.returns
returns c = λ all same.
    ok_then c.add_uses.result _ _ (c.add_uses.ensures all same)
    (λ now. same_values c.args.parts.now c.in_ok-uses.uses.items c.deref.result.now all (map key_items c.add_uses.new.texts.keys) c.in_ok-uses.ensures c.deref.ensures.value now)
