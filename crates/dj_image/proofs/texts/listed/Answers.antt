use Rattle.std.proofs.Common.{◌≡◌, map, rules}
use Rattle.dj_image.specs.Texts.{key_items}
use Rattle.dj_image.proofs.TextFacts.{listed_rise}
use Rattle.dj_image.proofs.texts.listed.Goals as goal

pub returns-clause-rise : goal.returns-clause-rise
returns-clause-rise c =
    let e : c.loop-text.listed.items ≡ map key_items c.args.texts.now.keys = search rules in
    listed_rise c.args.texts.now.keys c.loop-text.listed.items e c.len.ensures.ordered
