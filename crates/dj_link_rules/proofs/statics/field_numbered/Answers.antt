use Rattle.dj_link_rules.proofs.statics.field_numbered.Goals as goal

pub returns : goal.returns
returns c = c.resolve_field_of.ensures c.args.named.name.now c.args.named.desc.now c.requires.named
