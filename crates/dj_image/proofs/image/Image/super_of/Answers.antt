use Rattle.std.proofs.Common.{sym, ◌∙◌}
use Rattle.dj_image.proofs.Standing.{stands, within_like, super_like}
use Rattle.dj_image.proofs.image.Image.super_of.Goals as goal

pub super_of-requires : goal.super_of-requires
super_of-requires c = within_like (stands c.self.view_is c.self.invariant) c.args.class c.requires

pub returns : goal.returns
returns c = c.super_of.ensures ∙ sym (super_like (stands c.self.view_is c.self.invariant) c.args.class)
