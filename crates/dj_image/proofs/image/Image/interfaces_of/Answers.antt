use Rattle.std.proofs.Common.{sym, ◌∙◌}
use Rattle.dj_image.proofs.Standing.{stands, within_like, interfaces_like}
use Rattle.dj_image.proofs.image.Image.interfaces_of.Goals as goal

pub interfaces_of-requires : goal.interfaces_of-requires
interfaces_of-requires c = within_like (stands c.self.view_is c.self.invariant) c.args.class c.requires

pub returns : goal.returns
returns c = c.interfaces_of.ensures ∙ sym (interfaces_like (stands c.self.view_is c.self.invariant) c.args.class)
