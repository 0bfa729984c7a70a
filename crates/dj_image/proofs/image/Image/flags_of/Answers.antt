use Rattle.std.proofs.Common.{sym, ◌∙◌}
use Rattle.dj_image.proofs.Standing.{stands, within_like, flags_like}
use Rattle.dj_image.proofs.image.Image.flags_of.Goals as goal

pub flags_of-requires : goal.flags_of-requires
flags_of-requires c = within_like (stands c.self.view_is c.self.invariant) c.args.class c.requires

pub returns : goal.returns
returns c = c.flags_of.ensures ∙ sym (flags_like (stands c.self.view_is c.self.invariant) c.args.class)
