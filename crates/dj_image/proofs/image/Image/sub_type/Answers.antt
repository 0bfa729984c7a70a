use Rattle.std.proofs.Common.{sym, ◌∙◌}
use Rattle.dj_image.proofs.Standing.{stands, within_like, subtype_like}
use Rattle.dj_image.proofs.image.Image.sub_type.Goals as goal

pub sub_type-requires : goal.sub_type-requires
sub_type-requires c = record { first = within_like (stands c.self.view_is c.self.invariant) c.args.a c.requires.first; second = within_like (stands c.self.view_is c.self.invariant) c.args.b c.requires.second }

pub returns : goal.returns
returns c = c.sub_type.ensures ∙ sym (subtype_like (stands c.self.view_is c.self.invariant) c.args.a c.args.b)
