use Rattle.dj_image.proofs.Standing.{stands, within_like, nth_field_like}
use Rattle.dj_image.proofs.image.Image.field_at.Goals as goal

pub field_at-requires : goal.field_at-requires
field_at-requires c = within_like (stands c.self.view_is c.self.invariant) c.args.class c.requires

pub returns : goal.returns
returns c = nth_field_like (stands c.self.view_is c.self.invariant) c.args.class c.args.at _ c.field_at.ensures
