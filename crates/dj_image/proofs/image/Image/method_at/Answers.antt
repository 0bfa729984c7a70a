use Rattle.dj_image.proofs.Standing.{stands, within_like, nth_method_like}
use Rattle.dj_image.proofs.image.Image.method_at.Goals as goal

pub method_at-requires : goal.method_at-requires
method_at-requires c = within_like (stands c.self.view_is c.self.invariant) c.args.class c.requires

pub returns : goal.returns
returns c = nth_method_like (stands c.self.view_is c.self.invariant) c.args.class c.args.at _ c.method_at.ensures
