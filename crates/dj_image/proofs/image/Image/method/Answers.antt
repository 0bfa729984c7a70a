use Rattle.dj_image.proofs.Standing.{stands, method_within_like, method_there_like}
use Rattle.dj_image.proofs.image.Image.method.Goals as goal

pub method-requires : goal.method-requires
method-requires c = method_within_like (stands c.self.view_is c.self.invariant) c.args.method.number c.requires

pub returns : goal.returns
returns c = method_there_like (stands c.self.view_is c.self.invariant) c.args.method.number c.method.result c.method.ensures
