use Rattle.dj_image.proofs.Standing.{stands, field_within_like, field_there_like}
use Rattle.dj_image.proofs.image.Image.field.Goals as goal

pub field-requires : goal.field-requires
field-requires c = field_within_like (stands c.self.view_is c.self.invariant) c.args.field.number c.requires

pub returns : goal.returns
returns c = field_there_like (stands c.self.view_is c.self.invariant) c.args.field.number c.field.result c.field.ensures
