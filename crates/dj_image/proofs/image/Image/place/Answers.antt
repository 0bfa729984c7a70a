use Rattle.std.proofs.Common.{sym, ◌∙◌}
use Rattle.dj_image.proofs.Standing.{stands, field_within_like, place_like}
use Rattle.dj_image.proofs.image.Image.place.Goals as goal

pub place-requires : goal.place-requires
place-requires c = field_within_like (stands c.self.view_is c.self.invariant) c.args.field.number c.requires

pub returns : goal.returns
returns c = c.place.ensures ∙ sym (place_like (stands c.self.view_is c.self.invariant) c.args.field.number)
