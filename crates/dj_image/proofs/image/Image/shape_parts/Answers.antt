use Rattle.dj_image.proofs.Standing.{stands, method_within_like}
use Rattle.dj_image.proofs.ShapedPlaces.{shape_now}
use Rattle.dj_image.proofs.image.Image.shape_parts.Goals as goal

pub place_of_method-place-requires : goal.place_of_method-place-requires
place_of_method-place-requires c = method_within_like (stands c.self.view_is c.self.invariant) c.args.method.number c.requires

pub returns : goal.returns
returns c =
    shape_now c.self.view_is c.self.invariant c.args.method.number c.place_of_method-place.result c.place_of_method-place.ensures
    c.deref.result.now c.deref.ensures.value c.shape_parts.result c.shape_parts.ensures
