use Rattle.std.proofs.Common.{length, sym, ap, ◌∙◌}
use Rattle.dj_image.proofs.Standing.{stands, types_like}
use Rattle.dj_image.proofs.image.Image.class_count.Goals as goal

pub returns : goal.returns
returns c = c.class_count.ensures ∙ sym (ap length (types_like (stands c.self.view_is c.self.invariant)))
