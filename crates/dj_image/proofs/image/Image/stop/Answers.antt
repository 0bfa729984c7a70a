use Rattle.std.proofs.Common.{sym, ◌∙◌}
use Rattle.dj_image.proofs.Standing.{stands, stop_like}
use Rattle.dj_image.proofs.image.Image.stop.Goals as goal

pub returns : goal.returns
returns c = c.stop.ensures ∙ sym (stop_like (stands c.self.view_is c.self.invariant))
