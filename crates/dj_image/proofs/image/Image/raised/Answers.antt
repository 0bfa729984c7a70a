use Rattle.std.proofs.Common.{sym, ◌∙◌}
use Rattle.dj_image.proofs.Standing.{stands, raised_like}
use Rattle.dj_image.proofs.image.Image.raised.Goals as goal

pub returns : goal.returns
returns c = c.raised.ensures ∙ sym (raised_like (stands c.self.view_is c.self.invariant) c.args.raised)
