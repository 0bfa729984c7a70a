use Rattle.std.proofs.Common.{sym, ◌∙◌}
use Rattle.dj_image.proofs.Standing.{stands, text_number_like}
use Rattle.dj_image.proofs.image.Image.class_named.Goals as goal

pub returns : goal.returns
returns c = c.class_named.ensures ∙ sym (text_number_like (stands c.self.view_is c.self.invariant) c.args.name.now)
