use Rattle.std.proofs.Common.{sym, ◌∙◌}
use Rattle.dj_image.proofs.Standing.{stands, within_like, field_count_like}
use Rattle.dj_image.proofs.image.Image.field_count.Goals as goal

pub field_count-requires : goal.field_count-requires
field_count-requires c = within_like (stands c.self.view_is c.self.invariant) c.args.class c.requires

pub returns : goal.returns
returns c = c.field_count.ensures ∙ sym (field_count_like (stands c.self.view_is c.self.invariant) c.args.class)
