use Rattle.std.proofs.Common.{sym, ◌∙◌}
use Rattle.dj_image.proofs.Standing.{stands, within_like, component_like}
use Rattle.dj_image.proofs.image.Image.component.Goals as goal

pub component-requires : goal.component-requires
component-requires c = within_like (stands c.self.view_is c.self.invariant) c.args.class c.requires

pub returns : goal.returns
returns c = c.component.ensures ∙ sym (component_like (stands c.self.view_is c.self.invariant) c.args.class)
