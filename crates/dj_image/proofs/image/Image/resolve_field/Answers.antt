use Rattle.std.proofs.Common.{sym, ◌∙◌}
use Rattle.dj_image.proofs.Standing.{stands, within_like, resolved_field_like}
use Rattle.dj_image.proofs.image.Image.resolve_field.Goals as goal

pub resolve_field-requires : goal.resolve_field-requires
resolve_field-requires c = within_like (stands c.self.view_is c.self.invariant) c.args.class c.requires

pub returns : goal.returns
returns c = record { found = λ spelt. c.resolve_field.ensures.found spelt ∙ sym (resolved_field_like (stands c.self.view_is c.self.invariant) c.args.class c.args.name.now c.args.desc.now); none = c.resolve_field.ensures.none }
