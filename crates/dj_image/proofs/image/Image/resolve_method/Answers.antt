use Rattle.std.proofs.Common.{sym, ◌∙◌}
use Rattle.dj_image.proofs.Standing.{stands, within_like, resolved_method_like}
use Rattle.dj_image.proofs.image.Image.resolve_method.Goals as goal

pub resolve_method-requires : goal.resolve_method-requires
resolve_method-requires c = within_like (stands c.self.view_is c.self.invariant) c.args.class c.requires

pub returns : goal.returns
returns c = record { found = λ spelt. c.resolve_method.ensures.found spelt ∙ sym (resolved_method_like (stands c.self.view_is c.self.invariant) c.args.class c.args.name.now c.args.desc.now); none = c.resolve_method.ensures.none }
