use Rattle.std.proofs.Common.{sym, ◌∙◌}
use Rattle.dj_image.proofs.Standing.{stands, method_within_like, class_within_like, special_like}
use Rattle.dj_image.proofs.image.Image.special.Goals as goal

pub special-requires : goal.special-requires
special-requires c = record { there = method_within_like (stands c.self.view_is c.self.invariant) c.args.method.number c.requires.there; class = class_within_like (stands c.self.view_is c.self.invariant) c.args.class c.requires.class }

pub returns : goal.returns
returns c = c.special.ensures ∙ sym (special_like (stands c.self.view_is c.self.invariant) c.args.method.number c.args.class)
