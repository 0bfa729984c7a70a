use Rattle.std.proofs.Common.{sym, ◌∙◌}
use Rattle.dj_image.proofs.Standing.{stands, method_within_like, within_like, selected_like}
use Rattle.dj_image.proofs.image.Image.select.Goals as goal

pub select-requires : goal.select-requires
select-requires c = record { there = method_within_like (stands c.self.view_is c.self.invariant) c.args.method.number c.requires.there; class = within_like (stands c.self.view_is c.self.invariant) c.args.class c.requires.class }

pub returns : goal.returns
returns c = c.select.ensures ∙ sym (selected_like (stands c.self.view_is c.self.invariant) c.args.method.number c.args.class)
