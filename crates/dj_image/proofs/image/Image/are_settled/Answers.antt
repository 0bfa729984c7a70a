use Rattle.std.proofs.Common.{◌≡◌, ap, ◌∙◌, subst}
use Rattle.dj_numbering.specs.Links.{Linked}
use Rattle.dj_numbering.proofs.Links.{DoNamesDiffer}
use Rattle.dj_image.proofs.Settled.{settled_like}
use Rattle.dj_image.proofs.Standing.{stands}
use Rattle.dj_image.proofs.image.Image.are_settled.Goals as goal

pub returns : goal.returns
returns c =
    let program : c.classes.result.now ≡ c.self.inside.types.program = c.classes.ensures ∙ ap (λ (linked : Linked). linked.program) c.linker.ensures in
    settled_like _ _ (stands c.self.view_is c.self.invariant)
    (record { differ = subst DoNamesDiffer program c.names_differ.ensures; plain = c.are_plain.ensures; arrays = c.are_arrays.ensures; closed = c.self.invariant.closed })
