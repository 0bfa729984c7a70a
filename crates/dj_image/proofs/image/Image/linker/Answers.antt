use Rattle.std.proofs.Common.{◌≡◌, map, ap, ◌∙◌, subst}
use Rattle.dj_model.specs.trusted.Program.{Program}
use Rattle.dj_declarations.specs.Files.{bare_class}
use Rattle.dj_numbering.specs.Links.{Linked}
use Rattle.dj_image.proofs.Standing.{stands, bare_linked}
use Rattle.dj_image.proofs.image.Image.linker.Goals as goal

pub returns : goal.returns
returns c =
    let program : c.classes.result.now ≡ c.self.inside.types.program = c.classes.ensures ∙ ap (λ (linked : Linked). linked.program) c.linker-linker.ensures in
    c.linker-linker.ensures
    ∙ bare_linked _ _ (stands c.self.view_is c.self.invariant) (subst (λ (p : Program). map bare_class p ≡ p) program c.are_bare.ensures)
