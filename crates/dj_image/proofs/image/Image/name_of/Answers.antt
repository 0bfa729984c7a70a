use Rattle.std.proofs.Common.{◌≡◌, ℕ, List, Some, sym, subst}
use Rattle.std.specs.Prelude.{slice_get}
use Rattle.dj_image.proofs.Standing.{stands, within_like, texts_like}
use Rattle.dj_image.proofs.image.Image.name_of.Goals as goal

pub name_of-requires : goal.name_of-requires
name_of-requires c = within_like (stands c.self.view_is c.self.invariant) c.args.class c.requires

pub returns : goal.returns
returns c = subst (λ (texts : List (List ℕ)). slice_get texts c.args.class ≡ Some c.name_of.result.now) (sym (texts_like (stands c.self.view_is c.self.invariant))) c.name_of.ensures
