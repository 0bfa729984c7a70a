use Rattle.std.proofs.Common.{◌≡◌, refl, subst}
use Rattle.dj_model.specs.trusted.Program.{Class}
use Rattle.dj_declarations.specs.Files.{bare_class}
use Rattle.dj_declarations.proofs.BareLaws.{bare_members}
use Rattle.dj_declarations.proofs.class.DeclaredClass.is_bare.Goals as goal

pub returns : goal.returns
returns c =
    let members = c.self.inside.members in
    subst (λ (k : Class). bare_class k ≡ k) c.self.view_is
    (bare_members _ members.texts members.fields.rows.items members.methods.rows.items refl refl)
