use Rattle.std.proofs.Common.{ℕ, List, get_or, ap, subst, ◌∙◌}
use Rattle.dj_model.specs.trusted.Program.{Program}
use Rattle.dj_resolution.proofs.Resolution.{DoNamesDiffer}
use Rattle.dj_numbering.specs.Typed.{Typed}
use Rattle.dj_numbering.specs.Numbered.{AreMembers}
use Rattle.dj_numbering.proofs.Sums.{field_count_reported}
use Rattle.dj_numbering.proofs.types.Types.field_count.Goals as goal

pub returns : goal.returns
returns c =
    let program : Typed → Program = λ t. t.program in
    let members = subst (λ (typed : Typed). AreMembers typed.program c.self.inside.members) c.self.view_is c.self.invariant.members_are in
    let differ = subst DoNamesDiffer (c.classes.ensures ∙ ap program c.self.view_is) c.names_differ.ensures in
    c.count_at.ensures ∙ ap (λ (sums : List ℕ). get_or sums c.args.class 0) c.deref.ensures.value
    ∙ field_count_reported c.args.self.now.program c.self.inside.members.field_sums.items c.args.class members.sums differ
