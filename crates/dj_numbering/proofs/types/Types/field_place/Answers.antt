use Rattle.std.proofs.Common.{ℕ, List, length, sym, ap, subst, arith}
use Rattle.dj_numbering.specs.Typed.{Typed}
use Rattle.dj_numbering.specs.Numbered.{AreMembers, AreMemberClasses, IsStartOf}
use Rattle.dj_numbering.proofs.Placed.{IsPlaceOfField, place_of_field}
use Rattle.dj_numbering.proofs.types.Types.field_place.Goals as goal

pub place_at-requires-clause-there : goal.place_at-requires-clause-there
place_at-requires-clause-there c =
    let members = subst (λ (typed : Typed). AreMembers typed.program c.self.inside.members) c.self.view_is c.self.invariant.members_are in
    let classes = ap length c.deref-2.ensures.value in
    let all = members.all_fields_there in
    let there = c.requires in
    omega (arith, classes, all, there)

pub place_at-requires-clause-homes : goal.place_at-requires-clause-homes
place_at-requires-clause-homes c =
    let members = c.self.inside.members in
    subst (λ (starts : List ℕ). AreMemberClasses starts c.deref-2.result.now) (sym c.deref.ensures.value)
    (subst (λ (classes : List ℕ). AreMemberClasses members.field_starts.items classes) (sym c.deref-2.ensures.value) c.self.invariant.members_are.field_classes)

reported : (c : goal.After-place_at) → IsPlaceOfField c.args.self.now.program c.args.field.number c.place_at.result
reported c =
    let members = subst (λ (typed : Typed). AreMembers typed.program c.self.inside.members) c.self.view_is c.self.invariant.members_are in
    place_of_field c.args.self.now.program c.self.inside.members.field_starts.items c.args.field.number c.place_at.result members.fields c.requires
    (subst (λ (starts : List ℕ). IsStartOf starts c.args.field.number c.place_at.result) c.deref.ensures.value c.place_at.ensures)

pub returns-clause-there : goal.returns-clause-there
returns-clause-there c = (reported c).there

pub returns-clause-within : goal.returns-clause-within
returns-clause-within c = (reported c).within

pub returns-clause-is : goal.returns-clause-is
returns-clause-is c = (reported c).is

pub returns-clause-number : goal.returns-clause-number
returns-clause-number c = (reported c).counted
