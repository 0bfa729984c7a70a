use Rattle.std.proofs.Common.{subst, arith}
use Rattle.dj_numbering.specs.Typed.{Typed}
use Rattle.dj_numbering.specs.Numbered.{AreMembers}
use Rattle.dj_numbering.proofs.Placed.{method_id_reported, method_starts_within}
use Rattle.dj_numbering.proofs.types.Types.method_id.Goals as goal

pub index-requires : goal.index-requires
index-requires c =
    let members = subst (λ (typed : Typed). AreMembers typed.program c.self.inside.members) c.self.view_is c.self.invariant.members_are in
    let lt = method_starts_within c.args.self.now.program c.self.inside.members.method_starts.items c.args.place.class members.methods c.requires.there in
    omega (arith, lt, c.self.inside.members.method_starts.ok.0)

pub overflow_add-result : goal.overflow_add-result
overflow_add-result c =
    let members = subst (λ (typed : Typed). AreMembers typed.program c.self.inside.members) c.self.view_is c.self.invariant.members_are in
    let reported = method_id_reported c.args.self.now.program c.self.inside.members.method_starts.items c.args.place c.index.result.now members.methods members.few_methods c.requires.there c.requires.within c.index.ensures in
    let fits = reported.fits in
    omega (arith, fits)

pub returns-clause-is : goal.returns-clause-is
returns-clause-is c =
    let members = subst (λ (typed : Typed). AreMembers typed.program c.self.inside.members) c.self.view_is c.self.invariant.members_are in
    (method_id_reported c.args.self.now.program c.self.inside.members.method_starts.items c.args.place c.index.result.now members.methods members.few_methods c.requires.there c.requires.within c.index.ensures).is

pub returns-clause-number : goal.returns-clause-number
returns-clause-number c =
    let members = subst (λ (typed : Typed). AreMembers typed.program c.self.inside.members) c.self.view_is c.self.invariant.members_are in
    (method_id_reported c.args.self.now.program c.self.inside.members.method_starts.items c.args.place c.index.result.now members.methods members.few_methods c.requires.there c.requires.within c.index.ensures).number
