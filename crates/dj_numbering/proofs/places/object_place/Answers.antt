use Rattle.std.proofs.Common.{ℕ, List, length, sym, ap, subst, arith}
use Rattle.std.specs.Prelude.{slice_get}
use Rattle.dj_numbering.specs.Members.{all_fields}
use Rattle.dj_numbering.specs.Numbered.{AreMemberClasses, IsStartOf}
use Rattle.dj_numbering.proofs.Placed.{place_of_field}
use Rattle.dj_numbering.proofs.Sums.{IsFieldPlace, own_within, place_reported}
use Rattle.dj_numbering.proofs.places.object_place.Goals as goal
use Rattle.dj_numbering.proofs.places.object_place.Goals.{After-instance_fields_before}

pub place_at-class-requires-clause-there : goal.place_at-class-requires-clause-there
place_at-class-requires-clause-there c =
    let classes = ap length c.deref-2.ensures.value in
    let all = c.requires.members.all_fields_there in
    let there = c.requires.there in
    omega (arith, classes, all, there)

pub place_at-class-requires-clause-homes : goal.place_at-class-requires-clause-homes
place_at-class-requires-clause-homes c =
    let members = c.args.members.now in
    subst (λ (starts : List ℕ). AreMemberClasses starts c.deref-2.result.now) (sym c.deref.ensures.value)
    (subst (λ (classes : List ℕ). AreMemberClasses members.field_starts.items classes) (sym c.deref-2.ensures.value) c.requires.members.field_classes)

pub overflow_sub-others : goal.overflow_sub-others
overflow_sub-others c =
    own_within c.args.table.now c.args.members.now.field_sums.items c.place_at-class.result.class c.index.result.now c.instance_fields.result c.requires.members.sums (place_of_field c.args.table.now c.args.members.now.field_starts.items c.args.field c.place_at-class.result c.requires.members.fields c.requires.there
    (subst (λ (starts : List ℕ). IsStartOf starts c.args.field c.place_at-class.result) c.deref.ensures.value c.place_at-class.ensures)).there c.index.ensures c.instance_fields.ensures

pub instance_fields_before-requires-clause-within : goal.instance_fields_before-requires-clause-within
instance_fields_before-requires-clause-within c = (place_of_field c.args.table.now c.args.members.now.field_starts.items c.args.field c.place_at-class.result c.requires.members.fields c.requires.there
    (subst (λ (starts : List ℕ). IsStartOf starts c.args.field c.place_at-class.result) c.deref.ensures.value c.place_at-class.ensures)).within

known : (c : After-instance_fields_before) → IsFieldPlace c.args.table.now (slice_get (all_fields c.args.table.now) c.args.field) c.index.result.now c.instance_fields.result c.instance_fields_before.result
known c =
    let place = (place_of_field c.args.table.now c.args.members.now.field_starts.items c.args.field c.place_at-class.result c.requires.members.fields c.requires.there
    (subst (λ (starts : List ℕ). IsStartOf starts c.args.field c.place_at-class.result) c.deref.ensures.value c.place_at-class.ensures)) in
    place_reported c.args.table.now c.args.members.now.field_sums.items c.place_at-class.result (slice_get (all_fields c.args.table.now) c.args.field) c.index.result.now c.instance_fields.result c.instance_fields_before.result
    c.requires.members.sums c.names_differ.ensures place.there place.within place.is c.index.ensures c.instance_fields.ensures c.instance_fields_before.ensures

pub overflow_add-result : goal.overflow_add-result
overflow_add-result c = let fits = (known c).fits in omega (arith, fits)

pub returns : goal.returns
returns c = (known c).is
