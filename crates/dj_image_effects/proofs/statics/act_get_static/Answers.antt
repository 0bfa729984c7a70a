use Rattle.std.proofs.Common.{sym, subst, arith}
use Rattle.dj_initialisation.specs.Store.{store}
use Rattle.dj_image_effects.specs.Acting.{ActsOnStatics, machine}
use Rattle.dj_image_effects.proofs.Frugal.{static_room}
use Rattle.dj_image_effects.proofs.StaticPlaces.{has_place, place_within, get_static_none, got_static}
use Rattle.dj_image_effects.proofs.statics.act_get_static.Goals as goal

pub place-requires : goal.place-requires
place-requires c = has_place _ c.args.places.now c.args.field.number c.requires.places c.requires.there

pub get_static-requires-clause-known : goal.get_static-requires-clause-known
get_static-requires-clause-known c = place_within c.args.image.now c.args.places.now c.requires.places c.args.field.number c.place.result c.place.ensures c.args.statics.now c.requires.counted c.requires.found

pub returns-in_default-clause-done : goal.returns-in_default-clause-done
returns-in_default-clause-done c = λ member found is.
    get_static_none c.args.image.now c.args.field.number member found is c.field.result c.field.ensures c.in_default.ensures c.args.frames.now c.args.statics.now

pub returns-clause-done : goal.returns-clause-done
returns-clause-done c = λ member found is.
    subst (ActsOnStatics c.args.image.now _ c.args.frames.now c.get_static.new.frames c.args.statics.now c.args.statics.now) (sym c.way_acted.ensures)
    (got_static c.args.image.now c.args.places.now c.requires.places c.args.field.number c.place.result c.place.ensures member found is c.field.result c.field.ensures
    c.args.frames.now c.get_static.new.frames c.args.statics.now c.in-Some.kind c.get_static.result c.in-Some.ensures c.get_static.ensures)

pub returns-then-not-has_room-clause-frugal : goal.returns-then-not-has_room-clause-frugal
returns-then-not-has_room-clause-frugal c = λ member heap literals are frugal.
    let room = static_room c.args.image.now member (machine c.args.frames.now (store heap c.args.statics.now literals)) frugal in
    let none = c.has_room.ensures.none c.if-not-has_room.true in
    omega (arith, room, none)
