use Rattle.std.proofs.Common.{sym, subst}
use Rattle.dj_image_effects.specs.Acting.{ActsOnStatics}
use Rattle.dj_image_effects.proofs.StaticPlaces.{has_place, place_within, put_static_none, put_static_so}
use Rattle.dj_image_effects.proofs.statics.act_put_static.Goals as goal

pub place-requires : goal.place-requires
place-requires c = has_place _ c.args.places.now c.args.field.number c.requires.places c.requires.there

pub put_static-requires : goal.put_static-requires
put_static-requires c = place_within c.args.image.now c.args.places.now c.requires.places c.args.field.number c.place.result c.place.ensures c.args.statics.now c.requires.counted c.requires.found

pub returns-in_default : goal.returns-in_default
returns-in_default c = λ member found is.
    put_static_none c.args.image.now c.args.field.number member found is c.field.result c.field.ensures c.in_default.ensures c.args.frames.now c.args.statics.now

pub returns : goal.returns
returns c = λ member found is.
    subst (ActsOnStatics c.args.image.now _ c.args.frames.now c.put_static.new.frames c.args.statics.now c.put_static.new.statics) (sym c.way_acted.ensures)
    (put_static_so c.args.image.now c.args.places.now c.requires.places c.args.field.number c.place.result c.place.ensures member found is c.field.result c.field.ensures
    c.args.frames.now c.put_static.new.frames c.args.statics.now c.put_static.new.statics c.in-Some.kind c.put_static.result c.in-Some.ensures c.put_static.ensures)
