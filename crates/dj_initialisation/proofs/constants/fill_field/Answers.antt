use Rattle.std.proofs.Common.{sym}
use Rattle.dj_initialisation.specs.Store.{FillsConstant, FillsField, store}
use Rattle.dj_initialisation.proofs.Members.{if_ok_map}
use Rattle.dj_initialisation.proofs.FieldLaws.{place_there, static_filled}
use Rattle.dj_initialisation.proofs.constants.fill_field.Goals as goal

pub set_constant-requires-clause-place : goal.set_constant-requires-clause-place
set_constant-requires-clause-place c =
    place_there c.args.image.now c.args.places.now c.args.field.number c.place.result c.field.result (store c.args.heap.now c.args.statics.now c.args.literals.now) c.requires.formed c.requires.places
    c.field.ensures (sym c.if-not-is_static.ensures) c.place.ensures c.requires.are

pub returns : goal.returns
returns c =
    let image = c.args.image.now in
    let before = store c.args.heap.now c.args.statics.now c.args.literals.now in
    let after = store c.set_constant.new.heap c.set_constant.new.statics c.set_constant.new.literals in
    if_ok_map c.set_constant.result (λ filled. FillsConstant image c.place.result c.args.field.number before after filled)
    (λ filled. FillsField image c.args.field.number before after filled)
    (λ filled fills. static_filled image c.args.places.now c.args.field.number c.place.result c.field.result before after filled c.requires.places c.field.ensures (sym c.if-not-is_static.ensures)
    c.place.ensures fills)
    c.set_constant.ensures
