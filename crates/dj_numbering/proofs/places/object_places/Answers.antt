use Rattle.std.proofs.Common.{arith}
use Rattle.dj_numbering.proofs.Placed.{all_places, no_places, one_place}
use Rattle.dj_numbering.proofs.places.object_places.Goals as goal

pub loop-field-init : goal.loop-field-init
loop-field-init c = no_places c.args.table.now c.in_ok-places.places.items c.in_ok-places.ensures.items

pub loop-field-preserved : goal.loop-field-preserved
loop-field-preserved c = one_place c.args.table.now c.loop-field.field c.object_place.result c.loop-field.places.items c.push.new.self.items c.loop-field.invariant c.object_place.ensures c.in_ok-push.ensures.items

pub returns : goal.returns
returns c =
    let count = c.len-count.ensures in
    let all = c.requires.all_fields_there in
    let few = c.requires.few_fields in
    all_places c.args.table.now c.loop-field.field c.loop-field.places.items c.loop-field.invariant (omega (arith, c.loop-field-test.false, c.loop-field.auto.field-end, count, all, few))
