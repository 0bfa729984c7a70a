use Rattle.dj_initialisation.specs.Store.{store}
use Rattle.dj_image_effects.specs.Acting.{machine}
use Rattle.dj_image_effects.proofs.Families.{acted_on_heap}
use Rattle.dj_image_effects.proofs.Effects.{length_is}
use Rattle.dj_image_effects.proofs.Rooms.{length_has_room}
use Rattle.dj_image_effects.proofs.arrays.act_length.Goals as goal

pub array_length-requires : goal.array_length-requires
array_length-requires c = length_has_room c.args.frames.now c.args.heap.now c.requires

pub returns : goal.returns
returns c =
    acted_on_heap c.args.image.now _ c.args.frames.now c.array_length.new.frames c.args.heap.now c.args.heap.now c.array_length.result c.flow_acted.result _ c.flow_acted.ensures
    (λ statics literals. length_is c.args.image.now (machine c.args.frames.now (store c.args.heap.now statics literals))) c.array_length.ensures
