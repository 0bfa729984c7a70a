use Rattle.dj_initialisation.specs.Store.{store}
use Rattle.dj_image_effects.specs.Acting.{machine}
use Rattle.dj_image_effects.proofs.Families.{acted_on_heap}
use Rattle.dj_effects.specs.Actions.{access_view}
use Rattle.dj_image_effects.proofs.Effects.{load_is}
use Rattle.dj_image_effects.proofs.Rooms.{load_has_room}
use Rattle.dj_image_effects.proofs.arrays.act_load.Goals as goal

pub load_element-requires : goal.load_element-requires
load_element-requires c = load_has_room (access_view c.args.access) c.args.frames.now c.args.heap.now c.requires

pub returns : goal.returns
returns c =
    acted_on_heap c.args.image.now _ c.args.frames.now c.load_element.new.frames c.args.heap.now c.args.heap.now c.load_element.result c.flow_acted.result _ c.flow_acted.ensures
    (λ statics literals. load_is c.args.image.now (machine c.args.frames.now (store c.args.heap.now statics literals)) (access_view c.args.access)) c.load_element.ensures
