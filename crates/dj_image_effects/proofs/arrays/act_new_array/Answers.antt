use Rattle.std.proofs.Common.{Some, refl, subst}
use Rattle.dj_numbering.specs.Typed.{types_of}
use Rattle.dj_image.specs.Imaged.{typed_of}
use Rattle.dj_model.specs.trusted.Arrays.{make_array}
use Rattle.dj_initialisation.specs.Store.{store}
use Rattle.dj_effects.specs.DoesOnHeap.{DoesOnHeap}
use Rattle.dj_image_effects.specs.Acting.{machine}
use Rattle.dj_image_effects.proofs.Families.{acted_on_heap}
use Rattle.dj_image_effects.proofs.Effects.{new_array_is}
use Rattle.dj_image_effects.proofs.KnownHeaps.{array_known_after}
use Rattle.dj_image_effects.proofs.Rooms.{array_has_room}
use Rattle.dj_image_effects.proofs.arrays.act_new_array.Goals as goal

pub new_array-requires : goal.new_array-requires
new_array-requires c = array_has_room (Some c.args.heap.now.limit) c.args.class c.args.element c.args.frames.now c.args.heap.now c.requires.room

pub returns-clause-done : goal.returns-clause-done
returns-clause-done c = λ ty is.
    acted_on_heap c.args.image.now _ c.args.frames.now c.new_array.new.frames c.args.heap.now c.new_array.new.heap (Some c.in-Some.flow) c.flow_acted.result _ c.flow_acted.ensures
    (λ statics literals. new_array_is c.args.image.now (machine c.args.frames.now (store c.args.heap.now statics literals)) ty c.args.element c.args.class is.is)
    (subst (DoesOnHeap (make_array (Some c.args.heap.now.limit) c.args.class c.args.element) c.args.frames.now c.new_array.new.frames c.args.heap.now c.new_array.new.heap) c.in-Some.is c.in_ok-made.ensures)

pub returns-clause-known : goal.returns-clause-known
returns-clause-known c =
    array_known_after (types_of (typed_of c.args.image.now)) (Some c.args.heap.now.limit) c.args.class c.args.element c.args.frames.now c.new_array.new.frames c.args.heap.now c.new_array.new.heap c.in-Some.flow
    c.requires.known c.requires.within (c.if-not-holds_elements.ensures refl)
    (subst (DoesOnHeap (make_array (Some c.args.heap.now.limit) c.args.class c.args.element) c.args.frames.now c.new_array.new.frames c.args.heap.now c.new_array.new.heap) c.in-Some.is c.in_ok-made.ensures)
