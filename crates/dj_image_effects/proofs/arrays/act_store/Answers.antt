use Rattle.dj_initialisation.specs.Store.{store}
use Rattle.dj_image_effects.specs.Acting.{machine}
use Rattle.dj_image_effects.specs.declared.acted.Acted.TheVariants as acts
use Rattle.dj_image_effects.proofs.Families.{acted_on_heap}
use Rattle.dj_image_effects.proofs.Frugal.{never_stuck}
use Rattle.dj_numbering.specs.Typed.{types_of}
use Rattle.dj_image.specs.Imaged.{typed_of}
use Rattle.dj_stack.specs.Frames.{top_operands}
use Rattle.dj_effects.specs.Actions.{access_view}
use Rattle.dj_image_effects.proofs.Effects.{store_is}
use Rattle.dj_image_effects.proofs.KnownHeaps.{store_known}
use Rattle.dj_image_effects.proofs.Takings.{taken_alike}
use Rattle.std.proofs.Common.{Some, None, refl}
use Rattle.dj_image_effects.proofs.arrays.act_store.Goals as goal

pub returns-clause-done : goal.returns-clause-done
returns-clause-done c =
    acted_on_heap c.args.image.now _ c.args.frames.now c.store_element.new.frames c.args.heap.now c.store_element.new.heap (Some c.in-Some.flow) c.flow_acted.result _ c.flow_acted.ensures
    (λ statics literals. store_is c.args.image.now (machine c.args.frames.now (store c.args.heap.now statics literals)) (access_view c.args.access) c.takes_top-is_taken.result
    c.takes_top-is_taken.ensures)
    (c.in-Some.ensures (λ r v. c.takes_top-is_taken.result) (taken_alike c.takes_top-is_taken.result (top_operands c.args.frames.now)))

pub returns-clause-known : goal.returns-clause-known
returns-clause-known c =
    store_known (types_of (typed_of c.args.image.now)) (λ r v. c.takes_top-is_taken.result) (access_view c.args.access) c.args.frames.now c.store_element.new.frames c.args.heap.now c.store_element.new.heap
    c.in-Some.flow c.requires.known (c.in-Some.ensures (λ r v. c.takes_top-is_taken.result) (taken_alike c.takes_top-is_taken.result (top_operands c.args.frames.now)))

pub returns-in_default-clause-frugal : goal.returns-in_default-clause-frugal
returns-in_default-clause-frugal c = λ statics literals are frugal.
    never_stuck c.args.image.now _ (machine c.args.frames.now (store c.args.heap.now statics literals)) (machine c.store_element.new.frames (store c.store_element.new.heap statics literals)) frugal
    (acted_on_heap c.args.image.now _ c.args.frames.now c.store_element.new.frames c.args.heap.now c.store_element.new.heap None acts.Stuck _ refl
    (λ statics literals. store_is c.args.image.now (machine c.args.frames.now (store c.args.heap.now statics literals)) (access_view c.args.access) c.takes_top-is_taken.result
    c.takes_top-is_taken.ensures)
    (c.in_default.ensures (λ r v. c.takes_top-is_taken.result) (taken_alike c.takes_top-is_taken.result (top_operands c.args.frames.now))) statics literals are)
