use Rattle.dj_numbering.specs.Typed.{types_of}
use Rattle.dj_image.specs.Imaged.{typed_of}
use Rattle.dj_initialisation.specs.Store.{store}
use Rattle.dj_stack.specs.Frames.{top_operands}
use Rattle.dj_effects.specs.Actions.{access_view}
use Rattle.dj_image_effects.specs.Acting.{machine}
use Rattle.dj_image_effects.proofs.BegunLaws.{stored_known}
use Rattle.dj_image_effects.proofs.Effects.{store_is}
use Rattle.dj_image_effects.proofs.Families.{acted_on_heap}
use Rattle.dj_image_effects.proofs.Takings.{taken_alike}
use Rattle.dj_image_effects.proofs.unnamed.store_at_once.Goals as goal

pub returns-clause-done : goal.returns-clause-done
returns-clause-done c =
    acted_on_heap c.args.image.now _ c.args.frames.now c.store_element-reported.new.frames c.args.heap.now c.store_element-reported.new.heap c.store_element-reported.result c.flow_acted.result _ c.flow_acted.ensures
    (λ statics literals. store_is c.args.image.now (machine c.args.frames.now (store c.args.heap.now statics literals)) (access_view c.args.access) c.takes_top-is_taken.result
    c.takes_top-is_taken.ensures)
    (c.store_element-reported.ensures (λ r v. c.takes_top-is_taken.result) (taken_alike c.takes_top-is_taken.result (top_operands c.args.frames.now)))

pub returns-clause-known : goal.returns-clause-known
returns-clause-known c =
    stored_known (types_of (typed_of c.args.image.now)) (λ r v. c.takes_top-is_taken.result) (access_view c.args.access) c.args.frames.now c.store_element-reported.new.frames c.args.heap.now
    c.store_element-reported.new.heap c.store_element-reported.result c.flow_acted.result c.flow_acted.ensures c.requires.known
    (c.store_element-reported.ensures (λ r v. c.takes_top-is_taken.result) (taken_alike c.takes_top-is_taken.result (top_operands c.args.frames.now)))
