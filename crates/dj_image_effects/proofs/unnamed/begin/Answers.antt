use Rattle.std.proofs.Common.{sym, ap, subst, ◌∙◌, arith}
use Rattle.dj_model.specs.trusted.Instructions.{Instruction}
use Rattle.dj_effects.specs.Actions.{action_view}
use Rattle.dj_numbering.specs.Typed.{types_of}
use Rattle.dj_image.specs.Imaged.{typed_of}
use Rattle.dj_image_effects.specs.Acting.{ActsOnHeap}
use Rattle.dj_image_effects.specs.Begun.{BeginsBy}
use Rattle.dj_image_effects.proofs.Actions.{plain_acted, values_else}
use Rattle.dj_image_effects.proofs.BegunLaws.{begun_by, still_known}
use Rattle.dj_image_effects.proofs.unnamed.begin.Goals as goal

pub returns-in-LoadElement-clause-begins : goal.returns-in-LoadElement-clause-begins
returns-in-LoadElement-clause-begins c =
    subst (λ (i : Instruction). BeginsBy c.args.image.now i c.args.frames.now c.begin_load.new.frames c.args.heap.now c.args.heap.now c.begin_load.result) (sym (ap action_view c.in-LoadElement.is)) c.begin_load.ensures

pub returns-in-LoadElement-clause-known : goal.returns-in-LoadElement-clause-known
returns-in-LoadElement-clause-known c = still_known (types_of (typed_of c.args.image.now)) c.args.heap.now c.begin_load.result c.requires.known

pub returns-in-StoreElement-clause-begins : goal.returns-in-StoreElement-clause-begins
returns-in-StoreElement-clause-begins c =
    subst (λ (i : Instruction). BeginsBy c.args.image.now i c.args.frames.now c.begin_store.new.frames c.args.heap.now c.begin_store.new.heap c.begin_store.result) (sym (ap action_view c.in-StoreElement.is)) c.begin_store.ensures.begins

pub returns-in-ArrayLength-clause-begins : goal.returns-in-ArrayLength-clause-begins
returns-in-ArrayLength-clause-begins c =
    subst (λ (i : Instruction). BeginsBy c.args.image.now i c.args.frames.now c.begin_length.new.frames c.args.heap.now c.args.heap.now c.begin_length.result) (sym (ap action_view c.in-ArrayLength.is)) c.begin_length.ensures

pub returns-in-ArrayLength-clause-known : goal.returns-in-ArrayLength-clause-known
returns-in-ArrayLength-clause-known c = still_known (types_of (typed_of c.args.image.now)) c.args.heap.now c.begin_length.result c.requires.known

pub follow-requires-clause-some : goal.follow-requires-clause-some
follow-requires-clause-some c = let count = c.act_on_values.ensures.frames.count in let some = c.requires.some in omega (arith, count, some)

pub follow-requires-clause-number : goal.follow-requires-clause-number
follow-requires-clause-number c = c.requires.number ∙ sym c.act_on_values.ensures.number

pub returns-else-not-has_room-clause-begins : goal.returns-else-not-has_room-clause-begins
returns-else-not-has_room-clause-begins c =
    begun_by c.args.image.now (action_view c.args.action) c.args.frames.now c.act_on_values.new.frames c.follow.new.frames c.args.heap.now c.args.heap.now c.way_acted-acted.result c.follow.result
    (subst (ActsOnHeap c.args.image.now (action_view c.args.action) c.args.frames.now c.act_on_values.new.frames c.args.heap.now c.args.heap.now) (sym c.way_acted-acted.ensures)
    (plain_acted c.args.image.now c.args.action c.args.frames.now c.act_on_values.new.frames c.args.heap.now c.act_on_values.result (values_else c.args.action c.in_default.not-LoadElement c.in_default.not-StoreElement c.in_default.not-NewArray c.in_default.not-ArrayLength c.in_default.not-Throw) c.act_on_values.ensures))
    c.follow.ensures

pub returns-else-not-has_room-clause-known : goal.returns-else-not-has_room-clause-known
returns-else-not-has_room-clause-known c = still_known (types_of (typed_of c.args.image.now)) c.args.heap.now c.follow.result c.requires.known
