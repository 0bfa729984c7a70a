use Rattle.std.proofs.Common.{sym, ap, subst, refl}
use Rattle.dj_initialisation.specs.Store.{store}
use Rattle.std.specs.Prelude.{IfOk}
use Rattle.dj_model.specs.trusted.Instructions.{Instruction}
use Rattle.dj_effects.specs.Actions.{action_view}
use Rattle.dj_image_effects.specs.Acting.{ActsOnHeap, machine}
use Rattle.dj_image_effects.specs.Frugal.{FrugalOnHeap}
use Rattle.dj_image_effects.proofs.Frugal.{makes_nothing}
use Rattle.dj_image_effects.proofs.Actions.{plain_acted, values_else}
use Rattle.dj_image_effects.proofs.plain.act_in_room.Goals as goal

pub returns-in-LoadElement-clause-done : goal.returns-in-LoadElement-clause-done
returns-in-LoadElement-clause-done c =
    subst (λ (i : Instruction). ActsOnHeap c.args.image.now i c.args.frames.now c.act_load.new.frames c.args.heap.now c.args.heap.now c.act_load.result) (sym (ap action_view c.in-LoadElement.is)) c.act_load.ensures

pub returns-in-StoreElement-clause-done : goal.returns-in-StoreElement-clause-done
returns-in-StoreElement-clause-done c =
    subst (λ (i : Instruction). IfOk c.act_store.result (λ acted. ActsOnHeap c.args.image.now i c.args.frames.now c.act_store.new.frames c.args.heap.now c.act_store.new.heap acted)) (sym (ap action_view c.in-StoreElement.is)) c.act_store.ensures.done

pub returns-in-ArrayLength-clause-done : goal.returns-in-ArrayLength-clause-done
returns-in-ArrayLength-clause-done c =
    subst (λ (i : Instruction). ActsOnHeap c.args.image.now i c.args.frames.now c.act_length.new.frames c.args.heap.now c.args.heap.now c.act_length.result) (sym (ap action_view c.in-ArrayLength.is)) c.act_length.ensures

pub returns-in-Throw-clause-done : goal.returns-in-Throw-clause-done
returns-in-Throw-clause-done c =
    subst (λ (i : Instruction). ActsOnHeap c.args.image.now i c.args.frames.now c.act_throw.new.frames c.args.heap.now c.args.heap.now c.act_throw.result) (sym (ap action_view c.in-Throw.is)) c.act_throw.ensures

pub returns-in_default-clause-done : goal.returns-in_default-clause-done
returns-in_default-clause-done c =
    subst (ActsOnHeap c.args.image.now _ c.args.frames.now c.act_on_values.new.frames c.args.heap.now c.args.heap.now) (sym c.way_acted.ensures)
    (plain_acted c.args.image.now c.args.action c.args.frames.now c.act_on_values.new.frames c.args.heap.now c.act_on_values.result (values_else c.args.action c.in_default.not-LoadElement c.in_default.not-StoreElement c.in_default.not-NewArray c.in_default.not-ArrayLength c.in_default.not-Throw) c.act_on_values.ensures)

pub returns-in-StoreElement-clause-frugal : goal.returns-in-StoreElement-clause-frugal
returns-in-StoreElement-clause-frugal c =
    subst (λ (i : Instruction). FrugalOnHeap c.args.image.now i c.args.frames.now c.args.heap.now c.act_store.result) (sym (ap action_view c.in-StoreElement.is)) c.act_store.ensures.frugal

pub returns-in-NewArray-clause-frugal : goal.returns-in-NewArray-clause-frugal
returns-in-NewArray-clause-frugal c = λ statics literals are frugal.
    absurd (makes_nothing c.args.image.now _ _ (machine c.args.frames.now (store c.args.heap.now statics literals)) frugal (ap action_view c.in-NewArray.is) refl)
