use Rattle.std.proofs.Common.{sym, subst}
use Rattle.std.specs.Prelude.{IfOk}
use Rattle.dj_model.specs.trusted.Instructions.{Instruction}
use Rattle.dj_image_effects.specs.Acting.{ActsOnHeap}
use Rattle.dj_image_effects.specs.Frugal.{FrugalOnHeap}
use Rattle.dj_image_effects.proofs.UsedFacts.{made_by_action, other_on_heap}
use Rattle.dj_image_effects.proofs.classes.act_unnamed.Goals as goal

pub act_plain-requires-clause-made : goal.act_plain-requires-clause-made
act_plain-requires-clause-made c = made_by_action c.args.image.now c.in-Some.action _ c.args.class c.in-Some.ensures c.requires.made

pub returns-in-Some-clause-done : goal.returns-in-Some-clause-done
returns-in-Some-clause-done c =
    subst (λ (i : Instruction). IfOk c.act_plain.result (λ acted. ActsOnHeap c.args.image.now i c.args.frames.now c.act_plain.new.frames c.args.heap.now c.act_plain.new.heap acted))
    (sym c.in-Some.ensures) c.act_plain.ensures.done

pub returns-in-None-clause-done : goal.returns-in-None-clause-done
returns-in-None-clause-done c = other_on_heap c.args.image.now _ c.args.frames.now c.args.heap.now c.in-None.ensures

pub returns-in-Some-clause-frugal : goal.returns-in-Some-clause-frugal
returns-in-Some-clause-frugal c =
    subst (λ (i : Instruction). FrugalOnHeap c.args.image.now i c.args.frames.now c.args.heap.now c.act_plain.result) (sym c.in-Some.ensures) c.act_plain.ensures.frugal
