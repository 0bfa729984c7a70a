use Rattle.std.proofs.Common.{sym, subst, refl, ◌∙◌}
use Rattle.dj_initialisation.specs.Store.{store}
use Rattle.std.specs.Prelude.{IfOk}
use Rattle.dj_model.specs.trusted.Instructions.{Instruction}
use Rattle.dj_image_effects.specs.Acting.{ActsOnHeap, machine}
use Rattle.dj_image_effects.specs.Frugal.{FrugalOnHeap}
use Rattle.dj_image_effects.proofs.Frugal.{makes_nothing}
use Rattle.dj_image_effects.proofs.UsedFacts.{class_within, new_named, array_class, cast_class, instance_class, plain_made, plain_is, other_is, other_on_heap}
use Rattle.dj_image_effects.proofs.classes.act_class.Goals as goal

pub act_new-requires-clause-within : goal.act_new-requires-clause-within
act_new-requires-clause-within c = class_within c.args.image.now c.args.instr.now c.args.class c.requires.used.0 c.requires.used.1

pub returns-in-New-clause-done : goal.returns-in-New-clause-done
returns-in-New-clause-done c = λ named used.
    let t = new_named c.args.image.now c.args.instr.now c.args.class named used (sym c.class_use.ensures ∙ c.in-New.is) in
    subst (λ (i : Instruction). IfOk c.act_new.result (λ acted. ActsOnHeap c.args.image.now i c.args.frames.now c.act_new.new.frames c.args.heap.now c.act_new.new.heap acted)) (sym t.1)
    (c.act_new.ensures.done t.0 t.2)

pub returns-in-New-clause-known : goal.returns-in-New-clause-known
returns-in-New-clause-known c =
    let t = new_named c.args.image.now c.args.instr.now c.args.class c.requires.used.0 c.requires.used.1 (sym c.class_use.ensures ∙ c.in-New.is) in
    c.act_new.ensures.known t.0 t.2

pub act_new_array-requires-clause-within : goal.act_new_array-requires-clause-within
act_new_array-requires-clause-within c = class_within c.args.image.now c.args.instr.now c.args.class c.requires.used.0 c.requires.used.1

pub returns-in-NewArray-clause-done : goal.returns-in-NewArray-clause-done
returns-in-NewArray-clause-done c = λ named used.
    let t = array_class c.args.image.now c.args.instr.now c.args.class named used c.requires.plain (sym c.class_use.ensures ∙ c.in-NewArray.is) in
    subst (λ (i : Instruction). IfOk c.act_new_array.result (λ acted. ActsOnHeap c.args.image.now i c.args.frames.now c.act_new_array.new.frames c.args.heap.now c.act_new_array.new.heap acted)) (sym t.1)
    (c.act_new_array.ensures.done t.0 t.2)

pub act_cast-requires-clause-class : goal.act_cast-requires-clause-class
act_cast-requires-clause-class c = class_within c.args.image.now c.args.instr.now c.args.class c.requires.used.0 c.requires.used.1

pub returns-in-Cast-clause-done : goal.returns-in-Cast-clause-done
returns-in-Cast-clause-done c = λ named used.
    let t = cast_class c.args.image.now c.args.instr.now c.args.class named used c.requires.plain (sym c.class_use.ensures ∙ c.in-Cast.is) in
    subst (λ (i : Instruction). ActsOnHeap c.args.image.now i c.args.frames.now c.act_cast.new.frames c.args.heap.now c.args.heap.now c.act_cast.result) (sym t.1)
    (c.act_cast.ensures t.0 t.2)

pub act_instance-requires-clause-class : goal.act_instance-requires-clause-class
act_instance-requires-clause-class c = class_within c.args.image.now c.args.instr.now c.args.class c.requires.used.0 c.requires.used.1

pub returns-in-Instance-clause-done : goal.returns-in-Instance-clause-done
returns-in-Instance-clause-done c = λ named used.
    let t = instance_class c.args.image.now c.args.instr.now c.args.class named used c.requires.plain (sym c.class_use.ensures ∙ c.in-Instance.is) in
    subst (λ (i : Instruction). ActsOnHeap c.args.image.now i c.args.frames.now c.act_instance.new.frames c.args.heap.now c.args.heap.now c.act_instance.result) (sym t.1)
    (c.act_instance.ensures t.0 t.2)

pub act_unnamed-requires-clause-made : goal.act_unnamed-requires-clause-made
act_unnamed-requires-clause-made c =
    plain_made c.args.image.now c.args.instr.now c.args.class c.requires.used.0 c.requires.used.1 c.requires.plain (sym c.class_use.ensures ∙ c.in-Plain.is)

pub returns-in-Plain-clause-done : goal.returns-in-Plain-clause-done
returns-in-Plain-clause-done c = λ named used.
    subst (λ (i : Instruction). IfOk c.act_unnamed.result (λ acted. ActsOnHeap c.args.image.now i c.args.frames.now c.act_unnamed.new.frames c.args.heap.now c.act_unnamed.new.heap acted))
    (sym (plain_is c.args.image.now c.args.instr.now c.args.class named used (sym c.class_use.ensures ∙ c.in-Plain.is))) c.act_unnamed.ensures.done

pub returns-in-Other-clause-done : goal.returns-in-Other-clause-done
returns-in-Other-clause-done c = λ named used.
    other_on_heap c.args.image.now _ c.args.frames.now c.args.heap.now
    (other_is c.args.image.now c.args.instr.now c.args.class named used (sym c.class_use.ensures ∙ c.in-Other.is))

pub returns-in-New-clause-frugal : goal.returns-in-New-clause-frugal
returns-in-New-clause-frugal c = λ named used statics literals are frugal.
    absurd (makes_nothing c.args.image.now _ _ (machine c.args.frames.now (store c.args.heap.now statics literals)) frugal
    (new_named c.args.image.now c.args.instr.now c.args.class named used (sym c.class_use.ensures ∙ c.in-New.is)).1 refl)

pub returns-in-NewArray-clause-frugal : goal.returns-in-NewArray-clause-frugal
returns-in-NewArray-clause-frugal c = λ named used statics literals are frugal.
    absurd (makes_nothing c.args.image.now _ _ (machine c.args.frames.now (store c.args.heap.now statics literals)) frugal
    (array_class c.args.image.now c.args.instr.now c.args.class named used c.requires.plain (sym c.class_use.ensures ∙ c.in-NewArray.is)).1 refl)

pub returns-in-Plain-clause-frugal : goal.returns-in-Plain-clause-frugal
returns-in-Plain-clause-frugal c = λ named used.
    subst (λ (i : Instruction). FrugalOnHeap c.args.image.now i c.args.frames.now c.args.heap.now c.act_unnamed.result)
    (sym (plain_is c.args.image.now c.args.instr.now c.args.class named used (sym c.class_use.ensures ∙ c.in-Plain.is))) c.act_unnamed.ensures.frugal
