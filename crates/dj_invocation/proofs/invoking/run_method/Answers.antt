use Rattle.std.proofs.Common.{ℕ, List, Option, Some, sym, subst, ◌∙◌}
use Rattle.dj_names.specs.trusted.Types.{parameters_of}
use Rattle.dj_invocation.specs.declared.answers.Invoked.{Invoked}
use Rattle.dj_stack.specs.Frames.{top_operands}
use Rattle.dj_invocation.specs.Natives.{AreTyped}
use Rattle.dj_invocation.specs.Invoking.{site, Steps, Invokes}
use Rattle.dj_invocation.proofs.Sites.{native_is, native_not}
use Rattle.dj_invocation.proofs.Bodies.{native_body, native_typed, static_call, stepped, ok_then}
use Rattle.dj_invocation.proofs.invoking.run_method.Goals as goal

pub returns-in-Code : goal.returns-in-Code
returns-in-Code c = λ mode own m found there runs.
    ok_then c.enter_code.result (Steps c.args.method c.in-Code.code.now c.args.taken c.args.frames.now c.enter_code.new.frames)
    (λ (x : Invoked). Invokes (site c.args.image.now c.args.frames.now c.args.heap.now.heap mode own m) c.enter_code.new.frames (Some x))
    (λ x steps. stepped (site c.args.image.now c.args.frames.now c.args.heap.now.heap mode own m) c.args.taken c.args.count found runs c.args.method c.in-Code.code c.enter_code.new.frames x there
    c.in-Code.ensures steps)
    c.enter_code.ensures

pub are_instances-requires-clause-objects : goal.are_instances-requires-clause-objects
are_instances-requires-clause-objects c = c.are_there.ensures c.if-not-are_there.false

pub returns-then-are_instances : goal.returns-then-are_instances
returns-then-are_instances c = λ mode own m found there runs.
    let body = native_body c.args.image.now c.args.method found c.in-Native.id there c.in-Native.ensures in
    let typed = native_typed (site c.args.image.now c.args.frames.now c.args.heap.now.heap mode own m) c.args.taken c.args.count found runs c.args.method c.in-Native.id c.args.natives.now c.requires.natives there body in
    native_is (site c.args.image.now c.args.frames.now c.args.heap.now.heap mode own m) c.args.taken c.args.count found runs c.in-Native.id body
    (c.is_called_so.ensures c.if-not-is_called_so.false found there ∙ static_call (site c.args.image.now c.args.frames.now c.args.heap.now.heap mode own m) c.args.taken c.args.count found runs)
    (sym c.if-are_instances.true ∙ c.are_instances.ensures (parameters_of m.desc) (subst (λ (row : List (Option ℕ)). AreTyped c.args.image.now (top_operands c.args.frames.now) c.args.count row (parameters_of m.desc)) (sym c.classes_of.ensures) typed))

pub returns-else-are_instances : goal.returns-else-are_instances
returns-else-are_instances c = λ mode own m found there runs.
    let body = native_body c.args.image.now c.args.method found c.in-Native.id there c.in-Native.ensures in
    let typed = native_typed (site c.args.image.now c.args.frames.now c.args.heap.now.heap mode own m) c.args.taken c.args.count found runs c.args.method c.in-Native.id c.args.natives.now c.requires.natives there body in
    subst (λ (x : Invoked). Invokes (site c.args.image.now c.args.frames.now c.args.heap.now.heap mode own m) c.give_up-else-are_instances.new.frames (Some x)) (sym c.give_up-else-are_instances.ensures.invoked)
    (native_not (site c.args.image.now c.args.frames.now c.args.heap.now.heap mode own m) c.args.taken c.args.count found runs c.in-Native.id c.give_up-else-are_instances.new.frames body
    (sym c.if-are_instances.false ∙ c.are_instances.ensures (parameters_of m.desc) (subst (λ (row : List (Option ℕ)). AreTyped c.args.image.now (top_operands c.args.frames.now) c.args.count row (parameters_of m.desc)) (sym c.classes_of.ensures) typed)) c.give_up-else-are_instances.ensures.frames)
