use Rattle.std.proofs.Common.{◌≡◌, ◌-◌, ℕ, List, Option, Some, None, replicate, pos, length, get_or, take, set, refl, ap, sym, ◌∙◌, arith}
use Rattle.dj_names.specs.declared.run.Value.{Value}
use Rattle.dj_names.specs.declared.run.Value.TheVariants as values
use Rattle.dj_model.specs.trusted.Numbers.{is_long}
use Rattle.dj_model.specs.trusted.Values.{in_slots}
use Rattle.dj_model.specs.trusted.Initialisation.{padded}
use Rattle.dj_stack.specs.Frames.{top_locals}
use Rattle.dj_invocation.proofs.EnterFacts.{argument_fits, some_slot, padded_length, set_argument, slots_more, count_more, slots_within, same_locals, locals_later}
use Rattle.dj_invocation.proofs.entering.set_arguments.Goals as goal

pub loop-argument-init : goal.loop-argument-init
loop-argument-init c = record {
  slot_is = refl;
  locals = c.requires.empty ∙ ap (λ (n : ℕ). replicate n None) (let same : length (top_locals c.args.frames.now) ≡ length (top_locals c.args.frames.now) - 0 = omega arith in same);
  rest = same_locals c.args.frames.now;
}

pub set_local-requires : goal.set_local-requires
set_local-requires c =
    let d : Value = values.Int (pos 0) in
    let fits = argument_fits c.args.arguments.now c.loop-argument.argument-index d c.loop-argument-test.true in
    let some = some_slot (get_or c.args.arguments.now c.loop-argument.argument-index d) in
    let within = slots_within c.args.arguments.now c.loop-argument.argument-index in
    let most = padded_length (length (top_locals c.args.frames.now)) (in_slots is_long (take c.loop-argument.argument-index c.args.arguments.now)) (omega (arith, within, c.requires.fit)) in
    let long = ap (length {A = Option Value}) c.loop-argument.invariant.locals in
    omega (arith, fits, some, most, long, c.loop-argument.invariant.slot_is, c.requires.fit)

pub overflow_add-slot : goal.overflow_add-slot
overflow_add-slot c =
    let d : Value = values.Int (pos 0) in
    let fits = argument_fits c.args.arguments.now c.loop-argument.argument-index d c.loop-argument-test.true in
    omega (arith, fits, c.slots_of-slot.ensures, c.loop-argument.invariant.slot_is, c.requires.fit, c.requires.few)

pub loop-argument-preserved : goal.loop-argument-preserved
loop-argument-preserved c =
    let d : Value = values.Int (pos 0) in
    let v : Value = get_or c.args.arguments.now c.loop-argument.argument-index d in
    let xs : List (Option Value) = in_slots is_long (take c.loop-argument.argument-index c.args.arguments.now) in
    let most : ℕ = length (top_locals c.args.frames.now) in
    let fits = argument_fits c.args.arguments.now c.loop-argument.argument-index d c.loop-argument-test.true in
    let more = count_more c.args.arguments.now c.loop-argument.argument-index d c.loop-argument-test.true in
    record {
      slot_is = omega (arith, more, c.slots_of-slot.ensures, c.loop-argument.invariant.slot_is);
      locals = c.set_local.ensures.locals
          ∙ (ap (λ (locals : List (Option Value)). set locals c.loop-argument.slot (Some v)) c.loop-argument.invariant.locals
          ∙ (ap (λ (n : ℕ). set (padded most xs) n (Some v)) c.loop-argument.invariant.slot_is
          ∙ (set_argument most xs v (omega (arith, fits, c.requires.fit))
          ∙ ap (padded most) (sym (slots_more c.args.arguments.now c.loop-argument.argument-index d c.loop-argument-test.true)))));
      rest = locals_later c.args.frames.now c.loop-argument.frames c.set_local.new.self c.loop-argument.invariant.rest c.set_local.ensures.rest;
    }
