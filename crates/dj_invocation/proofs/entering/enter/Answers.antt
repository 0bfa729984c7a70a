use Rattle.std.proofs.Common.{rules, ◌≡◌, ◌<◌, List, ◌∷◌, length, take, drop, reverse, ap, sym, ◌∙◌, arith}
use Rattle.dj_names.specs.declared.run.Value.{Value}
use Rattle.dj_model.specs.trusted.Numbers.{is_long}
use Rattle.dj_model.specs.trusted.Values.{in_slots}
use Rattle.dj_model.specs.trusted.Initialisation.{padded}
use Rattle.dj_stack.specs.Frames.{new_frame, most_frames, top_locals, top_operands}
use Rattle.dj_invocation.proofs.OperandFacts.{frames_left}
use Rattle.dj_invocation.proofs.EnterFacts.{entered_reported, pushed_empty, pushed_length}
use Rattle.dj_invocation.proofs.entering.enter.Goals as goal

pub returns-then-depth-eq1024 : goal.returns-then-depth-eq1024
returns-then-depth-eq1024 c = (
  omega (arith, c.depth.ensures, c.if-depth-eq1024.true),
  frames_left c.args.frames.now c.drop_operands.new.frames (drop c.args.count (top_operands c.args.frames.now)) c.drop_operands.ensures.rest c.drop_operands.ensures.operands,
)

pub set_arguments-requires : goal.set_arguments-requires
set_arguments-requires c =
    let pushed : c.push.new.self ≡ new_frame c.args.room.method c.max.result c.args.room.max_stack ∷ c.drop_operands-2.new.frames = search rules in
    let long = pushed_length c.args.room.method c.max.result c.args.room.max_stack c.drop_operands-2.new.frames c.push.new.self pushed in
    let same = ap (λ (xs : List Value). length (in_slots is_long xs)) (c.deref-2.ensures.value ∙ sym c.deref.ensures.value) in
    record {
      empty = pushed_empty c.args.room.method c.max.result c.args.room.max_stack c.drop_operands-2.new.frames c.push.new.self pushed;
      fit = omega (arith, long, same, c.slot_count.ensures, c.in-Ok.ensures.1, c.max.ensures);
      few = omega (arith, long, c.max.type_inv);
    }

pub returns : goal.returns
returns c =
    let pushed : c.push.new.self ≡ new_frame c.args.room.method c.max.result c.args.room.max_stack ∷ c.drop_operands-2.new.frames = search rules in
    let room : length c.drop_operands-2.new.frames < most_frames = search rules in
    let count = c.drop_operands-2.ensures.rest.frames.count in
    let args : List Value = reverse (take c.args.count (top_operands c.args.frames.now)) in
    let first : c.deref.result.now ≡ args = c.deref.ensures.value ∙ c.in_ok-copy_operands.ensures in
    let second : c.deref-2.result.now ≡ args = c.deref-2.ensures.value ∙ c.in_ok-copy_operands.ensures in
    let slots : c.in-Ok.slots ≡ length (in_slots is_long args) = c.in-Ok.ensures.1 ∙ (c.slot_count.ensures ∙ ap (λ (xs : List Value). length (in_slots is_long xs)) first) in (
      omega (arith, room, count),
      entered_reported c.args.room.method c.args.room.max_locals c.in-Ok.slots c.max.result c.args.room.max_stack args c.args.frames.now c.drop_operands-2.new.frames c.push.new.self
          c.set_arguments.new.frames (drop c.args.count (top_operands c.args.frames.now)) c.max.ensures slots pushed c.drop_operands-2.ensures.rest c.drop_operands-2.ensures.operands
          c.set_arguments.ensures.rest
          (c.set_arguments.ensures.locals ∙ ap (λ (xs : List Value). padded (length (top_locals c.push.new.self)) (in_slots is_long xs)) second),
    )
