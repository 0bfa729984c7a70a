-- Numbers that instructions name are pushed.
use Rattle.std.proofs.Common.{◌≡◌, ◌+◌, ◌≤◌, List, length, Option, Some, None, sym, subst, arith}
use Rattle.dj_names.specs.declared.run.Value.{Value}
use Rattle.dj_model.specs.trusted.Instructions.{Nop, Push}
use Rattle.dj_model.specs.trusted.Values.{on_values}
use Rattle.dj_stack.specs.Frames.{StackFrame, top_operands, top_room}
use Rattle.dj_effects.specs.Does.{Does, Fits}
use Rattle.dj_effects.specs.declared.way.Way.{Way}
use Rattle.dj_image.specs.declared.operand.Operand.{Operand}
use Rattle.dj_image_effects.specs.Numbers.{literal_push, literal_value, push_of}

push_room : (o : Option Value) (frames : List StackFrame) → length (top_operands frames) + 1 ≤ top_room frames → Fits (push_of o) frames
unfolding on_values
push_room None frames le = omega (arith, le)
push_room (Some v) frames le = omega (arith, le)

pub literal_room : (operand : Operand) (frames : List StackFrame) → length (top_operands frames) + 1 ≤ top_room frames → Fits (literal_push operand) frames
literal_room operand frames le = push_room (literal_value operand) frames le

pub fits_value : (operand : Operand) (v : Value) (frames : List StackFrame) → Some v ≡ literal_value operand → Fits (literal_push operand) frames → Fits (Push v) frames
fits_value operand v frames is fits = subst (λ (o : Option Value). Fits (push_of o) frames) (sym is) fits

pub pushed_value : (operand : Operand) (v : Value) (old new : List StackFrame) (way : Option Way) → Some v ≡ literal_value operand → Does (Push v) old new way → Does (literal_push operand) old new way
pushed_value operand v old new way is does = subst (λ (o : Option Value). Does (push_of o) old new way) is does

pub no_value : (operand : Operand) (old new : List StackFrame) (way : Option Way) → None ≡ literal_value operand → Does Nop old new way → Does (literal_push operand) old new way
no_value operand old new way is does = subst (λ (o : Option Value). Does (push_of o) old new way) is does
