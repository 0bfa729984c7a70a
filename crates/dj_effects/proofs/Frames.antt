-- What a call and another one after it leave as it was.
use Rattle.std.proofs.Common.{◌≡◌, List, Option, Some, sym, ap, ◌∙◌}
use Rattle.dj_names.specs.declared.run.Value.{Value}
use Rattle.dj_model.specs.trusted.Instructions.{Instruction}
use Rattle.dj_model.specs.trusted.State.{Next}
use Rattle.dj_model.specs.trusted.Values.{left, on_values}
use Rattle.dj_stack.specs.Frames.{StackFrame, SameButOperands, top_locals, top_operands}
use Rattle.dj_effects.specs.declared.way.Way.TheVariants as ways
use Rattle.dj_effects.specs.Does.{Does}

pub both_same : (first second third : List StackFrame) → SameButOperands first second → SameButOperands second third → SameButOperands first third
both_same first second third e f = record {
  frames = record {
    count = f.frames.count ∙ e.frames.count;
    method = f.frames.method ∙ e.frames.method;
    room = f.frames.room ∙ e.frames.room;
    below = f.frames.below ∙ e.frames.below;
  };
  number = f.number ∙ e.number;
  locals = f.locals ∙ e.locals;
}

-- other operands are left alone, and the run just goes on
pub does_next : (i : Instruction) (old new : List StackFrame) (after : List Value) → SameButOperands old new → top_operands new ≡ after
    → on_values i (top_locals old) (top_operands old) ≡ Some (left (top_locals old) after Next) → Does i old new (Some ways.Next)
does_next i old new after same is e = record {
  effect = e ∙ (ap (λ (locals : List (Option Value)). Some (left locals after Next)) (sym same.locals)
      ∙ ap (λ (operands : List Value). Some (left (top_locals new) operands Next)) (sym is));
  frames = same.frames;
  number = same.number;
}
