-- The top frame by its number, and what is left of it.
use Rattle.std.proofs.Common.{◌≡◌, ◌<◌, ℕ, zero, suc, ◌+◌, List, [], ◌∷◌, ◌++◌, length, reverse, Some, None, IsSome, refl, sym, ap, ◌∙◌, subst, arith}
use Rattle.std.specs.Prelude.{slice_get}
use Rattle.std.specs.Option.{option_map}
use Rattle.std.proofs.lemmas.Grind.{reverse_onto}
use Rattle.std.proofs.lemmas.List.{length-reverse}
use Rattle.dj_names.specs.declared.run.Value.{Value}
use Rattle.dj_stack.specs.Frames.{StackFrame, SameButOperands, SameButNumber, frame_at, top_method, top_number, top_operands, top_room}
use Rattle.dj_unwinding.specs.Resuming.{Resumes}

-- ---- the top frame has the greatest number

at_end : (frames : List StackFrame) (f : StackFrame) (n : ℕ) → n ≡ length frames → slice_get (frames ++ f ∷ []) n ≡ Some f
at_end [] f zero e = refl
at_end [] f (suc n) e = absurd (omega (arith, e))
at_end (g ∷ frames) f zero e = absurd (omega (arith, e))
at_end (g ∷ frames) f (suc n) e = at_end frames f n (omega (arith, e))

pub on_top : (f : StackFrame) (below : List StackFrame) (n : ℕ) → n ≡ length below → frame_at (f ∷ below) n ≡ Some f
on_top f below n e =
    let long = length-reverse below in
    ap (λ (frames : List StackFrame). slice_get frames n) (reverse_onto below f []) ∙ at_end (reverse below) f n (omega (arith, e, long))

pub top_there : (frames : List StackFrame) (n : ℕ) → n + 1 ≡ length frames → IsSome (frame_at frames n)
top_there [] n e = absurd (omega (arith, e))
top_there (f ∷ below) n e = subst IsSome (sym (on_top f below n (omega (arith, e)))) refl

pub method_on_top : (frames : List StackFrame) (n method : ℕ) → n + 1 ≡ length frames → option_map (λ (frame : StackFrame). frame.method) (frame_at frames n) ≡ Some method
    → method ≡ top_method frames
method_on_top [] n method e is = absurd (omega (arith, e))
method_on_top (f ∷ below) n method e is =
    let same : Some f.method ≡ Some method = sym (ap (option_map (λ (frame : StackFrame). frame.method)) (on_top f below n (omega (arith, e)))) ∙ is in cc

pub number_on_top : (frames : List StackFrame) (n number : ℕ) → n + 1 ≡ length frames → option_map (λ (frame : StackFrame). frame.number) (frame_at frames n) ≡ Some number
    → number ≡ top_number frames
number_on_top [] n number e is = absurd (omega (arith, e))
number_on_top (f ∷ below) n number e is =
    let same : Some f.number ≡ Some number = sym (ap (option_map (λ (frame : StackFrame). frame.number)) (on_top f below n (omega (arith, e)))) ∙ is in cc

-- ---- a frame whose call is done

pub room_left : (old mid : List StackFrame) → SameButNumber old mid → length (top_operands old) < top_room old → length (top_operands mid) < top_room mid
room_left old mid same room =
    let operands = same.operands in
    let as_much = same.frames.room in
    subst (λ (r : ℕ). length (top_operands mid) < r) (sym as_much) (subst (λ (os : List Value). length os < top_room old) (sym operands) room)

pub resumed_without : (old new : List StackFrame) → SameButNumber old new → top_number new ≡ top_number old + 1 → Resumes old new None
resumed_without old new same number = record { frames = same.frames; number = number; locals = same.locals; operands = same.operands }

pub resumed_with : (old mid new : List StackFrame) (value : Value) → SameButNumber old mid → top_number mid ≡ top_number old + 1 → SameButOperands mid new
    → top_operands new ≡ value ∷ top_operands mid → Resumes old new (Some value)
resumed_with old mid new value first number second operands = record {
  frames = record {
    count = second.frames.count ∙ first.frames.count;
    method = second.frames.method ∙ first.frames.method;
    room = second.frames.room ∙ first.frames.room;
    below = second.frames.below ∙ first.frames.below;
  };
  number = second.number ∙ number;
  locals = second.locals ∙ first.locals;
  operands = operands ∙ ap (λ (os : List Value). value ∷ os) first.operands;
}
