-- What is there of frames: their local variables and operands, where the places are below how many there are.
use Rattle.std.proofs.Common.{◌≡◌, ℕ, suc, ◌<◌, List, [], ◌∷◌, ◌++◌, length, Option, Some, None, refl, ap, sym, ◌∙◌, arith, reverse, IsSome}
use Rattle.std.specs.Prelude.{option_map, option_and_then, slice_get}
use Rattle.std.proofs.lemmas.Grind.{reverse_onto}
use Rattle.std.proofs.lemmas.List.{length-reverse}
use Rattle.std.proofs.lemmas.Option.{same_Some}
use Rattle.dj_stack.specs.Frames.{StackFrame, frame_at, local_at, operand_at, top_locals, top_operands}
use Rattle.dj_parts_tests.proofs.Places.{some_within}

pub frame_here : (frames : List StackFrame) (f : ℕ) → f < length frames → IsSome (frame_at frames f)
frame_here frames f within = some_within (reverse frames) f (omega (arith, within, length-reverse frames))

-- ---- any frame

local_in : (found : Option StackFrame) (n at : ℕ) → option_map (λ (frame : StackFrame). length frame.locals) found ≡ Some n → at < n
    → IsSome (option_and_then (λ (frame : StackFrame). slice_get frame.locals at) found)
local_in None n at many within = absurd cc
local_in (Some frame) n at many within = let same = same_Some (length frame.locals) n many in some_within frame.locals at (omega arith)

pub local_here : (frames : List StackFrame) (f n at : ℕ) → option_map (λ (frame : StackFrame). length frame.locals) (frame_at frames f) ≡ Some n → at < n → IsSome (local_at frames f at)
local_here frames f n at many within = local_in (frame_at frames f) n at many within

operand_in : (found : Option StackFrame) (n at : ℕ) → option_map (λ (frame : StackFrame). length frame.operands) found ≡ Some n → at < n
    → IsSome (option_and_then (λ (frame : StackFrame). slice_get (reverse frame.operands) at) found)
operand_in None n at many within = absurd cc
operand_in (Some frame) n at many within = let same = same_Some (length frame.operands) n many in some_within (reverse frame.operands) at (omega (arith, same, within, length-reverse frame.operands))

pub operand_here : (frames : List StackFrame) (f n at : ℕ) → option_map (λ (frame : StackFrame). length frame.operands) (frame_at frames f) ≡ Some n → at < n → IsSome (operand_at frames f at)
operand_here frames f n at many within = operand_in (frame_at frames f) n at many within

-- ---- the top frame

at_end : (below : List StackFrame) (top : StackFrame) → slice_get (below ++ top ∷ []) (length below) ≡ Some top
at_end [] top = refl
at_end (frame ∷ below) top = at_end below top

top_at : (top : StackFrame) (below : List StackFrame) → frame_at (top ∷ below) (length below) ≡ Some top
top_at top below =
    ap (λ (frames : List StackFrame). slice_get frames (length below)) (reverse_onto below top [])
    ∙ (ap (slice_get (reverse below ++ top ∷ [])) (sym (length-reverse below)) ∙ at_end (reverse below) top)

pub top_local_here : (frames : List StackFrame) (f n at : ℕ) → length frames ≡ suc f → option_map (λ (frame : StackFrame). length frame.locals) (frame_at frames f) ≡ Some n → at < n → at < length (top_locals frames)
top_local_here [] f n at count many within = absurd (omega (arith, count))
top_local_here (top ∷ below) f n at count many within =
    let last : length below ≡ f = omega (arith, count) in
    let same = same_Some (length top.locals) n (sym (ap (option_map (λ (frame : StackFrame). length frame.locals)) (sym (ap (frame_at (top ∷ below)) last) ∙ top_at top below)) ∙ many) in
    omega (arith, same, within)

pub top_operand_here : (frames : List StackFrame) (f n : ℕ) → length frames ≡ suc f → option_map (λ (frame : StackFrame). length frame.operands) (frame_at frames f) ≡ Some n → 0 < n → 0 < length (top_operands frames)
top_operand_here [] f n count many some = absurd (omega (arith, count))
top_operand_here (top ∷ below) f n count many some =
    let last : length below ≡ f = omega (arith, count) in
    let same = same_Some (length top.operands) n (sym (ap (option_map (λ (frame : StackFrame). length frame.operands)) (sym (ap (frame_at (top ∷ below)) last) ∙ top_at top below)) ∙ many) in
    omega (arith, same, some)
