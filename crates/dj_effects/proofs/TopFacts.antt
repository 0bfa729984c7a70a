-- The top frame is the last one from the bottom.
use Rattle.std.proofs.Common.{◌≡◌, ◌<◌, ℕ, ◌+◌, subst, List, [], ◌∷◌, ◌++◌, length, reverse, Some, slice_get, IsSome, refl, sym, ap, ◌∙◌, arith}
use Rattle.std.specs.Option.{option_map}
use Rattle.std.proofs.lemmas.Grind.{reverse_onto}
use Rattle.std.proofs.lemmas.List.{length-reverse}
use Rattle.dj_names.specs.declared.run.Value.{Value}
use Rattle.dj_stack.specs.Frames.{StackFrame, frame_at, frame_of, top_locals, top_operands}

at_end : (below : List StackFrame) (top : StackFrame) → slice_get (below ++ top ∷ []) (length below) ≡ Some top
at_end [] top = refl
at_end (frame ∷ below) top = at_end below top

pub last_frame : (frames : List StackFrame) (at : ℕ) → at + 1 ≡ length frames → frame_at frames at ≡ frame_of frames
last_frame [] at e = absurd (omega (arith, e))
last_frame (top ∷ below) at e =
    let count : at ≡ length below = omega (arith, e) in
    let same : at ≡ length (reverse below) = count ∙ sym (length-reverse below) in
    ap (λ frames. slice_get frames at) (reverse_onto below top []) ∙ ap (slice_get (reverse below ++ top ∷ [])) same ∙ at_end (reverse below) top

some_top : (top : StackFrame) → IsSome (Some top)
some_top top = refl

pub some_last : (frames : List StackFrame) (at : ℕ) → at + 1 ≡ length frames → IsSome (frame_at frames at)
some_last [] at e = absurd (omega (arith, e))
some_last (top ∷ below) at e = subst IsSome (sym (last_frame (top ∷ below) at e)) (some_top top)

no_frames : (frames : List StackFrame) → length frames ≡ 0 → frames ≡ []
no_frames [] e = refl
no_frames (frame ∷ below) e = absurd (omega (arith, e))

pub no_operands : (frames : List StackFrame) → length frames ≡ 0 → length (top_operands frames) ≡ 0
no_operands frames e = ap (λ all. length (top_operands all)) (no_frames frames e)

pub no_locals : (frames : List StackFrame) → length frames ≡ 0 → length (top_locals frames) ≡ 0
no_locals frames e = ap (λ all. length (top_locals all)) (no_frames frames e)

operands_of : (frames : List StackFrame) (n : ℕ) → option_map (λ (frame : StackFrame). length frame.operands) (frame_of frames) ≡ Some n → n ≡ length (top_operands frames)
operands_of [] n e = absurd cc
operands_of (top ∷ below) n e = cc

pub last_operands : (frames : List StackFrame) (at n : ℕ) → at + 1 ≡ length frames
    → option_map (λ (frame : StackFrame). length frame.operands) (frame_at frames at) ≡ Some n → n ≡ length (top_operands frames)
last_operands frames at n e found = operands_of frames n (ap (option_map (λ (frame : StackFrame). length frame.operands)) (sym (last_frame frames at e)) ∙ found)

locals_of : (frames : List StackFrame) (n : ℕ) → option_map (λ (frame : StackFrame). length frame.locals) (frame_of frames) ≡ Some n → n ≡ length (top_locals frames)
locals_of [] n e = absurd cc
locals_of (top ∷ below) n e = cc

pub last_locals : (frames : List StackFrame) (at n : ℕ) → at + 1 ≡ length frames
    → option_map (λ (frame : StackFrame). length frame.locals) (frame_at frames at) ≡ Some n → n ≡ length (top_locals frames)
last_locals frames at n e found = locals_of frames n (ap (option_map (λ (frame : StackFrame). length frame.locals)) (sym (last_frame frames at e)) ∙ found)

pub no_more : (values : List Value) → length values ≡ 0 → values ≡ []
no_more [] e = refl
no_more (v ∷ values) e = absurd (omega (arith, e))

pub some_more : (values : List Value) → (length values ≡ 0 → ⊥) → 0 < length values
some_more [] e = absurd (e refl)
some_more (v ∷ values) e = omega arith
