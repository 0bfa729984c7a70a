-- What a frame holds, at plain values.
use Rattle.std.proofs.Common.{◌≡◌, ℕ, List, [], ◌∷◌, map, reverse, get_or, Some, None, pos, refl, ap, arith}
use Rattle.std.specs.Global.{Box}
use Rattle.dj_names.specs.declared.run.Value.TheVariants as values
use Rattle.dj_stack.specs.declared.parts.Kind.TheVariants as kinds
use Rattle.dj_stack.specs.declared.wide.WideLocals.{WideLocals}
use Rattle.dj_stack.specs.declared.wide.WideOperands.{WideOperands}
use Rattle.dj_stack.specs.declared.sparse.Sparse.{Sparse}
use Rattle.dj_stack.specs.declared.stacked.Stacked.{Stacked}
use Rattle.dj_stack.specs.declared.variables.Locals.TheVariants as locals
use Rattle.dj_stack.specs.declared.operands.Operands.TheVariants as operands
use Rattle.dj_stack.specs.declared.frame.Frame.{Frame}
use Rattle.dj_stack.specs.Frames.{StackFrame}
use Rattle.dj_stack.specs.Views.{frame_view, frames_view}
use Rattle.dj_stack.specs.Held.{locals_of, values_of, room_of}

-- ---- local variables

few : (wide : WideLocals) → wide.items.items ≡ Some (values.Int (pos 7)) ∷ None ∷ [] → locals_of (locals.Wide wide) ≡ Some (values.Int (pos 7)) ∷ None ∷ []
few wide items = items

-- the second has no cell, and the cell of the last has no value
many : (sparse : Box Sparse) → sparse.value.places.items ≡ 2 ∷ 0 ∷ 1 ∷ 3 ∷ [] → sparse.value.cells.kinds.items ≡ kinds.Long ∷ kinds.Ref ∷ kinds.Empty ∷ [] → sparse.value.cells.lows.items ≡ 5 ∷ 7 ∷ 0 ∷ []
    → sparse.value.cells.highs.items ≡ 1 ∷ [] → locals_of (locals.Sparse sparse) ≡ Some (values.Ref 7) ∷ None ∷ Some (values.Long (pos 4294967301)) ∷ None ∷ []
many sparse places kinds lows highs = rw places (rw kinds (rw lows (rw highs refl)))

-- ---- operands

few_operands : (wide : WideOperands) → wide.items.items ≡ values.Int (pos 7) ∷ values.Ref 0 ∷ [] → values_of (operands.Wide wide) ≡ values.Int (pos 7) ∷ values.Ref 0 ∷ []
few_operands wide items = items

-- the bottom first
many_operands : (stacked : Box Stacked) → stacked.value.kinds.items ≡ kinds.Int ∷ kinds.Long ∷ kinds.Ref ∷ [] → stacked.value.lows.items ≡ 7 ∷ 5 ∷ 9 ∷ [] → stacked.value.highs.items ≡ 1 ∷ []
    → values_of (operands.Stacked stacked) ≡ values.Int (pos 7) ∷ values.Long (pos 4294967301) ∷ values.Ref 9 ∷ []
many_operands stacked kinds lows highs = rw kinds (rw lows (rw highs refl))

not_the_top_first : (stacked : Box Stacked) → stacked.value.kinds.items ≡ kinds.Ref ∷ kinds.Ref ∷ [] → stacked.value.lows.items ≡ 7 ∷ 9 ∷ []
    → values_of (operands.Stacked stacked) ≡ values.Ref 9 ∷ values.Ref 7 ∷ [] → ⊥
not_the_top_first stacked kinds lows same =
    let shown : values_of (operands.Stacked stacked) ≡ values.Ref 7 ∷ values.Ref 9 ∷ [] = rw kinds (rw lows refl) in
    absurd (cc (shown, same))

-- the room is what was asked for, and not how many there are
room_of_few : (wide : WideOperands) → wide.room ≡ 3 → wide.items.items ≡ values.Ref 9 ∷ [] → room_of (operands.Wide wide) ≡ 3
room_of_few wide room items = room

room_of_many : (stacked : Box Stacked) → stacked.value.room ≡ 1500 → stacked.value.kinds.items ≡ kinds.Ref ∷ [] → room_of (operands.Stacked stacked) ≡ 1500
room_of_many stacked room kinds = room

-- ---- frames

-- the top operand first
operands_of_view : (frame : Frame) → values_of frame.operands ≡ values.Ref 7 ∷ values.Ref 9 ∷ [] → (frame_view frame).operands ≡ values.Ref 9 ∷ values.Ref 7 ∷ []
operands_of_view frame operands = ap reverse operands

-- the top frame first, then those below it, which stand the lowest first
top_first : (top middle bottom : Frame) → top.method ≡ 5 → middle.method ≡ 6 → bottom.method ≡ 7
    → map (λ (frame : StackFrame). frame.method) (frames_view (Some top) (bottom ∷ middle ∷ [])) ≡ 5 ∷ 6 ∷ 7 ∷ []
top_first top middle bottom one two three = rw one (rw two (rw three refl))

no_top : (bottom : Frame) → frames_view None (bottom ∷ []) ≡ []
no_top bottom = refl

not_lowest_first : (top middle bottom : Frame) → middle.method ≡ 6 → bottom.method ≡ 7 → map (λ (frame : StackFrame). frame.method) (frames_view (Some top) (bottom ∷ middle ∷ [])) ≡ top.method ∷ 7 ∷ 6 ∷ [] → ⊥
not_lowest_first top middle bottom six seven same =
    let second : middle.method ≡ 7 = ap (λ (methods : List ℕ). get_or methods 1 0) same in
    omega (arith, six, second)
