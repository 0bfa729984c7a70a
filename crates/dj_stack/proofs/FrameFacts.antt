-- Frames at plain values.
use Rattle.std.proofs.Common.{◌≡◌, List, [], ◌∷◌, map, Some, None, refl, ap, arith}
use Rattle.dj_names.specs.declared.run.Value.TheVariants as values
use Rattle.dj_stack.specs.Frames.{StackFrame, most_frames, below_top, top_operands, top_locals, top_room, top_method, top_number, new_frame, frame_at, local_at, operand_at, SameFrames, SameButOperands, SameButLocals, SameButNumber}

-- the top, with the operands 8 and 9, the top being 9, and one below
abbrev top : StackFrame
top = record { method = 5; number = 3; locals = Some (values.Ref 7) ∷ None ∷ []; operands = values.Ref 9 ∷ values.Ref 8 ∷ []; room = 4 }

abbrev bottom : StackFrame
bottom = record { method = 6; number = 2; locals = []; operands = values.Ref 1 ∷ []; room = 1 }

abbrev two : List StackFrame
two = top ∷ bottom ∷ []

numbers : (top_method two ≡ 5) × (top_number two ≡ 3) × (top_room two ≡ 4) × (below_top two ≡ bottom ∷ [])
numbers = (refl, refl, refl, refl)

lists : (top_locals two ≡ Some (values.Ref 7) ∷ None ∷ []) × (top_operands two ≡ values.Ref 9 ∷ values.Ref 8 ∷ [])
lists = (refl, refl)

-- from the bottom
from_bottom : map (frame_at two) (0 ∷ 1 ∷ 2 ∷ []) ≡ Some bottom ∷ Some top ∷ None ∷ []
from_bottom = refl

-- a local variable without a value is there, and one past the last isn't
locals_from_bottom : map (local_at two 1) (0 ∷ 1 ∷ 2 ∷ []) ≡ Some (Some (values.Ref 7)) ∷ Some None ∷ None ∷ []
locals_from_bottom = refl

operands_from_bottom : map (operand_at two 1) (0 ∷ 1 ∷ 2 ∷ []) ≡ Some (values.Ref 8) ∷ Some (values.Ref 9) ∷ None ∷ []
operands_from_bottom = refl

no_frame : map (operand_at two 2) (0 ∷ []) ≡ None ∷ []
no_frame = refl

-- a new frame has no operands, and its locals have no value
fresh : new_frame 5 2 4 ≡ record { method = 5; number = 0; locals = None ∷ None ∷ []; operands = []; room = 4 }
fresh = refl

most : most_frames ≡ 1024
most = refl

-- operands may change alone
other_operands : SameButOperands two (record top { operands = [] } ∷ bottom ∷ [])
other_operands = record { frames = record { count = refl; method = refl; room = refl; below = refl }; number = refl; locals = refl }

other_locals : SameButOperands two (record top { locals = [] } ∷ bottom ∷ []) → ⊥
other_locals same = let locals = same.locals in absurd cc

other_number : SameButOperands two (record top { number = 4 } ∷ bottom ∷ []) → ⊥
other_number same = let number = same.number in absurd cc

other_room : SameButOperands two (record top { room = 5 } ∷ bottom ∷ []) → ⊥
other_room same = let room = same.frames.room in absurd cc

other_below : SameButOperands two (top ∷ []) → ⊥
other_below same = let count = same.frames.count in absurd cc

-- and likewise the locals and the number
only_locals : SameButLocals two (record top { locals = [] } ∷ bottom ∷ [])
only_locals = record { frames = record { count = refl; method = refl; room = refl; below = refl }; number = refl; operands = refl }

not_operands : SameButLocals two (record top { operands = [] } ∷ bottom ∷ []) → ⊥
not_operands same = let operands = same.operands in absurd cc

only_number : SameButNumber two (record top { number = 9 } ∷ bottom ∷ [])
only_number = record { frames = record { count = refl; method = refl; room = refl; below = refl }; operands = refl; locals = refl }

not_locals : SameButNumber two (record top { locals = [] } ∷ bottom ∷ []) → ⊥
not_locals same = let locals = same.locals in absurd cc

not_method : SameFrames two (record top { method = 9 } ∷ bottom ∷ []) → ⊥
not_method same = let method = same.method in absurd cc

not_below : SameFrames two (top ∷ top ∷ []) → ⊥
not_below same = let method : 5 ≡ 6 = ap top_method same.below in omega (arith, method)
