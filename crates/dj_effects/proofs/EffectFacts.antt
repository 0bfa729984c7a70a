-- What is said of effects, at plain values.
use Rattle.std.proofs.Common.{◌≡◌, ℕ, true, false, pos, negsuc, List, [], ◌∷◌, map, Option, Some, None, refl, ap, arith}
use Rattle.std.specs.Int.{int_wrap}
use Rattle.dj_names.specs.declared.descriptor.Kind.TheVariants as kinds
use Rattle.dj_names.specs.declared.run.Value.{Value}
use Rattle.dj_names.specs.declared.run.Value.TheVariants as values
use Rattle.dj_names.specs.declared.run.Raised.TheVariants as raises
use Rattle.dj_model.specs.trusted.Instructions as model
use Rattle.dj_model.specs.trusted.Numbers.{compute}
use Rattle.dj_model.specs.trusted.State as states
use Rattle.dj_model.specs.trusted.Values.{Values, left, on_values}
use Rattle.dj_stack.specs.Frames.{StackFrame}
use Rattle.dj_effects.specs.declared.actions.Slots.TheVariants as slots
use Rattle.dj_effects.specs.declared.actions.Movement.TheVariants as moves
use Rattle.dj_effects.specs.declared.actions.Operation.TheVariants as operations
use Rattle.dj_effects.specs.declared.actions.Shift.TheVariants as shifts
use Rattle.dj_effects.specs.declared.actions.BinaryOperation.TheVariants as binary
use Rattle.dj_effects.specs.declared.actions.UnaryOperation.TheVariants as unary
use Rattle.dj_effects.specs.declared.actions.Condition.TheVariants as conditions
use Rattle.dj_effects.specs.declared.actions.Test.TheVariants as tests
use Rattle.dj_effects.specs.declared.actions.Access.TheVariants as accesses
use Rattle.dj_effects.specs.declared.actions.PlainAction.TheVariants as actions
use Rattle.dj_effects.specs.declared.way.Way.TheVariants as ways
use Rattle.dj_effects.specs.Actions.{access_view, binary_view, move_view, test_view, unary_view, IsActionOf}
use Rattle.dj_effects.specs.Does.{Does, Fits}

-- ---- actions

movements : map move_view (moves.Drop slots.One ∷ moves.Drop slots.Two ∷ moves.Double slots.One ∷ moves.Double slots.Two ∷ moves.Swap ∷ [])
    ≡ model.Pop ∷ model.Pop2 ∷ model.Dup ∷ model.Dup2 ∷ model.Swap ∷ []
movements = refl

-- the first is what is put, and the second is what it is put under
movements_under : map move_view (moves.Under slots.One slots.One ∷ moves.Under slots.One slots.Two ∷ moves.Under slots.Two slots.One ∷ moves.Under slots.Two slots.Two ∷ [])
    ≡ model.DupX1 ∷ model.DupX2 ∷ model.Dup2X1 ∷ model.Dup2X2 ∷ []
movements_under = refl

operations_of_ints : map (λ operation. binary_view (binary.Ints operation))
    (operations.Add ∷ operations.Subtract ∷ operations.Multiply ∷ operations.Divide ∷ operations.Remainder ∷ operations.And ∷ operations.Or ∷ operations.Xor ∷ [])
    ≡ model.Add kinds.Int ∷ model.Subtract kinds.Int ∷ model.Multiply kinds.Int ∷ model.Divide kinds.Int ∷ model.Remainder kinds.Int ∷ model.And kinds.Int ∷ model.Or kinds.Int
    ∷ model.Xor kinds.Int ∷ []
operations_of_ints = refl

shifts_of_longs : map (λ shift. binary_view (binary.ShiftLong shift)) (shifts.Left ∷ shifts.Right ∷ shifts.RightUnsigned ∷ [])
    ≡ model.ShiftLeft kinds.Long ∷ model.ShiftRight kinds.Long ∷ model.ShiftRightUnsigned kinds.Long ∷ []
shifts_of_longs = refl

conversions : map unary_view (unary.NegateLong ∷ unary.IntToLong ∷ unary.LongToInt ∷ unary.IntToByte ∷ unary.IntToChar ∷ unary.IntToShort ∷ [])
    ≡ model.Negate kinds.Long ∷ model.IntToLong ∷ model.LongToInt ∷ model.IntToByte ∷ model.IntToChar ∷ model.IntToShort ∷ []
conversions = refl

jumps : map test_view (tests.WithZero conditions.Less ∷ tests.OfInts conditions.GreaterOrEqual ∷ tests.OfReferences true ∷ tests.OfNull false ∷ [])
    ≡ model.WithZero model.Less ∷ model.OfInts model.GreaterOrEqual ∷ model.OfReferences true ∷ model.OfNull false ∷ []
jumps = refl

arrays : map access_view (accesses.Bytes ∷ accesses.Chars ∷ accesses.Shorts ∷ accesses.Ints ∷ accesses.Longs ∷ accesses.References ∷ [])
    ≡ model.Bytes ∷ model.Chars ∷ model.Shorts ∷ model.Ints ∷ model.Longs ∷ model.References ∷ []
arrays = refl

pushed : IsActionOf (Some (actions.Push (values.Int (pos 5)))) (model.Push (values.Int (pos 5)))
pushed = refl

pushed_another : IsActionOf (Some (actions.Push (values.Int (pos 5)))) (model.Push (values.Int (pos 6))) → ⊥
pushed_another e = absurd cc

not_run : IsActionOf None (model.Other 168 model.Nothing)
not_run = refl

-- an instruction that is run has an action
run : IsActionOf None model.ArrayLength → ⊥
run e = absurd cc

not_run_so : IsActionOf (Some actions.Nop) (model.Other 168 model.Nothing) → ⊥
not_run_so e = absurd cc

-- ---- the parts of an effect

abbrev operands_reported : Option Values → List Value
operands_reported None = []
operands_reported (Some v) = v.operands

abbrev locals_reported : Option Values → List (Option Value)
locals_reported None = []
locals_reported (Some v) = v.locals

abbrev way_reported : Option Values → states.Way
way_reported None = states.Next
way_reported (Some v) = v.way

-- ---- effects on values

-- a frame with room for two operands, above one that waits
abbrev frames : ℕ → List (Option Value) → List Value → List StackFrame
frames number locals operands =
    record { method = 3; number = number; locals = locals; operands = operands; room = 2 }
    ∷ record { method = 1; number = 4; locals = []; operands = values.Ref 1 ∷ []; room = 1 } ∷ []

abbrev two : List Value
two = values.Int (pos 4) ∷ values.Int (pos 9) ∷ []

-- the top operand is subtracted from the one below it
subtracted : Does (model.Compute (model.Subtract kinds.Int)) (frames 7 [] two) (frames 7 [] (values.Int (pos 5) ∷ [])) (Some ways.Next)
unfolding on_values compute int_wrap
subtracted = record { effect = refl; frames = record { count = refl; method = refl; room = refl; below = refl }; number = refl }

swapped_apart : Some (left [] (values.Int (pos 5) ∷ []) states.Next) ≡ Some (left [] (values.Int (negsuc 4) ∷ []) states.Next) → ⊥
swapped_apart e = let same : values.Int (pos 5) ∷ [] ≡ values.Int (negsuc 4) ∷ [] = ap operands_reported e in absurd cc

swapped : Does (model.Compute (model.Subtract kinds.Int)) (frames 7 [] two) (frames 7 [] (values.Int (negsuc 4) ∷ [])) (Some ways.Next) → ⊥
unfolding on_values compute int_wrap
swapped does = swapped_apart does.effect

not_taken_apart : Some (left [] (values.Int (pos 5) ∷ []) states.Next) ≡ Some (left [] (values.Int (pos 5) ∷ values.Int (pos 9) ∷ []) states.Next) → ⊥
not_taken_apart e = let same : values.Int (pos 5) ∷ [] ≡ values.Int (pos 5) ∷ values.Int (pos 9) ∷ [] = ap operands_reported e in absurd cc

not_taken : Does (model.Compute (model.Subtract kinds.Int)) (frames 7 [] two) (frames 7 [] (values.Int (pos 5) ∷ values.Int (pos 9) ∷ [])) (Some ways.Next) → ⊥
unfolding on_values compute int_wrap
not_taken does = not_taken_apart does.effect

-- it has an effect, and it goes on at the next instruction, whose number the frame doesn't have yet
no_effect_apart : Some (left [] (values.Int (pos 5) ∷ []) states.Next) ≡ None → ⊥
no_effect_apart e = absurd cc

no_effect : Does (model.Compute (model.Subtract kinds.Int)) (frames 7 [] two) (frames 7 [] (values.Int (pos 5) ∷ [])) None → ⊥
unfolding on_values compute int_wrap
no_effect does = no_effect_apart does.effect

elsewhere_apart : Some (left [] (values.Int (pos 5) ∷ []) states.Next) ≡ Some (left [] (values.Int (pos 5) ∷ []) (states.To 8)) → ⊥
elsewhere_apart e = let same : states.Next ≡ states.To 8 = ap way_reported e in absurd cc

elsewhere : Does (model.Compute (model.Subtract kinds.Int)) (frames 7 [] two) (frames 7 [] (values.Int (pos 5) ∷ [])) (Some (ways.To 8)) → ⊥
unfolding on_values compute int_wrap
elsewhere does = elsewhere_apart does.effect

moved_on : Does model.Nop (frames 7 [] two) (frames 8 [] two) (Some ways.Next) → ⊥
moved_on does = let e = does.number in absurd cc

-- locals are compared too
other_local_apart : Some (left (Some (values.Int (pos 4)) ∷ []) (values.Int (pos 9) ∷ []) states.Next) ≡ Some (left (Some (values.Int (pos 9)) ∷ []) (values.Int (pos 9) ∷ []) states.Next) → ⊥
other_local_apart e = let same : Some (values.Int (pos 4)) ∷ [] ≡ Some (values.Int (pos 9)) ∷ [] = ap locals_reported e in absurd cc

other_local : Does (model.Store kinds.Int 0) (frames 7 (None ∷ []) two) (frames 7 (Some (values.Int (pos 9)) ∷ []) (values.Int (pos 9) ∷ [])) (Some ways.Next) → ⊥
unfolding on_values
other_local does = other_local_apart does.effect

-- a long takes two slots, and the second has no value
long_stored : Does (model.Store kinds.Long 0) (frames 7 (None ∷ Some (values.Int (pos 2)) ∷ []) (values.Long (pos 9) ∷ [])) (frames 7 (Some (values.Long (pos 9)) ∷ None ∷ []) []) (Some ways.Next)
unfolding on_values
long_stored = record { effect = refl; frames = record { count = refl; method = refl; room = refl; below = refl }; number = refl }

long_in_one_slot_apart : Some (left (Some (values.Long (pos 9)) ∷ None ∷ []) [] states.Next) ≡ Some (left (Some (values.Long (pos 9)) ∷ Some (values.Int (pos 2)) ∷ []) [] states.Next) → ⊥
long_in_one_slot_apart e = let same : Some (values.Long (pos 9)) ∷ None ∷ [] ≡ Some (values.Long (pos 9)) ∷ Some (values.Int (pos 2)) ∷ [] = ap locals_reported e in absurd cc

long_in_one_slot : Does (model.Store kinds.Long 0) (frames 7 (None ∷ Some (values.Int (pos 2)) ∷ []) (values.Long (pos 9) ∷ []))
    (frames 7 (Some (values.Long (pos 9)) ∷ Some (values.Int (pos 2)) ∷ []) []) (Some ways.Next) → ⊥
unfolding on_values
long_in_one_slot does = long_in_one_slot_apart does.effect

-- where something is raised, what was taken doesn't matter
divided : (left : List Value) → Does (model.Compute (model.Divide kinds.Int)) (frames 7 [] (values.Int (pos 0) ∷ values.Int (pos 9) ∷ [])) (frames 7 [] left) (Some (ways.Raise raises.Arithmetic))
unfolding on_values compute
divided left = record { effect = refl; frames = record { count = refl; method = refl; room = refl; below = refl }; number = refl }

divided_on_apart : Some (left [] (values.Int (pos 0) ∷ values.Int (pos 9) ∷ []) (states.Raise raises.Arithmetic)) ≡ Some (left [] (values.Int (pos 0) ∷ []) states.Next) → ⊥
divided_on_apart e = let same : states.Raise raises.Arithmetic ≡ states.Next = ap way_reported e in absurd cc

divided_on : Does (model.Compute (model.Divide kinds.Int)) (frames 7 [] (values.Int (pos 0) ∷ values.Int (pos 9) ∷ [])) (frames 7 [] (values.Int (pos 0) ∷ [])) (Some ways.Next) → ⊥
unfolding on_values compute
divided_on does = divided_on_apart does.effect

-- the wrong kind is taken by none
wrong_kind : Does (model.Return (Some kinds.Long)) (frames 7 [] two) (frames 7 [] []) None
unfolding on_values
wrong_kind = record { effect = refl; frames = record { count = refl; method = refl; room = refl; below = refl }; number = refl }

returned : Does (model.Return (Some kinds.Int)) (frames 7 [] two) (frames 7 [] (values.Int (pos 9) ∷ [])) (Some (ways.Back (Some (values.Int (pos 4)))))
unfolding on_values
returned = record { effect = refl; frames = record { count = refl; method = refl; room = refl; below = refl }; number = refl }

returned_another_apart : Some (left [] (values.Int (pos 9) ∷ []) (states.Back (Some (values.Int (pos 4))))) ≡ Some (left [] (values.Int (pos 9) ∷ []) (states.Back (Some (values.Int (pos 9))))) → ⊥
returned_another_apart e = let same : states.Back (Some (values.Int (pos 4))) ≡ states.Back (Some (values.Int (pos 9))) = ap way_reported e in absurd cc

returned_another : Does (model.Return (Some kinds.Int)) (frames 7 [] two) (frames 7 [] (values.Int (pos 9) ∷ [])) (Some (ways.Back (Some (values.Int (pos 9))))) → ⊥
unfolding on_values
returned_another does = returned_another_apart does.effect

-- ---- room

fits : Fits (model.Push (values.Int (pos 1))) (frames 7 [] (values.Int (pos 4) ∷ []))
unfolding on_values
fits = omega arith

-- two operands have no room for a third
too_many : Fits (model.Push (values.Int (pos 1))) (frames 7 [] two) → ⊥
unfolding on_values
too_many e = omega (arith, e)
