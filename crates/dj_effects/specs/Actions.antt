-- What the code's actions are in the model.
use Rattle.std.specs.Prelude.{◌≡◌, Bool, true, false, Option, Some, None}
use Rattle.dj_names.specs.declared.descriptor.Kind.{Kind}
use Rattle.dj_names.specs.declared.descriptor.Kind.TheVariants as kinds
use Rattle.dj_names.specs.trusted.Types.{base_array}
use Rattle.dj_model.specs.trusted.Instructions as model
use Rattle.dj_model.specs.trusted.Instructions.{Instruction}
use Rattle.dj_model.specs.trusted.Opcodes.{table_pairs, lookup_pairs}
use Rattle.dj_effects.specs.declared.actions.Slots.TheVariants as slots
use Rattle.dj_effects.specs.declared.actions.Movement.{Movement}
use Rattle.dj_effects.specs.declared.actions.Movement.TheVariants as moves
use Rattle.dj_effects.specs.declared.actions.Operation.{Operation}
use Rattle.dj_effects.specs.declared.actions.Operation.TheVariants as operations
use Rattle.dj_effects.specs.declared.actions.Shift.{Shift}
use Rattle.dj_effects.specs.declared.actions.Shift.TheVariants as shifts
use Rattle.dj_effects.specs.declared.actions.BinaryOperation.{BinaryOperation}
use Rattle.dj_effects.specs.declared.actions.BinaryOperation.TheVariants as binary
use Rattle.dj_effects.specs.declared.actions.UnaryOperation.{UnaryOperation}
use Rattle.dj_effects.specs.declared.actions.UnaryOperation.TheVariants as unary
use Rattle.dj_effects.specs.declared.actions.Condition.{Condition}
use Rattle.dj_effects.specs.declared.actions.Condition.TheVariants as conditions
use Rattle.dj_effects.specs.declared.actions.Test.{Test}
use Rattle.dj_effects.specs.declared.actions.Test.TheVariants as tests
use Rattle.dj_effects.specs.declared.actions.Access.{Access}
use Rattle.dj_effects.specs.declared.actions.Access.TheVariants as accesses
use Rattle.dj_effects.specs.declared.actions.PlainAction.{PlainAction}
use Rattle.dj_effects.specs.declared.actions.PlainAction.TheVariants as actions

abbrev pub move_view : Movement → model.StackOperation
move_view (moves.Drop slots.One) = model.Pop
move_view (moves.Drop slots.Two) = model.Pop2
move_view (moves.Double slots.One) = model.Dup
move_view (moves.Double slots.Two) = model.Dup2
move_view (moves.Under slots.One slots.One) = model.DupX1
move_view (moves.Under slots.One slots.Two) = model.DupX2
move_view (moves.Under slots.Two slots.One) = model.Dup2X1
move_view (moves.Under slots.Two slots.Two) = model.Dup2X2
move_view moves.Swap = model.Swap

abbrev pub operation_view : Kind → Operation → model.BinaryOperation
operation_view kind operations.Add = model.Add kind
operation_view kind operations.Subtract = model.Subtract kind
operation_view kind operations.Multiply = model.Multiply kind
operation_view kind operations.Divide = model.Divide kind
operation_view kind operations.Remainder = model.Remainder kind
operation_view kind operations.And = model.And kind
operation_view kind operations.Or = model.Or kind
operation_view kind operations.Xor = model.Xor kind

abbrev pub shift_view : Kind → Shift → model.BinaryOperation
shift_view kind shifts.Left = model.ShiftLeft kind
shift_view kind shifts.Right = model.ShiftRight kind
shift_view kind shifts.RightUnsigned = model.ShiftRightUnsigned kind

abbrev pub binary_view : BinaryOperation → model.BinaryOperation
binary_view (binary.Ints operation) = operation_view kinds.Int operation
binary_view (binary.Longs operation) = operation_view kinds.Long operation
binary_view (binary.ShiftInt shift) = shift_view kinds.Int shift
binary_view (binary.ShiftLong shift) = shift_view kinds.Long shift
binary_view binary.CompareLongs = model.CompareLongs

abbrev pub unary_view : UnaryOperation → model.UnaryOperation
unary_view unary.NegateInt = model.Negate kinds.Int
unary_view unary.NegateLong = model.Negate kinds.Long
unary_view unary.IntToLong = model.IntToLong
unary_view unary.LongToInt = model.LongToInt
unary_view unary.IntToByte = model.IntToByte
unary_view unary.IntToChar = model.IntToChar
unary_view unary.IntToShort = model.IntToShort

abbrev pub condition_view : Condition → model.Condition
condition_view conditions.Equal = model.Equal
condition_view conditions.NotEqual = model.NotEqual
condition_view conditions.Less = model.Less
condition_view conditions.GreaterOrEqual = model.GreaterOrEqual
condition_view conditions.Greater = model.Greater
condition_view conditions.LessOrEqual = model.LessOrEqual

abbrev pub test_view : Test → model.Test
test_view (tests.WithZero condition) = model.WithZero (condition_view condition)
test_view (tests.OfInts condition) = model.OfInts (condition_view condition)
test_view (tests.OfReferences same) = model.OfReferences same
test_view (tests.OfNull null) = model.OfNull null

abbrev pub access_view : Access → model.Access
access_view accesses.Bytes = model.Bytes
access_view accesses.Chars = model.Chars
access_view accesses.Shorts = model.Shorts
access_view accesses.Ints = model.Ints
access_view accesses.Longs = model.Longs
access_view accesses.References = model.References

abbrev pub action_view : PlainAction → Instruction
action_view actions.Nop = model.Nop
action_view (actions.Push v) = model.Push v
action_view (actions.Load kind slot) = model.Load kind slot
action_view (actions.Store kind slot) = model.Store kind slot
action_view (actions.Increment slot by) = model.Increment slot by
action_view (actions.LoadElement access) = model.LoadElement (access_view access)
action_view (actions.StoreElement access) = model.StoreElement (access_view access)
action_view (actions.Move movement) = model.Move (move_view movement)
action_view (actions.Compute operation) = model.Compute (binary_view operation)
action_view (actions.Convert operation) = model.Convert (unary_view operation)
action_view (actions.Branch test target) = model.Branch (test_view test) target
action_view (actions.Goto target) = model.Goto target
action_view (actions.Table default low targets) = model.Switch (table_pairs low targets.now) default
action_view (actions.Lookup default pairs) = model.Switch (lookup_pairs pairs.now) default
action_view (actions.Return kind) = model.Return kind
action_view (actions.NewArray base element) = model.NewArray (base_array base) element
action_view actions.ArrayLength = model.ArrayLength
action_view actions.Throw = model.Throw
action_view actions.Monitor = model.Monitor

-- it isn't run
abbrev pub is_other : Instruction → Bool
is_other (model.Other op named) = true
is_other _ = false

-- the action is the instruction's, and where there is none the instruction isn't run
abbrev pub IsActionOf : Option PlainAction → Instruction → Type 0
IsActionOf None i = is_other i ≡ true
IsActionOf (Some action) i = i ≡ action_view action
