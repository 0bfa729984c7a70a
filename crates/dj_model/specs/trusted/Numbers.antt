-- Whole numbers and conditions (JVMS 6.5).
use Rattle.std.specs.Prelude.{ℕ, ◌/◌, ◌^◌, ◌&&◌, Bool, true, false, not, ℤ, pos, negsuc, ◌+ℤ◌, ◌-ℤ◌, ◌*ℤ◌, List, [], ◌∷◌, Result, Ok, Err, unsigned_abs, nat_eq, int_lt, int_le, int_rem, if◌then◌else◌}
use Rattle.std.specs.Int.{Width, w8, w16, w32, w64, int_wrap, int_rem_euclid, int_bit_and, int_bit_or, int_bit_xor, int_wrapping_div, int_wrapping_neg, int_shl, int_shr, cast_signed, cast_unsigned}
use Rattle.dj_names.specs.declared.descriptor.Kind.{Kind}
use Rattle.dj_names.specs.declared.descriptor.Kind.TheVariants as kinds
use Rattle.dj_names.specs.declared.run.Value.{Value}
use Rattle.dj_names.specs.declared.run.Raised.{Raised}
use Rattle.dj_names.specs.declared.run.Raised.TheVariants as raises
use Rattle.dj_names.specs.trusted.Values.{value_kind}
use Rattle.dj_model.specs.trusted.Instructions.{BinaryOperation, Add, Subtract, Multiply, Divide, Remainder, ShiftLeft, ShiftRight, ShiftRightUnsigned, And, Or, Xor, CompareLongs, UnaryOperation, Negate, IntToLong, LongToInt, IntToByte, IntToChar, IntToShort, Condition, Equal, NotEqual, Less, GreaterOrEqual, Greater, LessOrEqual, Test, WithZero, OfInts, OfReferences, OfNull}

-- ---- kinds

abbrev pub same_kind : Kind → Kind → Bool
same_kind kinds.Int kinds.Int = true
same_kind kinds.Long kinds.Long = true
same_kind kinds.Ref kinds.Ref = true
same_kind _ _ = false

abbrev pub is_of_kind : Kind → Value → Bool
is_of_kind kind v = same_kind kind (value_kind v)

-- JVMS 2.6.1: a long takes two local variables, and counts as two operands
abbrev pub is_wide : Kind → Bool
is_wide kinds.Long = true
is_wide _ = false

abbrev pub is_long : Value → Bool
is_long v = is_wide (value_kind v)

abbrev pub kind_width : Kind → Width
kind_width kinds.Long = w64
kind_width _ = w32

-- ---- what is computed from two numbers

abbrev pub left_kind : BinaryOperation → Kind
left_kind (Add kind) = kind
left_kind (Subtract kind) = kind
left_kind (Multiply kind) = kind
left_kind (Divide kind) = kind
left_kind (Remainder kind) = kind
left_kind (ShiftLeft kind) = kind
left_kind (ShiftRight kind) = kind
left_kind (ShiftRightUnsigned kind) = kind
left_kind (And kind) = kind
left_kind (Or kind) = kind
left_kind (Xor kind) = kind
left_kind CompareLongs = kinds.Long

abbrev pub right_kind : BinaryOperation → Kind
right_kind (ShiftLeft kind) = kinds.Int
right_kind (ShiftRight kind) = kinds.Int
right_kind (ShiftRightUnsigned kind) = kinds.Int
right_kind operation = left_kind operation

abbrev pub given_kind : BinaryOperation → Kind
given_kind CompareLongs = kinds.Int
given_kind operation = left_kind operation

-- how far a shift moves: the low 5 bits of the count, and for longs the low 6
abbrev pub shift_count : Kind → ℤ → ℕ
shift_count kinds.Long b = unsigned_abs (int_rem_euclid b (pos 64))
shift_count _ b = unsigned_abs (int_rem_euclid b (pos 32))

abbrev pub divided : ℤ → ℤ → Result ℤ Raised
divided b quotient = if nat_eq (unsigned_abs b) 0 then Err raises.Arithmetic else Ok quotient

abbrev pub compared : ℤ → ℤ → ℤ
compared a b = if int_lt a b then negsuc 0 else (if int_lt b a then pos 1 else pos 0)

-- the number that is computed, or the exception that is raised
unfoldable pub compute : BinaryOperation → ℤ → ℤ → Result ℤ Raised
compute (Add kind) a b = Ok (int_wrap (kind_width kind) (a +ℤ b))
compute (Subtract kind) a b = Ok (int_wrap (kind_width kind) (a -ℤ b))
compute (Multiply kind) a b = Ok (int_wrap (kind_width kind) (a *ℤ b))
compute (Divide kind) a b = divided b (int_wrapping_div (kind_width kind) a b)
compute (Remainder kind) a b = divided b (int_rem a b)
compute (ShiftLeft kind) a b = Ok (int_shl (kind_width kind) a (shift_count kind b))
compute (ShiftRight kind) a b = Ok (int_shr a (shift_count kind b))
compute (ShiftRightUnsigned kind) a b = Ok (cast_signed (kind_width kind) (cast_unsigned (kind_width kind) a / 2 ^ shift_count kind b))
compute (And kind) a b = Ok (int_bit_and (kind_width kind) a b)
compute (Or kind) a b = Ok (int_bit_or (kind_width kind) a b)
compute (Xor kind) a b = Ok (int_bit_xor (kind_width kind) a b)
compute CompareLongs a b = Ok (compared a b)

-- ---- what is computed from one number

abbrev pub taken_kind : UnaryOperation → Kind
taken_kind (Negate kind) = kind
taken_kind LongToInt = kinds.Long
taken_kind _ = kinds.Int

abbrev pub converted_kind : UnaryOperation → Kind
converted_kind (Negate kind) = kind
converted_kind IntToLong = kinds.Long
converted_kind _ = kinds.Int

unfoldable pub convert : UnaryOperation → ℤ → ℤ
convert (Negate kind) a = int_wrapping_neg (kind_width kind) a
convert IntToLong a = a
convert LongToInt a = int_wrap w32 a
convert IntToByte a = int_wrap w8 a
convert IntToChar a = int_rem_euclid a (pos (2 ^ 16))
convert IntToShort a = int_wrap w16 a

-- ---- conditions

abbrev pub same_number : ℤ → ℤ → Bool
same_number a b = int_le a b && int_le b a

abbrev pub holds : Condition → ℤ → ℤ → Bool
holds Equal a b = same_number a b
holds NotEqual a b = not (same_number a b)
holds Less a b = int_lt a b
holds GreaterOrEqual a b = int_le b a
holds Greater a b = int_lt b a
holds LessOrEqual a b = int_le a b

abbrev pub agrees : Bool → Bool → Bool
agrees true b = b
agrees false b = not b

-- the kinds that a conditional jump takes, the top first
abbrev pub tested_kinds : Test → List Kind
tested_kinds (WithZero condition) = kinds.Int ∷ []
tested_kinds (OfInts condition) = kinds.Int ∷ kinds.Int ∷ []
tested_kinds (OfReferences same) = kinds.Ref ∷ kinds.Ref ∷ []
tested_kinds (OfNull null) = kinds.Ref ∷ []

-- the target of the first row that matches, or else the default
abbrev pub target_of : List (ℤ × ℕ) → ℕ → ℤ → ℕ
target_of [] default z = default
target_of (pair ∷ pairs) default z = if same_number pair.0 z then pair.1 else target_of pairs default z
