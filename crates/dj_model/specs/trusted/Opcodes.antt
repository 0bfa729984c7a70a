-- The family of each opcode (JVMS chapter 6).
use Rattle.std.specs.Prelude.{ℕ, ◌+◌, ◌-◌, ◌&&◌, true, false, ℤ, pos, ◌-ℤ◌, ◌+ℤ◌, List, [], ◌∷◌, map, unsigned_abs, nat_le, nat_lt, nat_eq, if◌then◌else◌, Some, None}
use Rattle.dj_names.specs.declared.descriptor.Kind.TheVariants as kinds
use Rattle.dj_names.specs.declared.descriptor.Base.{Base}
use Rattle.dj_names.specs.declared.descriptor.Base.TheVariants as bases
use Rattle.dj_names.specs.declared.run.Value.TheVariants as values
use Rattle.dj_names.specs.declared.run.Element.{Element}
use Rattle.dj_names.specs.declared.run.Element.TheVariants as elements
use Rattle.dj_names.specs.trusted.Types.{array_type, base_array}
use Rattle.dj_ops.specs.declared.instruction.Instr.{Instr}
use Rattle.dj_ops.specs.declared.instruction.Instr.TheVariants as instrs
use Rattle.dj_model.specs.trusted.Types.{Member}
use Rattle.dj_model.specs.trusted.Instructions.{Named, Nothing, AnInt, ALong, AText, AClass, AField, AMethod, AnInterfaceMethod, Instruction, Nop, Push, PushText, Load, Store, Increment, LoadElement, StoreElement, Move, Compute, Convert, Branch, Goto, Switch, Return, GetStatic, PutStatic, GetField, PutField, Invoke, New, NewArray, ArrayLength, Throw, CheckCast, InstanceOf, Monitor, Other, Add, Subtract, Multiply, Divide, Remainder, ShiftLeft, ShiftRight, ShiftRightUnsigned, And, Or, Xor, CompareLongs, Negate, IntToLong, LongToInt, IntToByte, IntToChar, IntToShort, Pop, Pop2, Dup, DupX1, DupX2, Dup2, Dup2X1, Dup2X2, Swap, Bytes, Chars, Shorts, Ints, Longs, References, Equal, NotEqual, Less, GreaterOrEqual, Greater, LessOrEqual, WithZero, OfInts, OfReferences, OfNull, Virtual, Special, Static, Interface}

-- ---- rows of opcodes

-- the opcodes from first to last, and what each does, by how far it is above the first
pub record Row : Type 0 where
  pub first : ℕ
  pub last : ℕ
  pub does : ℕ → Instruction

abbrev pub one : ℕ → Instruction → Row
one op does = record { first = op; last = op; does = λ n. does }

-- four opcodes, one for each of the slots 0 to 3
abbrev pub slots_from : ℕ → (ℕ → Instruction) → Row
slots_from first does = record { first = first; last = first + 3; does = does }

abbrev pub row_does : List Row → Named → ℕ → Instruction
row_does [] named op = Other op named
row_does (row ∷ rest) named op = if nat_le row.first op && nat_le op row.last then row.does (op - row.first) else row_does rest named op

-- ---- instructions without operands

abbrev pub constant_rows : List Row
constant_rows =
    one 0 Nop
    ∷ one 1 (Push (values.Ref 0))
    ∷ record { first = 2; last = 8; does = λ n. Push (values.Int (pos n -ℤ pos 1)) }
    ∷ record { first = 9; last = 10; does = λ n. Push (values.Long (pos n)) }
    ∷ slots_from 26 (Load kinds.Int)
    ∷ slots_from 30 (Load kinds.Long)
    ∷ slots_from 42 (Load kinds.Ref)
    ∷ []

abbrev pub store_rows : List Row
store_rows =
    one 46 (LoadElement Ints)
    ∷ one 47 (LoadElement Longs)
    ∷ one 50 (LoadElement References)
    ∷ one 51 (LoadElement Bytes)
    ∷ one 52 (LoadElement Chars)
    ∷ one 53 (LoadElement Shorts)
    ∷ slots_from 59 (Store kinds.Int)
    ∷ slots_from 63 (Store kinds.Long)
    ∷ slots_from 75 (Store kinds.Ref)
    ∷ one 79 (StoreElement Ints)
    ∷ one 80 (StoreElement Longs)
    ∷ one 83 (StoreElement References)
    ∷ one 84 (StoreElement Bytes)
    ∷ one 85 (StoreElement Chars)
    ∷ one 86 (StoreElement Shorts)
    ∷ []

abbrev pub stack_rows : List Row
stack_rows =
    one 87 (Move Pop)
    ∷ one 88 (Move Pop2)
    ∷ one 89 (Move Dup)
    ∷ one 90 (Move DupX1)
    ∷ one 91 (Move DupX2)
    ∷ one 92 (Move Dup2)
    ∷ one 93 (Move Dup2X1)
    ∷ one 94 (Move Dup2X2)
    ∷ one 95 (Move Swap)
    ∷ []

abbrev pub number_rows : List Row
number_rows =
    one 96 (Compute (Add kinds.Int))
    ∷ one 97 (Compute (Add kinds.Long))
    ∷ one 100 (Compute (Subtract kinds.Int))
    ∷ one 101 (Compute (Subtract kinds.Long))
    ∷ one 104 (Compute (Multiply kinds.Int))
    ∷ one 105 (Compute (Multiply kinds.Long))
    ∷ one 108 (Compute (Divide kinds.Int))
    ∷ one 109 (Compute (Divide kinds.Long))
    ∷ one 112 (Compute (Remainder kinds.Int))
    ∷ one 113 (Compute (Remainder kinds.Long))
    ∷ one 116 (Convert (Negate kinds.Int))
    ∷ one 117 (Convert (Negate kinds.Long))
    ∷ []

abbrev pub bit_rows : List Row
bit_rows =
    one 120 (Compute (ShiftLeft kinds.Int))
    ∷ one 121 (Compute (ShiftLeft kinds.Long))
    ∷ one 122 (Compute (ShiftRight kinds.Int))
    ∷ one 123 (Compute (ShiftRight kinds.Long))
    ∷ one 124 (Compute (ShiftRightUnsigned kinds.Int))
    ∷ one 125 (Compute (ShiftRightUnsigned kinds.Long))
    ∷ one 126 (Compute (And kinds.Int))
    ∷ one 127 (Compute (And kinds.Long))
    ∷ one 128 (Compute (Or kinds.Int))
    ∷ one 129 (Compute (Or kinds.Long))
    ∷ one 130 (Compute (Xor kinds.Int))
    ∷ one 131 (Compute (Xor kinds.Long))
    ∷ []

abbrev pub last_rows : List Row
last_rows =
    one 133 (Convert IntToLong)
    ∷ one 136 (Convert LongToInt)
    ∷ one 145 (Convert IntToByte)
    ∷ one 146 (Convert IntToChar)
    ∷ one 147 (Convert IntToShort)
    ∷ one 148 (Compute CompareLongs)
    ∷ one 172 (Return (Some kinds.Int))
    ∷ one 173 (Return (Some kinds.Long))
    ∷ one 176 (Return (Some kinds.Ref))
    ∷ one 177 (Return None)
    ∷ one 190 ArrayLength
    ∷ one 191 Throw
    ∷ record { first = 194; last = 195; does = λ n. Monitor }
    ∷ []

abbrev pub rows_of : ℕ → List Row
rows_of op =
    if nat_lt op 46 then constant_rows
    else if nat_lt op 87 then store_rows
    else if nat_lt op 96 then stack_rows
    else if nat_lt op 120 then number_rows
    else if nat_lt op 133 then bit_rows
    else last_rows

unfoldable pub simple : Named → ℕ → Instruction
simple named op = row_does (rows_of op) named op

-- ---- local variables and jumps

abbrev pub local_rows : List (ℕ × (ℕ → Instruction))
local_rows =
    (21, Load kinds.Int) ∷ (22, Load kinds.Long) ∷ (25, Load kinds.Ref)
    ∷ (54, Store kinds.Int) ∷ (55, Store kinds.Long) ∷ (58, Store kinds.Ref) ∷ []

abbrev pub operand_does : List (ℕ × (ℕ → Instruction)) → Named → ℕ → ℕ → Instruction
operand_does [] named op n = Other op named
operand_does (row ∷ rest) named op n = if nat_eq op row.0 then row.1 n else operand_does rest named op n

abbrev pub jump_rows : List (ℕ × (ℕ → Instruction))
jump_rows =
    (153, Branch (WithZero Equal)) ∷ (154, Branch (WithZero NotEqual)) ∷ (155, Branch (WithZero Less))
    ∷ (156, Branch (WithZero GreaterOrEqual)) ∷ (157, Branch (WithZero Greater)) ∷ (158, Branch (WithZero LessOrEqual))
    ∷ (159, Branch (OfInts Equal)) ∷ (160, Branch (OfInts NotEqual)) ∷ (161, Branch (OfInts Less))
    ∷ (162, Branch (OfInts GreaterOrEqual)) ∷ (163, Branch (OfInts Greater)) ∷ (164, Branch (OfInts LessOrEqual))
    ∷ (165, Branch (OfReferences true)) ∷ (166, Branch (OfReferences false)) ∷ (167, Goto)
    ∷ (198, Branch (OfNull true)) ∷ (199, Branch (OfNull false)) ∷ (200, Goto) ∷ []

-- the rows of a table, whose numbers start at low
abbrev pub table_pairs : ℤ → List ℤ → List (ℤ × ℕ)
table_pairs low [] = []
table_pairs low (target ∷ targets) = (low, unsigned_abs target) ∷ table_pairs (low +ℤ pos 1) targets

abbrev pub lookup_pairs : List (ℤ × ℤ) → List (ℤ × ℕ)
lookup_pairs pairs = map (λ pair. (pair.0, unsigned_abs pair.1)) pairs

-- ---- constants, members and classes

-- ldc, ldc_w and ldc2_w: the instruction that pushes the constant
abbrev pub literal : ℕ → Named → Instruction
literal op (AnInt z) = if nat_eq op 20 then Other op (AnInt z) else Push (values.Int z)
literal op (AText units) = if nat_eq op 20 then Other op (AText units) else PushText units
literal op (ALong z) = if nat_eq op 20 then Push (values.Long z) else Other op (ALong z)
literal op named = Other op named

abbrev pub field_rows : List (ℕ × (Member → Instruction))
field_rows = (178, GetStatic) ∷ (179, PutStatic) ∷ (180, GetField) ∷ (181, PutField) ∷ []

abbrev pub method_rows : List (ℕ × (Member → Instruction))
method_rows = (182, Invoke Virtual) ∷ (183, Invoke Special) ∷ (184, Invoke Static) ∷ []

-- the calls that may name a method of an interface: invokespecial and invokestatic
abbrev pub interface_method_rows : List (ℕ × (Member → Instruction))
interface_method_rows = (183, Invoke Special) ∷ (184, Invoke Static) ∷ []

abbrev pub member_does : List (ℕ × (Member → Instruction)) → Named → ℕ → Member → Instruction
member_does [] named op m = Other op named
member_does (row ∷ rest) named op m = if nat_eq op row.0 then row.1 m else member_does rest named op m

abbrev pub member : ℕ → Named → Instruction
member op (AField m) = member_does field_rows (AField m) op m
member op (AMethod m) = member_does method_rows (AMethod m) op m
member op (AnInterfaceMethod m) = member_does interface_method_rows (AnInterfaceMethod m) op m
member op named = Other op named

abbrev pub interface_call : ℕ → Named → Instruction
interface_call count (AnInterfaceMethod m) = Invoke (Interface count) m
interface_call count named = Other 185 named

abbrev pub class_use : ℕ → Named → Instruction
class_use op (AClass class) =
    if nat_eq op 187 then New class
    else if nat_eq op 189 then NewArray (array_type class) elements.Ref
    else if nat_eq op 192 then CheckCast class
    else if nat_eq op 193 then InstanceOf class
    else Other op (AClass class)
class_use op named = Other op named

-- JVMS table 6.5.newarray-A, without floats and doubles
abbrev pub array_rows : List (ℕ × Base × Element)
array_rows =
    (4, bases.Boolean, elements.Boolean) ∷ (5, bases.Char, elements.Char) ∷ (8, bases.Byte, elements.Byte)
    ∷ (9, bases.Short, elements.Short) ∷ (10, bases.Int, elements.Int) ∷ (11, bases.Long, elements.Long) ∷ []

abbrev pub new_array : List (ℕ × Base × Element) → ℕ → Instruction
new_array [] base = Other 188 Nothing
new_array (row ∷ rest) base = if nat_eq base row.0 then NewArray (base_array row.1) row.2 else new_array rest base

-- ---- an instruction of labelled code, with what its operand names

unfoldable pub instruction_of : Instr → Named → Instruction
instruction_of (instrs.Simple op) named = simple named op
instruction_of (instrs.Push op value) named = Push (values.Int value)
instruction_of (instrs.Literal op index) named = literal op named
instruction_of (instrs.Local op slot wide) named = operand_does local_rows named op slot
instruction_of (instrs.Inc slot by wide) named = Increment slot by
instruction_of (instrs.Branch op target) named = operand_does jump_rows named op (unsigned_abs target)
instruction_of (instrs.Table low default targets) named = Switch (table_pairs low targets) (unsigned_abs default)
instruction_of (instrs.Lookup default pairs) named = Switch (lookup_pairs pairs) (unsigned_abs default)
instruction_of (instrs.Member op index) named = member op named
instruction_of (instrs.Interface index count) named = interface_call count named
instruction_of (instrs.Dynamic index) named = Other 186 named
instruction_of (instrs.Class op index) named = class_use op named
instruction_of (instrs.Array base) named = new_array array_rows base
instruction_of (instrs.Multi index dims) named = Other 197 named
