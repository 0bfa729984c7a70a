-- What instructions do, by families (JVMS 6.5). Opcodes of one family are one instruction here, with the data in which they differ,
-- and with what an operand names in place of its index.
use Rattle.std.specs.Prelude.{ℕ, ℤ, Bool, true, false, List, [], ◌∷◌, map, Option}
use Rattle.dj_names.specs.declared.descriptor.Kind.{Kind}
use Rattle.dj_names.specs.declared.descriptor.Ty.{Ty}
use Rattle.dj_names.specs.declared.run.Value.{Value}
use Rattle.dj_names.specs.declared.run.Element.{Element}
use Rattle.dj_model.specs.trusted.Types.{Member}

-- what an operand of an instruction, or of a row of an exception table, names
pub data Named : Type 0 where
  -- there is no operand
  Nothing : Named
  AnInt : ℤ → Named
  ALong : ℤ → Named
  AText : List ℕ → Named
  AClass : Ty → Named
  AField : Member → Named
  AMethod : Member → Named
  AnInterfaceMethod : Member → Named
  -- a float, a double, or what no instruction takes
  Another : Named

-- what is computed from two numbers of one kind; for a shift the second is an int
pub data BinaryOperation : Type 0 where
  Add : Kind → BinaryOperation
  Subtract : Kind → BinaryOperation
  Multiply : Kind → BinaryOperation
  Divide : Kind → BinaryOperation
  Remainder : Kind → BinaryOperation
  ShiftLeft : Kind → BinaryOperation
  ShiftRight : Kind → BinaryOperation
  ShiftRightUnsigned : Kind → BinaryOperation
  And : Kind → BinaryOperation
  Or : Kind → BinaryOperation
  Xor : Kind → BinaryOperation
  -- two longs, which give an int
  CompareLongs : BinaryOperation

-- what is computed from one number
pub data UnaryOperation : Type 0 where
  Negate : Kind → UnaryOperation
  IntToLong : UnaryOperation
  LongToInt : UnaryOperation
  IntToByte : UnaryOperation
  IntToChar : UnaryOperation
  IntToShort : UnaryOperation

pub data StackOperation : Type 0 where
  Pop : StackOperation
  Pop2 : StackOperation
  Dup : StackOperation
  DupX1 : StackOperation
  DupX2 : StackOperation
  Dup2 : StackOperation
  Dup2X1 : StackOperation
  Dup2X2 : StackOperation
  Swap : StackOperation

-- which arrays an instruction loads from or stores in, by the kind of their elements
pub data Access : Type 0 where
  -- bytes and booleans
  Bytes : Access
  Chars : Access
  Shorts : Access
  Ints : Access
  Longs : Access
  References : Access

pub data Condition : Type 0 where
  Equal : Condition
  NotEqual : Condition
  Less : Condition
  GreaterOrEqual : Condition
  Greater : Condition
  LessOrEqual : Condition

-- the condition of a conditional jump
pub data Test : Type 0 where
  -- an int is compared with zero
  WithZero : Condition → Test
  -- two ints are compared, the lower with the top one
  OfInts : Condition → Test
  -- whether two references are equal (true), or differ (false)
  OfReferences : Bool → Test
  -- whether a reference is null (true), or isn't (false)
  OfNull : Bool → Test

-- how a method is called
pub data Mode : Type 0 where
  Virtual : Mode
  Special : Mode
  Static : Mode
  -- with the count beside the index
  Interface : ℕ → Mode

pub data Instruction : Type 0 where
  Nop : Instruction
  -- a constant that is no text
  Push : Value → Instruction
  -- ldc of a string
  PushText : List ℕ → Instruction
  -- a local variable of this kind, in this slot
  Load : Kind → ℕ → Instruction
  Store : Kind → ℕ → Instruction
  Increment : ℕ → ℤ → Instruction
  LoadElement : Access → Instruction
  StoreElement : Access → Instruction
  Move : StackOperation → Instruction
  Compute : BinaryOperation → Instruction
  Convert : UnaryOperation → Instruction
  Branch : Test → ℕ → Instruction
  Goto : ℕ → Instruction
  -- tableswitch and lookupswitch: the first matching row decides, or else the default
  Switch : List (ℤ × ℕ) → ℕ → Instruction
  Return : Option Kind → Instruction
  GetStatic : Member → Instruction
  PutStatic : Member → Instruction
  GetField : Member → Instruction
  PutField : Member → Instruction
  Invoke : Mode → Member → Instruction
  New : Ty → Instruction
  -- newarray and anewarray: the array's class, and its elements
  NewArray : Ty → Element → Instruction
  ArrayLength : Instruction
  Throw : Instruction
  CheckCast : Ty → Instruction
  InstanceOf : Ty → Instruction
  -- monitorenter and monitorexit
  Monitor : Instruction
  -- an instruction that isn't supported, by its opcode and its operand: one of floats and doubles, a subroutine, a dynamic call, an array of several
  -- dimensions, or an instruction with an operand that it doesn't take
  Other : ℕ → Named → Instruction

-- ---- where the run goes on

-- the run never goes on at the next instruction
abbrev pub ends : Instruction → Bool
ends (Goto target) = true
ends (Switch pairs default) = true
ends (Return kind) = true
ends Throw = true
ends _ = false

-- the numbers of the instructions to which it may jump
abbrev pub targets : Instruction → List ℕ
targets (Branch test target) = target ∷ []
targets (Goto target) = target ∷ []
targets (Switch pairs default) = default ∷ map (λ pair. pair.1) pairs
targets _ = []

-- the instruction makes an object of a class, which one of the class's constructors has to initialise (JVMS 4.10.2.4)
abbrev pub makes_uninitialised : Instruction → Bool
makes_uninitialised (New class) = true
makes_uninitialised _ = false
