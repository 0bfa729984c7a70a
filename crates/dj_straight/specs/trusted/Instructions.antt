-- What instructions do, by families (JVMS 6.5). Opcodes of one family are one instruction here, with the data in which they differ.
use Rattle.std.specs.Prelude.{ℕ, ◌-◌, ◌&&◌, ◌==◌, Bool, true, false, pos, ◌-ℤ◌, List, [], ◌∷◌, Option, Some, codes, nat_le, if◌then◌else◌}
use Rattle.dj_names.specs.declared.descriptor.Kind.{Kind}
use Rattle.dj_names.specs.declared.descriptor.Kind.TheVariants as kinds
use Rattle.dj_names.specs.declared.run.Value.{Value}
use Rattle.dj_names.specs.declared.run.Value.TheVariants as values
use Rattle.dj_names.specs.declared.run.Element.{Element}
use Rattle.dj_names.specs.declared.run.Element.TheVariants as elements
use Rattle.dj_ops.specs.declared.instruction.Instr.{Instr}
use Rattle.dj_ops.specs.declared.instruction.Instr.TheVariants as instrs
use Rattle.dj_straight.specs.trusted.StraightInstrs.{first_byte}

-- what is computed from two ints
pub data IntOperation : Type 0 where
  Add : IntOperation
  Subtract : IntOperation
  Multiply : IntOperation
  And : IntOperation
  Or : IntOperation
  Xor : IntOperation

-- what moves on the operands alone
pub data StackOperation : Type 0 where
  Pop : StackOperation
  Dup : StackOperation

-- which arrays an instruction loads from or stores in, by the kind of their elements
pub data Access : Type 0 where
  -- bytes and booleans
  Bytes : Access
  Chars : Access
  Shorts : Access
  Ints : Access
  Longs : Access

pub data Instruction : Type 0 where
  -- nop
  Nop : Instruction
  -- aconst_null, iconst_m1 to iconst_5, bipush, sipush: the value is pushed
  Push : Value → Instruction
  -- iload, aload and their short forms: the local variable in this slot, which has this kind, is pushed
  Load : Kind → ℕ → Instruction
  -- istore, astore and their short forms
  Store : Kind → ℕ → Instruction
  -- baload: an element is pushed
  LoadElement : Access → Instruction
  -- bastore: a value is stored as an element
  StoreElement : Access → Instruction
  -- pop and dup
  Move : StackOperation → Instruction
  -- iadd, isub, imul, iand, ior and ixor
  Compute : IntOperation → Instruction
  -- areturn: a value of the kind is returned; nothing is returned where there is no kind
  Return : Option Kind → Instruction
  -- arraylength
  ArrayLength : Instruction
  -- newarray: an array of the class of this name and with such elements is made
  NewArray : List ℕ → Element → Instruction
  -- an instruction that isn't supported yet, by its first byte
  Other : ℕ → Instruction

-- the opcodes from first to last, and what each does, by how far it is above the first
pub record Row : Type 0 where
  pub first : ℕ
  pub last : ℕ
  pub does : ℕ → Instruction

abbrev pub one : ℕ → Instruction → Row
one op does = record { first = op; last = op; does = λ n. does }

abbrev pub rows : List Row
rows =
    one 0 Nop
    ∷ one 1 (Push (values.Ref 0))
    ∷ record { first = 2; last = 8; does = λ n. Push (values.Int (pos n -ℤ pos 1)) }
    ∷ record { first = 26; last = 29; does = Load kinds.Int }
    ∷ record { first = 42; last = 45; does = Load kinds.Ref }
    ∷ one 51 (LoadElement Bytes)
    ∷ record { first = 59; last = 62; does = Store kinds.Int }
    ∷ record { first = 75; last = 78; does = Store kinds.Ref }
    ∷ one 84 (StoreElement Bytes)
    ∷ one 87 (Move Pop)
    ∷ one 89 (Move Dup)
    ∷ one 96 (Compute Add)
    ∷ one 100 (Compute Subtract)
    ∷ one 104 (Compute Multiply)
    ∷ one 126 (Compute And)
    ∷ one 128 (Compute Or)
    ∷ one 130 (Compute Xor)
    ∷ one 176 (Return (Some kinds.Ref))
    ∷ one 190 ArrayLength
    ∷ []

abbrev pub row_does : List Row → ℕ → Instruction
row_does [] op = Other op
row_does (row ∷ rest) op = if nat_le row.first op && nat_le op row.last then row.does (op - row.first) else row_does rest op

-- an instruction without operands, by its opcode
unfoldable pub simple : ℕ → Instruction
simple op = row_does rows op

-- the opcodes that are followed by a slot (JVMS 6.5)
abbrev pub local_rows : List (ℕ × (ℕ → Instruction))
local_rows = (21, Load kinds.Int) ∷ (25, Load kinds.Ref) ∷ (54, Store kinds.Int) ∷ (58, Store kinds.Ref) ∷ []

abbrev pub local_does : List (ℕ × (ℕ → Instruction)) → ℕ → ℕ → Instruction
local_does [] op slot = Other op
local_does (row ∷ rest) op slot = if op == row.0 then row.1 slot else local_does rest op slot

-- JVMS 4.3.2: the name of the class of arrays of bytes
abbrev pub byte_array_class : List ℕ
byte_array_class = codes "[B"

-- JVMS table 6.5.newarray-A
abbrev pub new_array : ℕ → Instruction
new_array base = if base == 8 then NewArray byte_array_class elements.Byte else Other 188

-- an instruction that names nothing of the constant pool
unfoldable pub instruction_of : Instr → Instruction
instruction_of (instrs.Simple op) = simple op
instruction_of (instrs.Push op value) = Push (values.Int value)
instruction_of (instrs.Local op slot wide) = local_does local_rows op slot
instruction_of (instrs.Array base) = new_array base
instruction_of instr = Other (first_byte instr)

-- ---- where the run goes on

-- the run never goes on at the next instruction
abbrev pub ends : Instruction → Bool
ends (Return kind) = true
ends _ = false

-- the numbers of the instructions to which it may jump; none of the supported instructions jumps
abbrev pub targets : Instruction → List ℕ
targets i = []

-- it makes an object of a class, which one of the class's constructors has to initialise (JVMS 4.10.2.4); none of the supported instructions does
abbrev pub makes_uninitialised : Instruction → Bool
makes_uninitialised i = false
