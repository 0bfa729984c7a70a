-- The opcodes, and the operands that follow them (JVMS chapter 6 and table 7.1).
use Rattle.std.specs.Prelude.{ℕ, List, [], ◌∷◌, nat_le, if◌then◌else◌}

-- what follows an opcode
pub data OperandForm : Type 0 where
  -- nothing
  Bare : OperandForm
  -- one byte, signed
  SignedByte : OperandForm
  -- two bytes, signed
  SignedShort : OperandForm
  -- one byte, the index of a constant
  ShortLiteral : OperandForm
  -- two bytes, the index of a constant
  LongLiteral : OperandForm
  -- one byte, a local variable
  Slot : OperandForm
  -- one byte, a local variable, and one signed byte
  SlotAndByte : OperandForm
  -- two bytes, signed, from the opcode's own address to the target
  ShortOffset : OperandForm
  -- four bytes, signed, from the opcode's own address to the target
  LongOffset : OperandForm
  -- two bytes, the index of a field or a method
  MemberIndex : OperandForm
  -- two bytes, the index of an interface's method, a count and a zero
  InterfaceIndex : OperandForm
  -- two bytes, the index of a call site, and two zeros
  DynamicIndex : OperandForm
  -- two bytes, the index of a class
  ClassIndex : OperandForm
  -- one byte, a base type
  ArrayType : OperandForm
  -- two bytes, the index of a class, and one byte, the number of dimensions
  MultiIndex : OperandForm
  -- padding, and a table from low to high
  TableSwitch : OperandForm
  -- padding, and matches with their targets
  LookupSwitch : OperandForm
  -- an opcode that takes a local variable, which here has two bytes
  WidePrefix : OperandForm
  -- no instruction
  Reserved : OperandForm

-- each opcode at which another form begins
abbrev pub form_rows : List (ℕ × OperandForm)
form_rows =
    (16, SignedByte) ∷ (17, SignedShort) ∷ (18, ShortLiteral) ∷ (19, LongLiteral) ∷ (21, Slot) ∷ (26, Bare) ∷ (54, Slot)
    ∷ (59, Bare) ∷ (132, SlotAndByte) ∷ (133, Bare) ∷ (153, ShortOffset) ∷ (169, Slot) ∷ (170, TableSwitch) ∷ (171, LookupSwitch)
    ∷ (172, Bare) ∷ (178, MemberIndex) ∷ (185, InterfaceIndex) ∷ (186, DynamicIndex) ∷ (187, ClassIndex) ∷ (188, ArrayType)
    ∷ (189, ClassIndex) ∷ (190, Bare) ∷ (192, ClassIndex) ∷ (194, Bare) ∷ (196, WidePrefix) ∷ (197, MultiIndex) ∷ (198, ShortOffset)
    ∷ (200, LongOffset) ∷ (202, Bare) ∷ (203, Reserved) ∷ []

-- the form of the last row at or below the opcode; before the first row, the given form
abbrev pub form_in : OperandForm → List (ℕ × OperandForm) → ℕ → OperandForm
form_in form [] op = form
form_in form (row ∷ rows) op = if nat_le row.0 op then form_in row.1 rows op else form

unfoldable pub form_of : ℕ → OperandForm
form_of op = form_in Bare form_rows op
