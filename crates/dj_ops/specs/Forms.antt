-- Beside trusted/Forms.antt: what no clause of the call `djvm` reaches.
use Rattle.std.specs.Prelude.{ℕ, Option, Some, None}
use Rattle.dj_ops.specs.trusted.Forms.{OperandForm, Bare, SignedByte, SignedShort, ShortLiteral, LongLiteral, Slot, SlotAndByte, ShortOffset, LongOffset, MemberIndex, InterfaceIndex, DynamicIndex, ClassIndex, ArrayType, MultiIndex, TableSwitch, LookupSwitch, WidePrefix, Reserved}

-- how many bytes of operands follow, where the opcode alone decides it
abbrev pub operand_count : OperandForm → Option ℕ
operand_count Bare = Some 0
operand_count SignedByte = Some 1
operand_count SignedShort = Some 2
operand_count ShortLiteral = Some 1
operand_count LongLiteral = Some 2
operand_count Slot = Some 1
operand_count SlotAndByte = Some 2
operand_count ShortOffset = Some 2
operand_count LongOffset = Some 4
operand_count MemberIndex = Some 2
operand_count InterfaceIndex = Some 4
operand_count DynamicIndex = Some 4
operand_count ClassIndex = Some 2
operand_count ArrayType = Some 1
operand_count MultiIndex = Some 3
operand_count TableSwitch = None
operand_count LookupSwitch = None
operand_count WidePrefix = None
operand_count Reserved = None
