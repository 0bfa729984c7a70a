-- The reader's own: reading an instruction from left to right, with the first fault that is met.
use Rattle.std.specs.Prelude.{ℕ, ◌+◌, ◌==◌, ◌&&◌, Bool, true, false, ℤ, pos, ◌+ℤ◌, ◌-ℤ◌, int_lt, unsigned_abs, nat_le, nat_lt, if◌then◌else◌, Result, Ok, Err}
use Rattle.std.specs.Int.{w8, w16, w32, cast_signed}
use Rattle.dj_cursor.specs.Steps.{◌>>=◌}
use Rattle.dj_cursor.specs.Reading.{Cursor, block_at, u1_at, u2_at, u4_at, many_at}
use Rattle.dj_ops.specs.declared.instruction.Instr.{Instr}
use Rattle.dj_ops.specs.declared.instruction.Instr.TheVariants as instrs
use Rattle.dj_ops.specs.declared.read.OpError.{OpError}
use Rattle.dj_ops.specs.declared.read.OpError.TheVariants as errors
use Rattle.dj_ops.specs.trusted.Forms.{OperandForm, Bare, SignedByte, SignedShort, ShortLiteral, LongLiteral, Slot, SlotAndByte, ShortOffset, LongOffset, MemberIndex, InterfaceIndex, DynamicIndex, ClassIndex, ArrayType, MultiIndex, TableSwitch, LookupSwitch, WidePrefix, Reserved, form_of}
use Rattle.dj_ops.specs.trusted.Instructions.{padding_count}
use Rattle.dj_ops.specs.trusted.Lookups.{rises}

-- the errors that say nothing of what is read, since memory ran out
abbrev pub is_memory : OpError → Bool
is_memory errors.Memory = true
is_memory _ = false

-- a cut is reported without its place
abbrev pub cut : ℕ → OpError
cut place = errors.Cut

-- ---- what is read, and what is made of it

abbrev pub both : {A B : Type 0} → (Cursor → Result (A × Cursor) OpError) → (Cursor → Result (B × Cursor) OpError) → Cursor → Result ((A × B) × Cursor) OpError
both first second c = do
  a ← first c
  b ← second a.1
  Ok ((a.0, b.0), b.1)

abbrev pub made : {A B : Type 0} → (A → B) → (Cursor → Result (A × Cursor) OpError) → Cursor → Result (B × Cursor) OpError
made make part c = do
  a ← part c
  Ok (make a.0, a.1)

-- the same, of operands that pass the test
abbrev pub checked : {A B : Type 0} → (A → Bool) → (A → B) → (Cursor → Result (A × Cursor) OpError) → Cursor → Result (B × Cursor) OpError
checked test make part c = do
  a ← part c
  if test a.0 then Ok (make a.0, a.1) else Err errors.BadOperand

-- ---- signed numbers

unfoldable pub s1_at : Cursor → Result (ℤ × Cursor) OpError
s1_at c = made (cast_signed w8) (u1_at cut) c

unfoldable pub s2_at : Cursor → Result (ℤ × Cursor) OpError
s2_at c = made (cast_signed w16) (u2_at cut) c

unfoldable pub s4_at : Cursor → Result (ℤ × Cursor) OpError
s4_at c = made (cast_signed w32) (u4_at cut) c

-- ---- operands of one length

unfoldable pub short_literal_at : ℕ → Cursor → Result (Instr × Cursor) OpError
short_literal_at op c = made (instrs.Literal op) (u1_at cut) c

unfoldable pub long_literal_at : ℕ → Cursor → Result (Instr × Cursor) OpError
long_literal_at op c = made (instrs.Literal op) (u2_at cut) c

unfoldable pub byte_push_at : ℕ → Cursor → Result (Instr × Cursor) OpError
byte_push_at op c = made (instrs.Push op) s1_at c

unfoldable pub short_push_at : ℕ → Cursor → Result (Instr × Cursor) OpError
short_push_at op c = made (instrs.Push op) s2_at c

unfoldable pub local_at : ℕ → Cursor → Result (Instr × Cursor) OpError
local_at op c = made (λ slot. instrs.Local op slot false) (u1_at cut) c

unfoldable pub increment_at : Cursor → Result (Instr × Cursor) OpError
increment_at c = made (λ v. instrs.Inc v.0 v.1 false) (both (u1_at cut) s1_at) c

-- the target, from the way to it
abbrev pub target : ℕ → ℤ → ℤ
target at offset = pos at +ℤ offset

unfoldable pub short_branch_at : ℕ → ℕ → Cursor → Result (Instr × Cursor) OpError
short_branch_at at op c = made (λ offset. instrs.Branch op (target at offset)) s2_at c

unfoldable pub long_branch_at : ℕ → ℕ → Cursor → Result (Instr × Cursor) OpError
long_branch_at at op c = made (λ offset. instrs.Branch op (target at offset)) s4_at c

unfoldable pub member_at : ℕ → Cursor → Result (Instr × Cursor) OpError
member_at op c = made (instrs.Member op) (u2_at cut) c

unfoldable pub class_at : ℕ → Cursor → Result (Instr × Cursor) OpError
class_at op c = made (instrs.Class op) (u2_at cut) c

-- ---- operands that are judged

-- an index, and two bytes
unfoldable pub index_and_two_at : Cursor → Result ((ℕ × (ℕ × ℕ)) × Cursor) OpError
index_and_two_at c = both (u2_at cut) (both (u1_at cut) (u1_at cut)) c

unfoldable pub interface_at : Cursor → Result (Instr × Cursor) OpError
interface_at c = checked (λ v. nat_lt 0 v.1.0 && v.1.1 == 0) (λ v. instrs.Interface v.0 v.1.0) index_and_two_at c

unfoldable pub dynamic_at : Cursor → Result (Instr × Cursor) OpError
dynamic_at c = checked (λ v. v.1.0 == 0 && v.1.1 == 0) (λ v. instrs.Dynamic v.0) index_and_two_at c

unfoldable pub array_at : Cursor → Result (Instr × Cursor) OpError
array_at c = checked (λ base. nat_le 4 base && nat_le base 11) instrs.Array (u1_at cut) c

unfoldable pub multi_at : Cursor → Result (Instr × Cursor) OpError
multi_at c = checked (λ v. nat_lt 0 v.1) (λ v. instrs.Multi v.0 v.1) (both (u2_at cut) (u1_at cut)) c

-- ---- wide

unfoldable pub wide_local_at : ℕ → Cursor → Result (Instr × Cursor) OpError
wide_local_at op c = made (λ slot. instrs.Local op slot true) (u2_at cut) c

unfoldable pub wide_increment_at : Cursor → Result (Instr × Cursor) OpError
wide_increment_at c = made (λ v. instrs.Inc v.0 v.1 true) (both (u2_at cut) s2_at) c

abbrev pub wide_form_at : OperandForm → ℕ → Cursor → Result (Instr × Cursor) OpError
wide_form_at Slot op c = wide_local_at op c
wide_form_at SlotAndByte op c = wide_increment_at c
wide_form_at _ op c = Err errors.BadOperand

unfoldable pub wide_at : Cursor → Result (Instr × Cursor) OpError
wide_at c = do
  op ← u1_at cut c
  wide_form_at (form_of op.0) op.0 op.1

-- ---- switches

unfoldable pub target_at : ℕ → Cursor → Result (ℤ × Cursor) OpError
target_at at c = made (target at) s4_at c

unfoldable pub pair_at : ℕ → Cursor → Result ((ℤ × ℤ) × Cursor) OpError
pair_at at c = both s4_at (target_at at) c

-- default, low and high
unfoldable pub bounds_at : ℕ → Cursor → Result ((ℤ × (ℤ × ℤ)) × Cursor) OpError
bounds_at at c = both (target_at at) (both s4_at s4_at) c

unfoldable pub table_from : ℕ → Cursor → Result (Instr × Cursor) OpError
table_from at c = do
  bounds ← bounds_at at c
  if int_lt bounds.0.1.1 bounds.0.1.0 then Err errors.BadOperand else made (instrs.Table bounds.0.1.0 bounds.0.0)
      (many_at (target_at at) (unsigned_abs (bounds.0.1.1 -ℤ bounds.0.1.0) + 1)) bounds.1

-- default and npairs
unfoldable pub count_at : ℕ → Cursor → Result ((ℤ × ℤ) × Cursor) OpError
count_at at c = both (target_at at) s4_at c

unfoldable pub lookup_from : ℕ → Cursor → Result (Instr × Cursor) OpError
lookup_from at c = do
  count ← count_at at c
  if int_lt count.0.1 (pos 0) then Err errors.BadOperand else checked rises (instrs.Lookup count.0.0)
      (many_at (pair_at at) (unsigned_abs count.0.1)) count.1

-- what follows the padding
unfoldable pub padded_at : ℕ → (Cursor → Result (Instr × Cursor) OpError) → Cursor → Result (Instr × Cursor) OpError
padded_at at part c = do
  padding ← block_at cut (padding_count at) c
  part padding.1

-- ---- whole instructions

-- what follows an opcode of this form at this address
abbrev pub operands_at : OperandForm → ℕ → ℕ → Cursor → Result (Instr × Cursor) OpError
operands_at Bare at op c = Ok (instrs.Simple op, c)
operands_at SignedByte at op c = byte_push_at op c
operands_at SignedShort at op c = short_push_at op c
operands_at ShortLiteral at op c = short_literal_at op c
operands_at LongLiteral at op c = long_literal_at op c
operands_at Slot at op c = local_at op c
operands_at SlotAndByte at op c = increment_at c
operands_at ShortOffset at op c = short_branch_at at op c
operands_at LongOffset at op c = long_branch_at at op c
operands_at MemberIndex at op c = member_at op c
operands_at InterfaceIndex at op c = interface_at c
operands_at DynamicIndex at op c = dynamic_at c
operands_at ClassIndex at op c = class_at op c
operands_at ArrayType at op c = array_at c
operands_at MultiIndex at op c = multi_at c
operands_at TableSwitch at op c = padded_at at (table_from at) c
operands_at LookupSwitch at op c = padded_at at (lookup_from at) c
operands_at WidePrefix at op c = wide_at c
operands_at Reserved at op c = Err (errors.Reserved op)

unfoldable pub instr_at : Cursor → Result (Instr × Cursor) OpError
instr_at c = do
  op ← u1_at cut c
  operands_at (form_of op.0) c.place op.0 op.1
