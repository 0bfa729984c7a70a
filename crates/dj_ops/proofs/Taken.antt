-- What is read behind an opcode is spelled so, for all forms.
use Rattle.std.proofs.Common.{◌≡◌, ℕ, ◌<◌, Ok}
use Rattle.dj_cursor.specs.Reading.{Cursor}
use Rattle.dj_cursor.proofs.Bytes.{IsBytes}
use Rattle.dj_ops.specs.declared.instruction.Instr.{Instr}
use Rattle.dj_ops.specs.trusted.Forms.{OperandForm, Bare, SignedByte, SignedShort, ShortLiteral, LongLiteral, Slot, SlotAndByte, ShortOffset, LongOffset, MemberIndex, InterfaceIndex, DynamicIndex, ClassIndex, ArrayType, MultiIndex, TableSwitch, LookupSwitch, WidePrefix, Reserved, form_of}
use Rattle.dj_ops.specs.Reading.{operands_at}
use Rattle.dj_ops.proofs.Parts.{Taken}
use Rattle.dj_ops.proofs.FormFacts.{increment_alone, interface_alone, dynamic_alone, array_alone, multi_alone, table_alone, lookup_alone, wide_alone}
use Rattle.dj_ops.proofs.Families.{alone, bare_taken, byte_push_taken, short_push_taken, short_literal_taken, long_literal_taken, local_taken, increment_taken, short_branch_taken, long_branch_taken, member_taken, class_taken, interface_taken, dynamic_taken, array_taken, multi_taken, wide_taken}
use Rattle.dj_ops.proofs.SwitchLaws.{padded_table_taken, padded_lookup_taken}

pub form_taken : (form : OperandForm) (at op : ℕ) (c : Cursor) (x : Instr × Cursor) → form_of op ≡ form → op < 256 → IsBytes c.rest → operands_at form at op c ≡ Ok x → Taken at op c x
form_taken Bare at op c x f lt fits e = bare_taken at op c x f e
form_taken SignedByte at op c x f lt fits e = byte_push_taken at op c x f fits e
form_taken SignedShort at op c x f lt fits e = short_push_taken at op c x f fits e
form_taken ShortLiteral at op c x f lt fits e = short_literal_taken at op c x f fits e
form_taken LongLiteral at op c x f lt fits e = long_literal_taken at op c x f fits e
form_taken Slot at op c x f lt fits e = local_taken at op c x f fits e
form_taken SlotAndByte at op c x f lt fits e = alone (increment_alone op lt f) (increment_taken at c x fits e)
form_taken ShortOffset at op c x f lt fits e = short_branch_taken at op c x f fits e
form_taken LongOffset at op c x f lt fits e = long_branch_taken at op c x f fits e
form_taken MemberIndex at op c x f lt fits e = member_taken at op c x f fits e
form_taken InterfaceIndex at op c x f lt fits e = alone (interface_alone op lt f) (interface_taken at c x fits e)
form_taken DynamicIndex at op c x f lt fits e = alone (dynamic_alone op lt f) (dynamic_taken at c x fits e)
form_taken ClassIndex at op c x f lt fits e = class_taken at op c x f fits e
form_taken ArrayType at op c x f lt fits e = alone (array_alone op lt f) (array_taken at c x fits e)
form_taken MultiIndex at op c x f lt fits e = alone (multi_alone op lt f) (multi_taken at c x fits e)
form_taken TableSwitch at op c x f lt fits e = alone (table_alone op lt f) (padded_table_taken at c x fits e)
form_taken LookupSwitch at op c x f lt fits e = alone (lookup_alone op lt f) (padded_lookup_taken at c x fits e)
form_taken WidePrefix at op c x f lt fits e = alone (wide_alone op lt f) (wide_taken at c x fits e)
form_taken Reserved at op c x f lt fits e = absurd cc
