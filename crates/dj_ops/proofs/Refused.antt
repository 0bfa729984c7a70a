-- What follows an opcode is refused for its cause, and where the cause is, for all forms.
use Rattle.std.proofs.Common.{◌≡◌, ℕ, List, Err, refl, ap, subst, ◌∙◌, arith}
use Rattle.dj_cursor.specs.Reading.{Cursor}
use Rattle.dj_cursor.proofs.Bytes.{IsBytes}
use Rattle.dj_ops.specs.declared.instruction.Instr.{Instr}
use Rattle.dj_ops.specs.declared.read.OpError.{OpError}
use Rattle.dj_ops.specs.declared.read.OpError.TheVariants as errors
use Rattle.dj_ops.specs.trusted.Forms.{OperandForm, Bare, SignedByte, SignedShort, ShortLiteral, LongLiteral, Slot, SlotAndByte, ShortOffset, LongOffset, MemberIndex, InterfaceIndex, DynamicIndex, ClassIndex, ArrayType, MultiIndex, TableSwitch, LookupSwitch, WidePrefix, Reserved}
use Rattle.dj_ops.specs.Refusals.{Lacks, IsBad}
use Rattle.dj_ops.specs.Reading.{operands_at}
use Rattle.dj_ops.proofs.Parts.{err_is}
use Rattle.dj_ops.proofs.Causes.{fixed_fails, interface_fails, interface_bad, interface_short, dynamic_fails, dynamic_bad, dynamic_short, array_fails, array_bad, array_short, multi_fails, multi_bad, multi_short, wide_fails, wide_short, wide_bad, byte_push_fixed, short_push_fixed, short_literal_fixed, long_literal_fixed, local_fixed, increment_fixed, short_branch_fixed, long_branch_fixed, member_fixed, class_fixed}
use Rattle.dj_ops.proofs.SwitchCauses.{padded_table_fails, padded_table_lacks, padded_table_falls, padded_lookup_fails, padded_lookup_lacks, padded_lookup_bad}

-- why what follows an opcode of this form was refused
abbrev pub Refused : ℕ → ℕ → OperandForm → List ℕ → OpError → Type 0
Refused at op form operands (errors.Reserved o) = (form ≡ Reserved) × (op ≡ o)
Refused at op form operands errors.Cut = Lacks at form operands
Refused at op form operands errors.BadOperand = IsBad at form operands
Refused at op form operands errors.Memory = ⊥

pub form_fails : (form : OperandForm) (at op : ℕ) (c : Cursor) (e : OpError) → IsBytes c.rest → operands_at form at op c ≡ Err e → Refused at op form c.rest e
form_fails Bare at op c e fits h = absurd cc
form_fails SignedByte at op c e fits h = fixed_fails (byte_push_fixed op) (Refused at op SignedByte c.rest) c e (λ lt. lt) h
form_fails SignedShort at op c e fits h = fixed_fails (short_push_fixed op) (Refused at op SignedShort c.rest) c e (λ lt. lt) h
form_fails ShortLiteral at op c e fits h = fixed_fails (short_literal_fixed op) (Refused at op ShortLiteral c.rest) c e (λ lt. lt) h
form_fails LongLiteral at op c e fits h = fixed_fails (long_literal_fixed op) (Refused at op LongLiteral c.rest) c e (λ lt. lt) h
form_fails Slot at op c e fits h = fixed_fails (local_fixed op) (Refused at op Slot c.rest) c e (λ lt. lt) h
form_fails SlotAndByte at op c e fits h = fixed_fails increment_fixed (Refused at op SlotAndByte c.rest) c e (λ lt. lt) h
form_fails ShortOffset at op c e fits h = fixed_fails (short_branch_fixed at op) (Refused at op ShortOffset c.rest) c e (λ lt. lt) h
form_fails LongOffset at op c e fits h = fixed_fails (long_branch_fixed at op) (Refused at op LongOffset c.rest) c e (λ lt. lt) h
form_fails MemberIndex at op c e fits h = fixed_fails (member_fixed op) (Refused at op MemberIndex c.rest) c e (λ lt. lt) h
form_fails InterfaceIndex at op c e fits h = interface_fails (Refused at op InterfaceIndex c.rest) c e fits (λ lt. lt) (λ bad. bad) h
form_fails DynamicIndex at op c e fits h = dynamic_fails (Refused at op DynamicIndex c.rest) c e fits (λ lt. lt) (λ bad. bad) h
form_fails ClassIndex at op c e fits h = fixed_fails (class_fixed op) (Refused at op ClassIndex c.rest) c e (λ lt. lt) h
form_fails ArrayType at op c e fits h = array_fails (Refused at op ArrayType c.rest) c e fits (λ lt. lt) (λ bad. bad) h
form_fails MultiIndex at op c e fits h = multi_fails (Refused at op MultiIndex c.rest) c e fits (λ lt. lt) (λ bad. bad) h
form_fails TableSwitch at op c e fits h = padded_table_fails (Refused at op TableSwitch c.rest) at c e fits (λ lacks. lacks) (λ bad. bad) h
form_fails LookupSwitch at op c e fits h = padded_lookup_fails (Refused at op LookupSwitch c.rest) at c e fits (λ lacks. lacks) (λ bad. bad) h
form_fails WidePrefix at op c e fits h = wide_fails (Refused at op WidePrefix c.rest) at c e fits (λ lacks. lacks) (λ bad. bad) h
form_fails Reserved at op c e fits h = subst (Refused at op Reserved c.rest) (err_is {A = Instr × Cursor} {d = errors.Reserved op} h) (refl, refl)

form_lacks : (form : OperandForm) (at op : ℕ) (c : Cursor) → IsBytes c.rest → Lacks at form c.rest → operands_at form at op c ≡ Err errors.Cut
form_lacks Bare at op c fits lacks = absurd (omega (arith, lacks))
form_lacks SignedByte at op c fits lacks = (byte_push_fixed op).short c lacks
form_lacks SignedShort at op c fits lacks = (short_push_fixed op).short c lacks
form_lacks ShortLiteral at op c fits lacks = (short_literal_fixed op).short c lacks
form_lacks LongLiteral at op c fits lacks = (long_literal_fixed op).short c lacks
form_lacks Slot at op c fits lacks = (local_fixed op).short c lacks
form_lacks SlotAndByte at op c fits lacks = increment_fixed.short c lacks
form_lacks ShortOffset at op c fits lacks = (short_branch_fixed at op).short c lacks
form_lacks LongOffset at op c fits lacks = (long_branch_fixed at op).short c lacks
form_lacks MemberIndex at op c fits lacks = (member_fixed op).short c lacks
form_lacks InterfaceIndex at op c fits lacks = interface_short c lacks
form_lacks DynamicIndex at op c fits lacks = dynamic_short c lacks
form_lacks ClassIndex at op c fits lacks = (class_fixed op).short c lacks
form_lacks ArrayType at op c fits lacks = array_short c lacks
form_lacks MultiIndex at op c fits lacks = multi_short c lacks
form_lacks TableSwitch at op c fits lacks = padded_table_lacks at c fits lacks
form_lacks LookupSwitch at op c fits lacks = padded_lookup_lacks at c fits lacks
form_lacks WidePrefix at op c fits lacks = wide_short at c fits lacks
form_lacks Reserved at op c fits lacks = absurd lacks

form_bad : (form : OperandForm) (at op : ℕ) (c : Cursor) → IsBytes c.rest → IsBad at form c.rest → operands_at form at op c ≡ Err errors.BadOperand
form_bad InterfaceIndex at op c fits bad = interface_bad c fits bad.0 bad.1
form_bad DynamicIndex at op c fits bad = dynamic_bad c fits bad.0 bad.1
form_bad ArrayType at op c fits bad = array_bad c fits bad.0 bad.1
form_bad MultiIndex at op c fits bad = multi_bad c fits bad.0 bad.1
form_bad TableSwitch at op c fits bad = padded_table_falls at c fits bad
form_bad LookupSwitch at op c fits bad = padded_lookup_bad at c fits bad
form_bad WidePrefix at op c fits bad = wide_bad at c fits bad
form_bad _ at op c fits bad = absurd bad

pub form_refuses : (form : OperandForm) (at op : ℕ) (c : Cursor) (e : OpError) → IsBytes c.rest → Refused at op form c.rest e → operands_at form at op c ≡ Err e
form_refuses form at op c (errors.Reserved o) fits h = ap (λ (f : OperandForm). operands_at f at op c) h.0 ∙ ap (λ (k : ℕ). Err (errors.Reserved k)) h.1
form_refuses form at op c errors.Cut fits h = form_lacks form at op c fits h
form_refuses form at op c errors.BadOperand fits h = form_bad form at op c fits h
form_refuses form at op c errors.Memory fits h = absurd h
