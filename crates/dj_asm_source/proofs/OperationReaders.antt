-- The readers of instructions, after their words, by the forms of their operands.
use Rattle.std.proofs.Common.{◌≡◌, ◌↔◌, ℕ, Bool, true, false, cond, eqb, leb, ◌||◌, ℤ, pos, FitsSigned, List, [], ◌∷◌, ◌++◌, drop, None, codes, refl, sym, subst}
use Rattle.std.specs.Prelude.{⊤}
use Rattle.std.specs.Int.{w8, w16, w32}
use Rattle.dj_names.specs.trusted.Types.{Name}
use Rattle.dj_names.specs.trusted.Names.{IsUnqualifiedName, IsMethodName}
use Rattle.dj_names.specs.trusted.Descriptors.{IsFieldDescriptor, IsMethodDescriptor, IsArrayDescriptor}
use Rattle.dj_names.specs.Tests.{unqualified_name_test, method_name_test, field_descriptor_test, method_descriptor_test, array_descriptor_test}
use Rattle.dj_ops.specs.trusted.Forms.{OperandForm, Bare, SignedByte, SignedShort, ShortLiteral, LongLiteral, Slot, SlotAndByte, ShortOffset, LongOffset, MemberIndex, InterfaceIndex, DynamicIndex, ClassIndex, ArrayType, MultiIndex, TableSwitch, LookupSwitch, WidePrefix, Reserved, form_of}
use Rattle.dj_ops.specs.trusted.Instructions.{IsPushed}
use Rattle.dj_pool.specs.trusted.Pool.{IsClassText}
use Rattle.dj_asm_source.specs.trusted.Items.{Item, Ended}
use Rattle.dj_asm_source.specs.trusted.Lines.{Label, Literal, IsLiteralName, Operation, Plain, Push, Local, Increment, Load, LoadLong, Jump, Table, Lookup, Member, Dynamic, ClassOf, Array, Multi, operation_items, IsSizedOperation, FitsBits, slot_bits, FitsIncrement}
use Rattle.dj_asm_tokens.specs.WordReading.{class_text_test}
use Rattle.dj_asm_source.specs.Reading.{◌&◌, is_signed, is_between}
use Rattle.dj_asm_source.specs.LineReading.{line_end, number, name, label, keyword, base, fits_16, slot_fits, increment_fits, literal, targets, LabelPairs, pairs_after, interface_end, plain, push, slot, increment, load, load_long, jump, table, lookup, field_use, open_method_use, method_use, dynamic, class_of, array, multi}
use Rattle.dj_asm_source.proofs.Readers.{Lang, IsReader, both, sequence_reads, IsMade, mapped_reads}
use Rattle.dj_asm_source.proofs.WordLaws.{bits_decide, signed_8, signed_16, signed_32}
use Rattle.dj_asm_source.proofs.FieldReaders.{all, end_lang, end_reads, label_lang, label_reads, keyword_lang, keyword_reads, base_lang, base_reads, number_lang, number_reads, name_lang, class_text_reads, field_name_reads, method_name_reads, field_desc_reads, method_desc_reads, array_desc_reads}
use Rattle.dj_asm_source.proofs.ListReaders.{targets_lang, targets_reads, pairs_lang, pairs_reads}
use Rattle.dj_asm_source.proofs.ValueReaders.{literal_lang, literal_reads, interface_lang, interface_reads, long_lang, long_reads}

-- ---- what is made

abbrev pub plain_of : ℕ → ⊤ → Operation
plain_of op x = Plain op

abbrev pub push_of : ℕ → ℤ × ⊤ → Operation
push_of op x = Push op x.0

abbrev pub slot_of : Bool → ℕ → ℤ × ⊤ → Operation
slot_of is_wide op x = Local is_wide op x.0

abbrev pub increment_of : Bool → ℤ × (ℤ × ⊤) → Operation
increment_of is_wide x = Increment is_wide x.0 x.1.0

abbrev pub load_of : ℕ → Literal → Operation
load_of op x = Load op x

abbrev pub load_long_of : ⊤ × (ℤ × ⊤) → Operation
load_long_of x = LoadLong x.1.0

abbrev pub jump_of : ℕ → Label × ⊤ → Operation
jump_of op x = Jump op x.0

abbrev pub table_of : ℤ × (List Label × Label) → Operation
table_of x = Table x.0 x.1.0 x.1.1

abbrev pub lookup_of : LabelPairs → Operation
lookup_of x = Lookup x.0 x.1

abbrev pub member_of : ℕ → Name × (Name × (Name × ⊤)) → Operation
member_of op x = Member op x.0 x.1.0 x.1.1.0 false

abbrev pub open_member_of : ℕ → Name × (Name × (Name × Bool)) → Operation
open_member_of op x = Member op x.0 x.1.0 x.1.1.0 x.1.1.1

abbrev pub dynamic_of : ℤ × (Name × (Name × ⊤)) → Operation
dynamic_of x = Dynamic x.0 x.1.0 x.1.1.0

abbrev pub class_made : ℕ → Name × ⊤ → Operation
class_made op x = ClassOf op x.0

abbrev pub array_of : ℕ × ⊤ → Operation
array_of x = Array x.0

abbrev pub multi_of : Name × (ℤ × ⊤) → Operation
multi_of x = Multi x.0 x.1.0

-- ---- the languages of operands

abbrev pub signed_lang : (ℤ → Type 0) → Lang (ℤ × ⊤)
signed_lang fits = both (number_lang fits) end_lang

abbrev pub slot_lang : Bool → Lang (ℤ × ⊤)
slot_lang is_wide = both (number_lang (FitsBits (slot_bits is_wide))) end_lang

abbrev pub increment_lang : Bool → Lang (ℤ × (ℤ × ⊤))
increment_lang is_wide = both (number_lang (FitsBits (slot_bits is_wide))) (both (number_lang (FitsIncrement is_wide)) end_lang)

abbrev pub load_long_lang : Lang (⊤ × (ℤ × ⊤))
load_long_lang = both (keyword_lang (codes "long")) long_lang

abbrev pub jump_lang : Lang (Label × ⊤)
jump_lang = both label_lang end_lang

abbrev pub table_lang : Lang (ℤ × (List Label × Label))
table_lang = both (number_lang (FitsSigned w32)) targets_lang

abbrev pub field_use_lang : Lang (Name × (Name × (Name × ⊤)))
field_use_lang = both (name_lang IsClassText) (both (name_lang IsUnqualifiedName) (both (name_lang IsFieldDescriptor) end_lang))

abbrev pub open_use_lang : Lang (Name × (Name × (Name × Bool)))
open_use_lang = both (name_lang IsClassText) (both (name_lang IsMethodName) (both (name_lang IsMethodDescriptor) interface_lang))

abbrev pub method_use_lang : Lang (Name × (Name × (Name × ⊤)))
method_use_lang = both (name_lang IsClassText) (both (name_lang IsMethodName) (both (name_lang IsMethodDescriptor) end_lang))

abbrev pub dynamic_lang : Lang (ℤ × (Name × (Name × ⊤)))
dynamic_lang = both (number_lang (FitsBits 16)) (both (name_lang IsMethodName) (both (name_lang IsMethodDescriptor) end_lang))

abbrev pub class_lang : Lang (Name × ⊤)
class_lang = both (name_lang IsClassText) end_lang

abbrev pub array_lang : Lang (ℕ × ⊤)
array_lang = both base_lang end_lang

abbrev pub multi_lang : Lang (Name × (ℤ × ⊤))
multi_lang = both (name_lang IsArrayDescriptor) (both (number_lang (FitsBits 8)) end_lang)

-- ---- which operations a word begins, by its form

-- 20 loads a long, and other opcodes what ldc loads
abbrev pub IsLoadBy : Bool → ℕ → Operation → Type 0
IsLoadBy true op o = IsMade load_long_of load_long_lang.is o
IsLoadBy false op o = IsMade (load_of op) literal_lang.is o

-- a field up to 181, else a method that may be marked or not
abbrev pub IsMemberBy : Bool → Bool → ℕ → Operation → Type 0
IsMemberBy true marked op o = IsMade (member_of op) field_use_lang.is o
IsMemberBy false true op o = IsMade (open_member_of op) open_use_lang.is o
IsMemberBy false false op o = IsMade (member_of op) method_use_lang.is o

abbrev pub may_mark : ℕ → Bool
may_mark op = eqb op 183 || eqb op 184

-- after `wide`
abbrev pub IsWide : Operation → Type 0
IsWide (Local true op n) = form_of op ≡ Slot
IsWide (Increment true n by) = ⊤
IsWide o = ⊥

abbrev pub IsOperationBy : ℕ → OperandForm → Operation → Type 0
IsOperationBy op Bare o = IsMade (plain_of op) all o
IsOperationBy op SignedByte o = IsMade (push_of op) (λ (x : ℤ × ⊤). ⊤ × ⊤) o
IsOperationBy op SignedShort o = IsMade (push_of op) (λ (x : ℤ × ⊤). ⊤ × ⊤) o
IsOperationBy op ShortLiteral o = IsMade (load_of op) literal_lang.is o
IsOperationBy op LongLiteral o = IsLoadBy (eqb op 20) op o
IsOperationBy op Slot o = IsMade (slot_of false op) (λ (x : ℤ × ⊤). ⊤ × ⊤) o
IsOperationBy op SlotAndByte o = IsMade (increment_of false) (increment_lang false).is o
IsOperationBy op ShortOffset o = IsMade (jump_of op) jump_lang.is o
IsOperationBy op LongOffset o = IsMade (jump_of op) jump_lang.is o
IsOperationBy op MemberIndex o = IsMemberBy (leb op 181) (may_mark op) op o
IsOperationBy op InterfaceIndex o = IsMemberBy (leb op 181) (may_mark op) op o
IsOperationBy op DynamicIndex o = IsMade dynamic_of dynamic_lang.is o
IsOperationBy op ClassIndex o = IsMade (class_made op) class_lang.is o
IsOperationBy op ArrayType o = IsMade array_of array_lang.is o
IsOperationBy op MultiIndex o = IsMade multi_of multi_lang.is o
IsOperationBy op TableSwitch o = IsMade table_of table_lang.is o
IsOperationBy op LookupSwitch o = IsMade lookup_of pairs_lang.is o
IsOperationBy op WidePrefix o = IsWide o
IsOperationBy op Reserved o = ⊥

abbrev pub done_items : Operation → List Item
done_items o = operation_items o ++ Ended ∷ []

-- what stands after the operation's word
abbrev pub operand_lang : (Operation → Type 0) → Lang Operation
operand_lang is = record { items = λ o. drop 1 (done_items o); is = is; fits = IsSizedOperation }

abbrev pub Operands : ℕ → OperandForm → Lang Operation
Operands op form = operand_lang (IsOperationBy op form)

-- ---- readers

pub plain_reads : (op : ℕ) → IsReader (Operands op Bare) (plain op)
plain_reads op =
    mapped_reads end_lang (Operands op Bare) (plain_of op) line_end
    (record { items = λ x i. refl; is = λ x i. (x, refl, i); fits = λ x f. tt; unfit = λ x f. tt; onto = λ o p. p }) end_reads

signed_reads : (test : ℤ → Bool) (fits : ℤ → Type 0) → ((z : ℤ) → (test z ≡ true) ↔ fits z) → test (pos 1) ≡ true → IsReader (signed_lang fits) (number test & line_end)
signed_reads test fits decides e = sequence_reads (number_lang fits) end_lang (number test) line_end (number_reads test fits decides e) end_reads

pub byte_reads : (op : ℕ) → form_of op ≡ SignedByte → IsReader (Operands op SignedByte) (push op (is_signed 7))
byte_reads op e =
    mapped_reads (signed_lang (FitsSigned w8)) (Operands op SignedByte) (push_of op) (number (is_signed 7) & line_end)
    (record { items = λ x i. refl; is = λ x i. (x, refl, i); fits = λ x f. subst (λ form. IsPushed form x.0) (sym e) f.0; unfit = λ x f. (subst (λ form. IsPushed form x.0) e f, tt); onto = λ o p. p })
    (signed_reads (is_signed 7) (FitsSigned w8) signed_8 refl)

pub short_reads : (op : ℕ) → form_of op ≡ SignedShort → IsReader (Operands op SignedShort) (push op (is_signed 15))
short_reads op e =
    mapped_reads (signed_lang (FitsSigned w16)) (Operands op SignedShort) (push_of op) (number (is_signed 15) & line_end)
    (record { items = λ x i. refl; is = λ x i. (x, refl, i); fits = λ x f. subst (λ form. IsPushed form x.0) (sym e) f.0; unfit = λ x f. (subst (λ form. IsPushed form x.0) e f, tt); onto = λ o p. p })
    (signed_reads (is_signed 15) (FitsSigned w16) signed_16 refl)

pub load_reads : (op : ℕ) (is : Operation → Type 0) → ((l : Literal) → IsLiteralName l → is (Load op l)) → ((o : Operation) → is o → IsMade (load_of op) literal_lang.is o) → IsReader (operand_lang is) (load op)
load_reads op is made onto =
    mapped_reads literal_lang (operand_lang is) (load_of op) literal
    (record { items = λ x i. refl; is = λ x i. made x i; fits = λ x f. f; unfit = λ x f. f; onto = onto }) literal_reads

load_long_reads : (op : ℕ) → IsReader (operand_lang (IsLoadBy true op)) load_long
load_long_reads op =
    mapped_reads load_long_lang (operand_lang (IsLoadBy true op)) load_long_of (keyword (codes "long") & (number (is_signed 63) & line_end))
    (record { items = λ x i. refl; is = λ x i. (x, refl, i); fits = λ x f. f.1.0; unfit = λ x f. (tt, (f, tt)); onto = λ o p. p })
    (sequence_reads (keyword_lang (codes "long")) long_lang (keyword (codes "long")) (number (is_signed 63) & line_end) (keyword_reads (codes "long")) long_reads)

pub long_literal_reads : (op : ℕ) (is_long : Bool) → IsReader (operand_lang (IsLoadBy is_long op)) (cond is_long load_long (load op))
long_literal_reads op true = load_long_reads op
long_literal_reads op false = load_reads op (IsLoadBy false op) (λ l i. (l, refl, i)) (λ o p. p)

slot_decides : (is_wide : Bool) (z : ℤ) → (slot_fits is_wide z ≡ true) ↔ FitsBits (slot_bits is_wide) z
slot_decides false z = bits_decide 8 255 refl z
slot_decides true z = bits_decide 16 65535 refl z

slot_one : (is_wide : Bool) → slot_fits is_wide (pos 1) ≡ true
slot_one false = refl
slot_one true = refl

increment_decides : (is_wide : Bool) (z : ℤ) → (increment_fits is_wide z ≡ true) ↔ FitsIncrement is_wide z
increment_decides false z = signed_8 z
increment_decides true z = signed_16 z

increment_one : (is_wide : Bool) → increment_fits is_wide (pos 1) ≡ true
increment_one false = refl
increment_one true = refl

slot_number_reads : (is_wide : Bool) → IsReader (number_lang (FitsBits (slot_bits is_wide))) (number (slot_fits is_wide))
slot_number_reads is_wide = number_reads (slot_fits is_wide) (FitsBits (slot_bits is_wide)) (slot_decides is_wide) (slot_one is_wide)

pub slot_reads : (is_wide : Bool) → IsReader (slot_lang is_wide) (number (slot_fits is_wide) & line_end)
slot_reads is_wide = sequence_reads (number_lang (FitsBits (slot_bits is_wide))) end_lang (number (slot_fits is_wide)) line_end (slot_number_reads is_wide) end_reads

pub increment_number_reads : (is_wide : Bool) → IsReader (increment_lang is_wide) (number (slot_fits is_wide) & (number (increment_fits is_wide) & line_end))
increment_number_reads is_wide =
    sequence_reads (number_lang (FitsBits (slot_bits is_wide))) (both (number_lang (FitsIncrement is_wide)) end_lang) (number (slot_fits is_wide)) (number (increment_fits is_wide) & line_end)
    (slot_number_reads is_wide)
    (sequence_reads (number_lang (FitsIncrement is_wide)) end_lang (number (increment_fits is_wide)) line_end
    (number_reads (increment_fits is_wide) (FitsIncrement is_wide) (increment_decides is_wide) (increment_one is_wide)) end_reads)

pub local_reads : (op : ℕ) → IsReader (Operands op Slot) (slot false op)
local_reads op =
    mapped_reads (slot_lang false) (Operands op Slot) (slot_of false op) (number (slot_fits false) & line_end)
    (record { items = λ x i. refl; is = λ x i. (x, refl, i); fits = λ x f. f.0; unfit = λ x f. (f, tt); onto = λ o p. p }) (slot_reads false)

pub increments_reads : (op : ℕ) → IsReader (Operands op SlotAndByte) (increment false)
increments_reads op =
    mapped_reads (increment_lang false) (Operands op SlotAndByte) (increment_of false) (number (slot_fits false) & (number (increment_fits false) & line_end))
    (record { items = λ x i. refl; is = λ x i. (x, refl, i); fits = λ x f. (f.0, f.1.0); unfit = λ x f. (f.0, (f.1, tt)); onto = λ o p. p }) (increment_number_reads false)

jump_line_reads : IsReader jump_lang (label & line_end)
jump_line_reads = sequence_reads label_lang end_lang label line_end label_reads end_reads

pub jump_reads : (op : ℕ) → IsReader (operand_lang (IsMade (jump_of op) jump_lang.is)) (jump op)
jump_reads op =
    mapped_reads jump_lang (operand_lang (IsMade (jump_of op) jump_lang.is)) (jump_of op) (label & line_end)
    (record { items = λ x i. refl; is = λ x i. (x, refl, i); fits = λ x f. tt; unfit = λ x f. (tt, tt); onto = λ o p. p }) jump_line_reads

field_use_reads : (op : ℕ) (marked : Bool) → IsReader (operand_lang (IsMemberBy true marked op)) (field_use op)
field_use_reads op marked =
    mapped_reads field_use_lang (operand_lang (IsMemberBy true marked op)) (member_of op)
    (name class_text_test & (name unqualified_name_test & (name field_descriptor_test & line_end)))
    (record { items = λ x i. refl; is = λ x i. (x, refl, i); fits = λ x f. tt; unfit = λ x f. (tt, (tt, (tt, tt))); onto = λ o p. p })
    (sequence_reads (name_lang IsClassText) (both (name_lang IsUnqualifiedName) (both (name_lang IsFieldDescriptor) end_lang)) (name class_text_test)
    (name unqualified_name_test & (name field_descriptor_test & line_end)) class_text_reads
    (sequence_reads (name_lang IsUnqualifiedName) (both (name_lang IsFieldDescriptor) end_lang) (name unqualified_name_test) (name field_descriptor_test & line_end) field_name_reads
    (sequence_reads (name_lang IsFieldDescriptor) end_lang (name field_descriptor_test) line_end field_desc_reads end_reads)))

described_reads : IsReader (both (name_lang IsMethodName) (both (name_lang IsMethodDescriptor) end_lang)) (name method_name_test & (name method_descriptor_test & line_end))
described_reads =
    sequence_reads (name_lang IsMethodName) (both (name_lang IsMethodDescriptor) end_lang) (name method_name_test) (name method_descriptor_test & line_end) method_name_reads
    (sequence_reads (name_lang IsMethodDescriptor) end_lang (name method_descriptor_test) line_end method_desc_reads end_reads)

open_use_reads : (op : ℕ) → IsReader (operand_lang (IsMemberBy false true op)) (open_method_use op)
open_use_reads op =
    mapped_reads open_use_lang (operand_lang (IsMemberBy false true op)) (open_member_of op)
    (name class_text_test & (name method_name_test & (name method_descriptor_test & interface_end)))
    (record { items = λ x i. refl; is = λ x i. (x, refl, i); fits = λ x f. tt; unfit = λ x f. (tt, (tt, (tt, tt))); onto = λ o p. p })
    (sequence_reads (name_lang IsClassText) (both (name_lang IsMethodName) (both (name_lang IsMethodDescriptor) interface_lang)) (name class_text_test)
    (name method_name_test & (name method_descriptor_test & interface_end)) class_text_reads
    (sequence_reads (name_lang IsMethodName) (both (name_lang IsMethodDescriptor) interface_lang) (name method_name_test) (name method_descriptor_test & interface_end) method_name_reads
    (sequence_reads (name_lang IsMethodDescriptor) interface_lang (name method_descriptor_test) interface_end method_desc_reads interface_reads)))

method_use_reads : (op : ℕ) → IsReader (operand_lang (IsMemberBy false false op)) (method_use op)
method_use_reads op =
    mapped_reads method_use_lang (operand_lang (IsMemberBy false false op)) (member_of op)
    (name class_text_test & (name method_name_test & (name method_descriptor_test & line_end)))
    (record { items = λ x i. refl; is = λ x i. (x, refl, i); fits = λ x f. tt; unfit = λ x f. (tt, (tt, (tt, tt))); onto = λ o p. p })
    (sequence_reads (name_lang IsClassText) (both (name_lang IsMethodName) (both (name_lang IsMethodDescriptor) end_lang)) (name class_text_test)
    (name method_name_test & (name method_descriptor_test & line_end)) class_text_reads described_reads)

pub member_reads : (op : ℕ) (is_field marked : Bool) → IsReader (operand_lang (IsMemberBy is_field marked op)) (cond is_field (field_use op) (cond marked (open_method_use op) (method_use op)))
member_reads op true marked = field_use_reads op marked
member_reads op false true = open_use_reads op
member_reads op false false = method_use_reads op

pub dynamic_reads : (op : ℕ) → IsReader (Operands op DynamicIndex) dynamic
dynamic_reads op =
    mapped_reads dynamic_lang (Operands op DynamicIndex) dynamic_of (number fits_16 & (name method_name_test & (name method_descriptor_test & line_end)))
    (record { items = λ x i. refl; is = λ x i. (x, refl, i); fits = λ x f. f.0; unfit = λ x f. (f, (tt, (tt, tt))); onto = λ o p. p })
    (sequence_reads (number_lang (FitsBits 16)) (both (name_lang IsMethodName) (both (name_lang IsMethodDescriptor) end_lang)) (number fits_16)
    (name method_name_test & (name method_descriptor_test & line_end)) (number_reads fits_16 (FitsBits 16) (bits_decide 16 65535 refl) refl) described_reads)

pub class_reads : (op : ℕ) → IsReader (Operands op ClassIndex) (class_of op)
class_reads op =
    mapped_reads class_lang (Operands op ClassIndex) (class_made op) (name class_text_test & line_end)
    (record { items = λ x i. refl; is = λ x i. (x, refl, i); fits = λ x f. tt; unfit = λ x f. (tt, tt); onto = λ o p. p })
    (sequence_reads (name_lang IsClassText) end_lang (name class_text_test) line_end class_text_reads end_reads)

pub array_reads : (op : ℕ) → IsReader (Operands op ArrayType) array
array_reads op =
    mapped_reads array_lang (Operands op ArrayType) array_of (base & line_end)
    (record { items = λ x i. refl; is = λ x i. (x, refl, i); fits = λ x f. tt; unfit = λ x f. (tt, tt); onto = λ o p. p })
    (sequence_reads base_lang end_lang base line_end base_reads end_reads)

pub multi_reads : (op : ℕ) → IsReader (Operands op MultiIndex) multi
multi_reads op =
    mapped_reads multi_lang (Operands op MultiIndex) multi_of (name array_descriptor_test & (number (is_between 0 255) & line_end))
    (record { items = λ x i. refl; is = λ x i. (x, refl, i); fits = λ x f. f.1.0; unfit = λ x f. (tt, (f, tt)); onto = λ o p. p })
    (sequence_reads (name_lang IsArrayDescriptor) (both (number_lang (FitsBits 8)) end_lang) (name array_descriptor_test) (number (is_between 0 255) & line_end) array_desc_reads
    (signed_reads (is_between 0 255) (FitsBits 8) (bits_decide 8 255 refl) refl))

pub table_reads : (op : ℕ) → IsReader (Operands op TableSwitch) table
table_reads op =
    mapped_reads table_lang (Operands op TableSwitch) table_of (number (is_signed 31) & targets)
    (record { items = λ x i. refl; is = λ x i. (x, refl, i); fits = λ x f. f.0; unfit = λ x f. (f, tt); onto = λ o p. p })
    (sequence_reads (number_lang (FitsSigned w32)) targets_lang (number (is_signed 31)) targets (number_reads (is_signed 31) (FitsSigned w32) signed_32 refl) targets_reads)

pub lookup_reads : (op : ℕ) → IsReader (Operands op LookupSwitch) lookup
lookup_reads op =
    mapped_reads pairs_lang (Operands op LookupSwitch) lookup_of (pairs_after None)
    (record { items = λ x i. refl; is = λ x i. (x, refl, i); fits = λ x f. f; unfit = λ x f. f; onto = λ o p. p }) pairs_reads
