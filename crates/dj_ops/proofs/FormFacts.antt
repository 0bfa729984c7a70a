-- What the table of forms says of opcodes.
use Rattle.std.proofs.Common.{◌≡◌, ℕ, ◌<◌, ◌≤◌, ◌⊎◌, ◌&&◌, Bool, ℤ, true, false, eqb, ltb, nat_le, List, [], ◌∷◌, refl, sym, ap, ◌∙◌, arith, inl, inr}
use Rattle.std.specs.List.{AllByRecursion}
use Rattle.std.proofs.lemmas.Bool.{agree_below, agree_below_at, cases_lt, eqb-true, eq-eqb, cond-true, le-leb, lt-ltb, ltb-true}
use Rattle.dj_ops.specs.trusted.Instructions.{IsOffset}
use Rattle.dj_ops.specs.trusted.Forms.{OperandForm, Bare, SignedByte, SignedShort, ShortLiteral, LongLiteral, Slot, SlotAndByte, ShortOffset, LongOffset, MemberIndex, InterfaceIndex, DynamicIndex, ClassIndex, ArrayType, MultiIndex, TableSwitch, LookupSwitch, WidePrefix, Reserved, form_rows, form_in, form_of}

-- a number for each form
abbrev pub number_of : OperandForm → ℕ
number_of Bare = 0
number_of SignedByte = 1
number_of SignedShort = 2
number_of ShortLiteral = 3
number_of LongLiteral = 4
number_of Slot = 5
number_of SlotAndByte = 6
number_of ShortOffset = 7
number_of LongOffset = 8
number_of MemberIndex = 9
number_of InterfaceIndex = 10
number_of DynamicIndex = 11
number_of ClassIndex = 12
number_of ArrayType = 13
number_of MultiIndex = 14
number_of TableSwitch = 15
number_of LookupSwitch = 16
number_of WidePrefix = 17
number_of Reserved = 18

-- the form of this number is this opcode's alone
abbrev pub IsLone : ℕ → ℕ → Type 0
IsLone number lone = agree_below (λ op. eqb (number_of (form_of op)) number) (λ op. eqb op lone) 256 ≡ true

pub lone_opcode : (form : OperandForm) (lone op : ℕ) → IsLone (number_of form) lone → op < 256 → form_of op ≡ form → op ≡ lone
lone_opcode form lone op table lt e =
    let same : eqb (number_of (form_of op)) (number_of form) ≡ true = eq-eqb _ _ (ap number_of e) in
    eqb-true op lone (sym (agree_below_at (λ op. eqb (number_of (form_of op)) (number_of form)) (λ op. eqb op lone) 256 op table lt) ∙ same)

pub increment_alone : (op : ℕ) → op < 256 → form_of op ≡ SlotAndByte → op ≡ 132
unfolding form_of
increment_alone op = lone_opcode SlotAndByte 132 op refl

pub interface_alone : (op : ℕ) → op < 256 → form_of op ≡ InterfaceIndex → op ≡ 185
unfolding form_of
interface_alone op = lone_opcode InterfaceIndex 185 op refl

pub dynamic_alone : (op : ℕ) → op < 256 → form_of op ≡ DynamicIndex → op ≡ 186
unfolding form_of
dynamic_alone op = lone_opcode DynamicIndex 186 op refl

pub array_alone : (op : ℕ) → op < 256 → form_of op ≡ ArrayType → op ≡ 188
unfolding form_of
array_alone op = lone_opcode ArrayType 188 op refl

pub multi_alone : (op : ℕ) → op < 256 → form_of op ≡ MultiIndex → op ≡ 197
unfolding form_of
multi_alone op = lone_opcode MultiIndex 197 op refl

pub table_alone : (op : ℕ) → op < 256 → form_of op ≡ TableSwitch → op ≡ 170
unfolding form_of
table_alone op = lone_opcode TableSwitch 170 op refl

pub lookup_alone : (op : ℕ) → op < 256 → form_of op ≡ LookupSwitch → op ≡ 171
unfolding form_of
lookup_alone op = lone_opcode LookupSwitch 171 op refl

pub wide_alone : (op : ℕ) → op < 256 → form_of op ≡ WidePrefix → op ≡ 196
unfolding form_of
wide_alone op = lone_opcode WidePrefix 196 op refl

-- ---- the opcodes that stand alone in their family

pub increment_form : form_of 132 ≡ SlotAndByte
unfolding form_of
increment_form = refl

pub interface_form : form_of 185 ≡ InterfaceIndex
unfolding form_of
interface_form = refl

pub dynamic_form : form_of 186 ≡ DynamicIndex
unfolding form_of
dynamic_form = refl

pub array_form : form_of 188 ≡ ArrayType
unfolding form_of
array_form = refl

pub multi_form : form_of 197 ≡ MultiIndex
unfolding form_of
multi_form = refl

pub table_form : form_of 170 ≡ TableSwitch
unfolding form_of
table_form = refl

pub lookup_form : form_of 171 ≡ LookupSwitch
unfolding form_of
lookup_form = refl

pub wide_form : form_of 196 ≡ WidePrefix
unfolding form_of
wide_form = refl

-- ---- opcodes of no instruction

reserved_table : agree_below (λ op. eqb (number_of (form_of op)) 18) (λ op. ltb 202 op) 256 ≡ true
unfolding form_of
reserved_table = refl

is_reserved : (form : OperandForm) → eqb (number_of form) 18 ≡ true → form ≡ Reserved
is_reserved Reserved h = refl
is_reserved _ h = absurd cc

pub reserved_high : (op : ℕ) → op < 256 → form_of op ≡ Reserved → 203 ≤ op
reserved_high op lt e =
    let high : 202 < op = ltb-true 202 op (sym (agree_below_at (λ op. eqb (number_of (form_of op)) 18) (λ op. ltb 202 op) 256 op reserved_table lt) ∙ eq-eqb _ _ (ap number_of e)) in
    omega arith

pub high_reserved : (op : ℕ) → op < 256 → 203 ≤ op → form_of op ≡ Reserved
high_reserved op lt high =
    is_reserved _ (agree_below_at (λ op. eqb (number_of (form_of op)) 18) (λ op. ltb 202 op) 256 op reserved_table lt ∙ lt-ltb 202 op (omega arith))

-- the form of the last row
last_form : OperandForm → List (ℕ × OperandForm) → OperandForm
last_form form [] = form
last_form form (row ∷ rows) = last_form row.1 rows

past_all : (form : OperandForm) (rows : List (ℕ × OperandForm)) (op : ℕ) → AllByRecursion (λ row. row.0 ≤ op) rows → form_in form rows op ≡ last_form form rows
unfolding last_form
past_all form [] op below = refl
past_all form (row ∷ rows) op below = cond-true (nat_le row.0 op) _ _ (le-leb _ _ below.0) ∙ past_all row.1 rows op below.1

rows_below : (op : ℕ) → 256 ≤ op → AllByRecursion (λ row. row.0 ≤ op) form_rows
rows_below op high = search arith

-- an instruction's opcode is a byte
pub opcode_below : (op : ℕ) → (form_of op ≡ Reserved → ⊥) → op < 256
unfolding form_of last_form
opcode_below op other =
    elim (cases_lt op 256) [
      | inl lt ↦ lt
      | inr high ↦ absurd (other (past_all Bare form_rows op (rows_below op high)))
    ]

-- ---- jumps: those with four bytes are the last

short_table : agree_below (λ op. eqb (number_of (form_of op)) 7) (λ op. eqb (number_of (form_of op)) 7 && ltb op 200) 256 ≡ true
unfolding form_of
short_table = refl

long_table : agree_below (λ op. eqb (number_of (form_of op)) 8) (λ op. eqb (number_of (form_of op)) 8 && ltb 199 op) 256 ≡ true
unfolding form_of
long_table = refl

and_right : (a b : Bool) → (a && b) ≡ true → b ≡ true
and_right true b h = h
and_right false b h = absurd cc

short_below : (op : ℕ) → op < 256 → form_of op ≡ ShortOffset → op < 200
short_below op lt e =
    ltb-true op 200 (and_right _ _ (sym (agree_below_at (λ op. eqb (number_of (form_of op)) 7) (λ op. eqb (number_of (form_of op)) 7 && ltb op 200) 256 op short_table lt) ∙ eq-eqb _ _ (ap number_of e)))

long_above : (op : ℕ) → op < 256 → form_of op ≡ LongOffset → 199 < op
long_above op lt e =
    ltb-true 199 op (and_right _ _ (sym (agree_below_at (λ op. eqb (number_of (form_of op)) 8) (λ op. eqb (number_of (form_of op)) 8 && ltb 199 op) 256 op long_table lt) ∙ eq-eqb _ _ (ap number_of e)))

offset_forms : (form : OperandForm) (z : ℤ) → IsOffset form z → (form ≡ ShortOffset) ⊎ (form ≡ LongOffset)
offset_forms ShortOffset z h = inl refl
offset_forms LongOffset z h = inr refl
offset_forms _ z h = absurd h

pub short_form : (op : ℕ) (z : ℤ) → op < 200 → IsOffset (form_of op) z → form_of op ≡ ShortOffset
short_form op z low h =
    elim (offset_forms (form_of op) z h) [
      | inl e ↦ e
      | inr e ↦ absurd (omega (arith, long_above op (omega arith) e))
    ]

pub long_form : (op : ℕ) (z : ℤ) → op < 256 → 200 ≤ op → IsOffset (form_of op) z → form_of op ≡ LongOffset
long_form op z lt high h =
    elim (offset_forms (form_of op) z h) [
      | inl e ↦ absurd (omega (arith, short_below op lt e))
      | inr e ↦ e
    ]
