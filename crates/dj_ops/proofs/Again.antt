-- What is spelled as an instruction is read as it.
use Rattle.std.proofs.Common.{◌≡◌, ℕ, ◌^◌, ◌<◌, ◌≤◌, ◌&&◌, Bool, true, false, ltb, eqb, nat_le, ℤ, pos, List, [], ◌∷◌, ◌++◌, length, Ok, FitsSigned, refl, sym, ap, ap₂, subst, ◌∙◌, arith}
use Rattle.std.specs.Int.{w8, w16}
use Rattle.std.specs.List.{flat_map}
use Rattle.std.proofs.lemmas.Bool.{le-leb, lt-ltb}
use Rattle.dj_cursor.specs.trusted.Spelling.{u2, s1, s2, s4}
use Rattle.dj_cursor.specs.Reading.{Cursor}
use Rattle.dj_cursor.proofs.Steps.{bind_again}
use Rattle.dj_cursor.proofs.Spans.{Spans, Spans-stay, step_again}
use Rattle.dj_cursor.proofs.Numbers.{u1_reads, u2_reads}
use Rattle.dj_ops.specs.declared.instruction.Instr.{Instr}
use Rattle.dj_ops.specs.declared.instruction.Instr.TheVariants as instrs
use Rattle.dj_ops.specs.trusted.Forms.{OperandForm, Bare, SignedByte, SignedShort, ShortLiteral, LongLiteral, Slot, SlotAndByte, ShortOffset, LongOffset, MemberIndex, InterfaceIndex, DynamicIndex, ClassIndex, ArrayType, MultiIndex, TableSwitch, LookupSwitch, WidePrefix, Reserved, form_of}
use Rattle.dj_ops.specs.trusted.Instructions.{signed_bytes, IsPushed, IsOffset, literal_bytes, IsLiteral, IsProper, offset, high_of, target_bytes, pair_bytes, SpellsInstruction}
use Rattle.dj_ops.specs.Reading.{cut, byte_push_at, short_push_at, short_literal_at, long_literal_at, local_at, increment_at, target, short_branch_at, long_branch_at, member_at, class_at, interface_at, dynamic_at, array_at, multi_at, wide_local_at, wide_increment_at, wide_form_at, wide_at, operands_at, instr_at}
use Rattle.dj_ops.proofs.Parts.{both_reads, s1_reads, s2_reads, s4_reads, made_again, checked_again}
use Rattle.dj_ops.proofs.Families.{target_of_offset, index_and_two_reads}
use Rattle.dj_ops.proofs.SwitchLaws.{padded_table_again, padded_lookup_again}
use Rattle.dj_ops.proofs.FormFacts.{opcode_below, increment_form, interface_form, dynamic_form, array_form, multi_form, table_form, lookup_form, wide_form}

-- ---- what stands at a cursor

-- whatever bytes follow, these are read as the instruction
abbrev ReadsBack : ℕ → Instr → List ℕ → Type 0
ReadsBack at instr text = (c next : Cursor) → c.place ≡ at → Spans c text next → instr_at c ≡ Ok (instr, next)

not_reserved : {form : OperandForm} {op : ℕ} → form_of op ≡ form → (form ≡ Reserved → ⊥) → op < 256
not_reserved {form} {op} e other = opcode_below op (λ r. other (sym e ∙ r))

-- an opcode, and what follows it
by_form : (form : OperandForm) (at op : ℕ) (instr : Instr) (text : List ℕ) → form_of op ≡ form → (form ≡ Reserved → ⊥)
    → ((c next : Cursor) → Spans c text next → operands_at form at op c ≡ Ok (instr, next)) → ReadsBack at instr (op ∷ text)
unfolding instr_at
by_form form at op instr text f other again c next here spans =
    let o = step_again (u1_reads cut) c op text next (not_reserved f other) spans in
    let read : operands_at form c.place op o.0 ≡ Ok (instr, next) = subst (λ (a : ℕ). operands_at form a op o.0 ≡ Ok (instr, next)) (sym here) (again o.0 next o.2) in
    bind_again _ o.1 (subst (λ (g : OperandForm). operands_at g c.place op o.0 ≡ Ok (instr, next)) (sym f) read)

-- ---- by families

simple_back : (at op : ℕ) → form_of op ≡ Bare → ReadsBack at (instrs.Simple op) (op ∷ [])
simple_back at op f = by_form Bare at op (instrs.Simple op) [] f (λ d. cc) (λ c next s. ap (λ (m : Cursor). Ok (instrs.Simple op, m)) (Spans-stay s))

push_back : (form : OperandForm) (at op : ℕ) (z : ℤ) → form_of op ≡ form → IsPushed form z → ReadsBack at (instrs.Push op z) (op ∷ signed_bytes form z)
unfolding byte_push_at short_push_at
push_back SignedByte at op z f good = by_form SignedByte at op _ _ f (λ d. cc) (λ c next s. made_again s1_reads (instrs.Push op) z c next good s)
push_back SignedShort at op z f good = by_form SignedShort at op _ _ f (λ d. cc) (λ c next s. made_again s2_reads (instrs.Push op) z c next good s)
push_back _ at op z f good = absurd good

literal_back : (form : OperandForm) (at op index : ℕ) → form_of op ≡ form → IsLiteral form index → ReadsBack at (instrs.Literal op index) (op ∷ literal_bytes form index)
unfolding short_literal_at long_literal_at
literal_back ShortLiteral at op index f good = by_form ShortLiteral at op _ _ f (λ d. cc) (λ c next s. made_again (u1_reads cut) (instrs.Literal op) index c next good s)
literal_back LongLiteral at op index f good = by_form LongLiteral at op _ _ f (λ d. cc) (λ c next s. made_again (u2_reads cut) (instrs.Literal op) index c next good s)
literal_back _ at op index f good = absurd good

local_back : (at op slot : ℕ) → form_of op ≡ Slot → slot < 2 ^ 8 → ReadsBack at (instrs.Local op slot false) (op ∷ slot ∷ [])
unfolding local_at
local_back at op slot f good = by_form Slot at op _ _ f (λ d. cc) (λ c next s. made_again (u1_reads cut) (λ n. instrs.Local op n false) slot c next good s)

increment_back : (at slot : ℕ) (by : ℤ) → slot < 2 ^ 8 → FitsSigned w8 by → ReadsBack at (instrs.Inc slot by false) (132 ∷ slot ∷ s1 by)
unfolding increment_at
increment_back at slot by p q =
    by_form SlotAndByte at 132 _ _ increment_form (λ d. cc) (λ c next s. made_again (both_reads (u1_reads cut) s1_reads) (λ v. instrs.Inc v.0 v.1 false) (slot, by) c next (p, q) s)

branch_back : (form : OperandForm) (at op : ℕ) (t : ℤ) → form_of op ≡ form → IsOffset form (offset at t) → ReadsBack at (instrs.Branch op t) (op ∷ signed_bytes form (offset at t))
unfolding short_branch_at long_branch_at
branch_back ShortOffset at op t f good =
    by_form ShortOffset at op _ _ f (λ d. cc)
    (λ c next s. made_again s2_reads (λ z. instrs.Branch op (target at z)) (offset at t) c next good s ∙ ap (λ (z : ℤ). Ok (instrs.Branch op z, next)) (target_of_offset at t))
branch_back LongOffset at op t f good =
    by_form LongOffset at op _ _ f (λ d. cc)
    (λ c next s. made_again s4_reads (λ z. instrs.Branch op (target at z)) (offset at t) c next good s ∙ ap (λ (z : ℤ). Ok (instrs.Branch op z, next)) (target_of_offset at t))
branch_back _ at op t f good = absurd good

member_back : (at op index : ℕ) → form_of op ≡ MemberIndex → index < 2 ^ 16 → ReadsBack at (instrs.Member op index) (op ∷ u2 index)
unfolding member_at
member_back at op index f good = by_form MemberIndex at op _ _ f (λ d. cc) (λ c next s. made_again (u2_reads cut) (instrs.Member op) index c next good s)

class_back : (at op index : ℕ) → form_of op ≡ ClassIndex → index < 2 ^ 16 → ReadsBack at (instrs.Class op index) (op ∷ u2 index)
unfolding class_at
class_back at op index f good = by_form ClassIndex at op _ _ f (λ d. cc) (λ c next s. made_again (u2_reads cut) (instrs.Class op) index c next good s)

both_pass : {a b : Bool} → a ≡ true → b ≡ true → (a && b) ≡ true
both_pass p q = ap₂ (λ (x y : Bool). x && y) p q

interface_back : (at index count : ℕ) → index < 2 ^ 16 → 0 < count → count < 2 ^ 8 → ReadsBack at (instrs.Interface index count) (185 ∷ u2 index ++ count ∷ 0 ∷ [])
unfolding interface_at
interface_back at index count p some q =
    by_form InterfaceIndex at 185 _ _ interface_form (λ d. cc)
    (λ c next s. checked_again index_and_two_reads (λ v. ltb 0 v.1.0 && eqb v.1.1 0) (λ v. instrs.Interface v.0 v.1.0) (index, (count, 0)) c next (p, (q, omega arith)) (both_pass (lt-ltb _ _ some) refl) s)

dynamic_back : (at index : ℕ) → index < 2 ^ 16 → ReadsBack at (instrs.Dynamic index) (186 ∷ u2 index ++ 0 ∷ 0 ∷ [])
unfolding dynamic_at
dynamic_back at index p =
    by_form DynamicIndex at 186 _ _ dynamic_form (λ d. cc)
    (λ c next s. checked_again index_and_two_reads (λ v. eqb v.1.0 0 && eqb v.1.1 0) (λ v. instrs.Dynamic v.0) (index, (0, 0)) c next (p, (omega arith, omega arith)) refl s)

array_back : (at base : ℕ) → 4 ≤ base → base ≤ 11 → ReadsBack at (instrs.Array base) (188 ∷ base ∷ [])
unfolding array_at
array_back at base low high =
    by_form ArrayType at 188 _ _ array_form (λ d. cc)
    (λ c next s. checked_again (u1_reads cut) (λ b. nat_le 4 b && nat_le b 11) instrs.Array base c next (omega arith) (both_pass (le-leb _ _ low) (le-leb _ _ high)) s)

multi_back : (at index dims : ℕ) → index < 2 ^ 16 → 0 < dims → dims < 2 ^ 8 → ReadsBack at (instrs.Multi index dims) (197 ∷ u2 index ++ dims ∷ [])
unfolding multi_at
multi_back at index dims p some q =
    by_form MultiIndex at 197 _ _ multi_form (λ d. cc)
    (λ c next s. checked_again (both_reads (u2_reads cut) (u1_reads cut)) (λ v. ltb 0 v.1) (λ v. instrs.Multi v.0 v.1) (index, dims) c next (p, q) (lt-ltb _ _ some) s)

-- ---- wide

wide_back : (form : OperandForm) (at op : ℕ) (instr : Instr) (text : List ℕ) → form_of op ≡ form → (form ≡ Reserved → ⊥)
    → ((c next : Cursor) → Spans c text next → wide_form_at form op c ≡ Ok (instr, next)) → ReadsBack at instr (196 ∷ (op ∷ text))
unfolding wide_at
wide_back form at op instr text f other again =
    by_form WidePrefix at 196 instr (op ∷ text) wide_form (λ d. cc)
    (λ c next s.
    let o = step_again (u1_reads cut) c op text next (not_reserved f other) s in
    bind_again _ o.1 (subst (λ (g : OperandForm). wide_form_at g op o.0 ≡ Ok (instr, next)) (sym f) (again o.0 next o.2)))

wide_local_back : (at op slot : ℕ) → form_of op ≡ Slot → slot < 2 ^ 16 → ReadsBack at (instrs.Local op slot true) (196 ∷ op ∷ u2 slot)
unfolding wide_local_at
wide_local_back at op slot f good = wide_back Slot at op _ _ f (λ d. cc) (λ c next s. made_again (u2_reads cut) (λ n. instrs.Local op n true) slot c next good s)

wide_increment_back : (at slot : ℕ) (by : ℤ) → slot < 2 ^ 16 → FitsSigned w16 by → ReadsBack at (instrs.Inc slot by true) (196 ∷ 132 ∷ u2 slot ++ s2 by)
unfolding wide_increment_at
wide_increment_back at slot by p q =
    wide_back SlotAndByte at 132 _ (u2 slot ++ s2 by) increment_form (λ d. cc) (λ c next s. made_again (both_reads (u2_reads cut) s2_reads) (λ v. instrs.Inc v.0 v.1 true) (slot, by) c next (p, q) s)

-- ---- all of them

-- the same bytes, whose padding is none
plainly : {at : ℕ} {instr : Instr} {text bytes : List ℕ} → text ≡ bytes → ReadsBack at instr bytes → ReadsBack at instr text
plainly {at} {instr} {text} {bytes} e back = subst (ReadsBack at instr) (sym e) back

table_back : (at : ℕ) (default low : ℤ) (targets : List ℤ) (text : List ℕ) → IsProper (instrs.Table low default targets) → SpellsInstruction at (instrs.Table low default targets) text → ReadsBack at (instrs.Table low default targets) text
table_back at default low targets text proper is =
    let rest : List ℕ = is.padding ++ target_bytes at default ++ s4 low ++ s4 (high_of low targets) ++ flat_map (target_bytes at) targets in
    let spelled : SpellsInstruction at (instrs.Table low default targets) (170 ∷ rest) = record { padding = is.padding; padded = is.padded; offsets = is.offsets; are = refl } in
    let back : ReadsBack at (instrs.Table low default targets) (170 ∷ rest) = by_form TableSwitch at 170 _ rest table_form (λ d. cc) (λ c next s. padded_table_again at default low targets rest c next proper spelled s) in
    plainly is.are back

lookup_back : (at : ℕ) (default : ℤ) (pairs : List (ℤ × ℤ)) (text : List ℕ) → IsProper (instrs.Lookup default pairs) → SpellsInstruction at (instrs.Lookup default pairs) text → ReadsBack at (instrs.Lookup default pairs) text
lookup_back at default pairs text proper is =
    let rest : List ℕ = is.padding ++ target_bytes at default ++ s4 (pos (length pairs)) ++ flat_map (pair_bytes at) pairs in
    let spelled : SpellsInstruction at (instrs.Lookup default pairs) (171 ∷ rest) = record { padding = is.padding; padded = is.padded; offsets = is.offsets; are = refl } in
    let back : ReadsBack at (instrs.Lookup default pairs) (171 ∷ rest) = by_form LookupSwitch at 171 _ rest lookup_form (λ d. cc) (λ c next s. padded_lookup_again at default pairs rest c next proper spelled s) in
    plainly is.are back

pub reads_back : (at : ℕ) (instr : Instr) (text : List ℕ) → IsProper instr → SpellsInstruction at instr text → ReadsBack at instr text
reads_back at (instrs.Simple op) text proper is = plainly is.are (simple_back at op proper)
reads_back at (instrs.Push op z) text proper is = plainly is.are (push_back (form_of op) at op z refl proper)
reads_back at (instrs.Literal op index) text proper is = plainly is.are (literal_back (form_of op) at op index refl proper)
reads_back at (instrs.Local op slot false) text proper is = plainly is.are (local_back at op slot proper.0 proper.1)
reads_back at (instrs.Local op slot true) text proper is = plainly is.are (wide_local_back at op slot proper.0 proper.1)
reads_back at (instrs.Inc slot by false) text proper is = plainly is.are (increment_back at slot by proper.0 proper.1)
reads_back at (instrs.Inc slot by true) text proper is = plainly is.are (wide_increment_back at slot by proper.0 proper.1)
reads_back at (instrs.Branch op t) text proper is = plainly is.are (branch_back (form_of op) at op t refl is.offsets)
reads_back at (instrs.Table low default targets) text proper is = table_back at default low targets text proper is
reads_back at (instrs.Lookup default pairs) text proper is = lookup_back at default pairs text proper is
reads_back at (instrs.Member op index) text proper is = plainly is.are (member_back at op index proper.0 proper.1)
reads_back at (instrs.Interface index count) text proper is = plainly is.are (interface_back at index count proper.0 proper.1 proper.2)
reads_back at (instrs.Dynamic index) text proper is = plainly is.are (dynamic_back at index proper)
reads_back at (instrs.Class op index) text proper is = plainly is.are (class_back at op index proper.0 proper.1)
reads_back at (instrs.Array base) text proper is = plainly is.are (array_back at base proper.0 proper.1)
reads_back at (instrs.Multi index dims) text proper is = plainly is.are (multi_back at index dims proper.0 proper.1 proper.2)
