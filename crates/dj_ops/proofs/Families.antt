-- Instructions by the forms of their opcodes: what is read is spelled so.
use Rattle.std.proofs.Common.{◌≡◌, ℕ, ◌^◌, ◌<◌, ◌&&◌, Bool, true, false, ltb, eqb, nat_le, ℤ, List, [], ◌∷◌, ◌++◌, Ok, refl, sym, ap, ap₂, subst, arith, inl, inr}
use Rattle.std.proofs.lemmas.Bool.{leb-true, ltb-true, eqb-true}
use Rattle.std.proofs.lemmas.Int.{ints}
use Rattle.dj_cursor.specs.trusted.Spelling.{u1, u2, s2}
use Rattle.dj_cursor.specs.Reading.{Cursor}
use Rattle.dj_cursor.proofs.Bytes.{IsBytes}
use Rattle.dj_cursor.proofs.Spans.{Spans, Spans-none, Spans-then, Reads, step_takes}
use Rattle.dj_cursor.proofs.Numbers.{u1_reads, u2_reads}
use Rattle.dj_ops.specs.declared.instruction.Instr.{Instr}
use Rattle.dj_ops.specs.declared.instruction.Instr.TheVariants as instrs
use Rattle.dj_ops.specs.trusted.Forms.{OperandForm, Bare, SignedByte, SignedShort, ShortLiteral, LongLiteral, Slot, SlotAndByte, ShortOffset, LongOffset, MemberIndex, ClassIndex, form_of}
use Rattle.dj_ops.specs.trusted.Instructions.{signed_bytes, IsPushed, IsOffset, literal_bytes, IsLiteral, IsProper, offset, SpellsInstruction}
use Rattle.dj_ops.specs.Reading.{cut, byte_push_at, short_push_at, short_literal_at, long_literal_at, local_at, increment_at, target, short_branch_at, long_branch_at, member_at, class_at, index_and_two_at, interface_at, dynamic_at, array_at, multi_at, wide_local_at, wide_increment_at, wide_form_at, wide_at, operands_at}
use Rattle.dj_ops.proofs.Parts.{both_reads, s1_reads, s2_reads, s4_reads, Taken, made_taken, checked_taken}
use Rattle.dj_ops.proofs.FormFacts.{increment_alone}

-- an opcode that stands alone in its family
pub alone : {at op lone : ℕ} {c : Cursor} {x : Instr × Cursor} → op ≡ lone → Taken at lone c x → Taken at op c x
alone {at} {op} {lone} {c} {x} e t = subst (λ (k : ℕ). Taken at k c x) (sym e) t

both_true : (a b : Bool) → (a && b) ≡ true → (a ≡ true) × (b ≡ true)
both_true true b h = (refl, h)
both_true false b h = absurd cc

-- ---- no operands, and a number

pub bare_taken : (at op : ℕ) (c : Cursor) (x : Instr × Cursor) → form_of op ≡ Bare → operands_at Bare at op c ≡ Ok x → Taken at op c x
bare_taken at op c x f e =
    let done : (instrs.Simple op, c) ≡ x = cc in
    subst (λ (y : Instr × Cursor). Taken at op c y) done
    (record { text = []; spans = Spans-none c; spelled = record { padding = []; padded = refl; offsets = tt; are = refl }; proper = f })

pub byte_push_taken : (at op : ℕ) (c : Cursor) (x : Instr × Cursor) → form_of op ≡ SignedByte → IsBytes c.rest → byte_push_at op c ≡ Ok x → Taken at op c x
unfolding byte_push_at
byte_push_taken at op c x f =
    made_taken s1_reads (instrs.Push op) at op
    (λ z good. (
      record { padding = []; padded = refl; offsets = tt; are = ap (λ (g : OperandForm). op ∷ signed_bytes g z) (sym f) },
      subst (λ (g : OperandForm). IsPushed g z) (sym f) good,
    )) c x

pub short_push_taken : (at op : ℕ) (c : Cursor) (x : Instr × Cursor) → form_of op ≡ SignedShort → IsBytes c.rest → short_push_at op c ≡ Ok x → Taken at op c x
unfolding short_push_at
short_push_taken at op c x f =
    made_taken s2_reads (instrs.Push op) at op
    (λ z good. (
      record { padding = []; padded = refl; offsets = tt; are = ap (λ (g : OperandForm). op ∷ signed_bytes g z) (sym f) },
      subst (λ (g : OperandForm). IsPushed g z) (sym f) good,
    )) c x

pub short_literal_taken : (at op : ℕ) (c : Cursor) (x : Instr × Cursor) → form_of op ≡ ShortLiteral → IsBytes c.rest → short_literal_at op c ≡ Ok x → Taken at op c x
unfolding short_literal_at
short_literal_taken at op c x f =
    made_taken (u1_reads cut) (instrs.Literal op) at op
    (λ n good. (
      record { padding = []; padded = refl; offsets = tt; are = ap (λ (g : OperandForm). op ∷ literal_bytes g n) (sym f) },
      subst (λ (g : OperandForm). IsLiteral g n) (sym f) good,
    )) c x

pub long_literal_taken : (at op : ℕ) (c : Cursor) (x : Instr × Cursor) → form_of op ≡ LongLiteral → IsBytes c.rest → long_literal_at op c ≡ Ok x → Taken at op c x
unfolding long_literal_at
long_literal_taken at op c x f =
    made_taken (u2_reads cut) (instrs.Literal op) at op
    (λ n good. (
      record { padding = []; padded = refl; offsets = tt; are = ap (λ (g : OperandForm). op ∷ literal_bytes g n) (sym f) },
      subst (λ (g : OperandForm). IsLiteral g n) (sym f) good,
    )) c x

pub local_taken : (at op : ℕ) (c : Cursor) (x : Instr × Cursor) → form_of op ≡ Slot → IsBytes c.rest → local_at op c ≡ Ok x → Taken at op c x
unfolding local_at
local_taken at op c x f =
    made_taken (u1_reads cut) (λ slot. instrs.Local op slot false) at op
    (λ n good. (record { padding = []; padded = refl; offsets = tt; are = refl }, (f, good))) c x

pub member_taken : (at op : ℕ) (c : Cursor) (x : Instr × Cursor) → form_of op ≡ MemberIndex → IsBytes c.rest → member_at op c ≡ Ok x → Taken at op c x
unfolding member_at
member_taken at op c x f =
    made_taken (u2_reads cut) (instrs.Member op) at op
    (λ n good. (record { padding = []; padded = refl; offsets = tt; are = refl }, (f, good))) c x

pub class_taken : (at op : ℕ) (c : Cursor) (x : Instr × Cursor) → form_of op ≡ ClassIndex → IsBytes c.rest → class_at op c ≡ Ok x → Taken at op c x
unfolding class_at
class_taken at op c x f =
    made_taken (u2_reads cut) (instrs.Class op) at op
    (λ n good. (record { padding = []; padded = refl; offsets = tt; are = refl }, (f, good))) c x

pub increment_taken : (at : ℕ) (c : Cursor) (x : Instr × Cursor) → IsBytes c.rest → increment_at c ≡ Ok x → Taken at 132 c x
unfolding increment_at
increment_taken at =
    made_taken (both_reads (u1_reads cut) s1_reads) (λ v. instrs.Inc v.0 v.1 false) at 132
    (λ v good. (record { padding = []; padded = refl; offsets = tt; are = refl }, good))

-- ---- jumps

pub offset_of_target : (at : ℕ) (z : ℤ) → offset at (target at z) ≡ z
offset_of_target at z = omega (arith, ints)

pub target_of_offset : (at : ℕ) (t : ℤ) → target at (offset at t) ≡ t
target_of_offset at t = omega (arith, ints)

branch_spells : (form : OperandForm) (at op : ℕ) (z : ℤ) → form_of op ≡ form → IsOffset form z → SpellsInstruction at (instrs.Branch op (target at z)) (op ∷ signed_bytes form z)
branch_spells form at op z f good = record {
  padding = [];
  padded = refl;
  offsets = subst (λ (g : OperandForm). IsOffset g (offset at (target at z))) (sym f) (subst (IsOffset form) (sym (offset_of_target at z)) good);
  are = ap₂ (λ (g : OperandForm) (o : ℤ). op ∷ signed_bytes g o) (sym f) (sym (offset_of_target at z));
}

pub short_branch_taken : (at op : ℕ) (c : Cursor) (x : Instr × Cursor) → form_of op ≡ ShortOffset → IsBytes c.rest → short_branch_at at op c ≡ Ok x → Taken at op c x
unfolding short_branch_at
short_branch_taken at op c x f =
    made_taken s2_reads (λ z. instrs.Branch op (target at z)) at op (λ z good. (branch_spells ShortOffset at op z f good, inl f)) c x

pub long_branch_taken : (at op : ℕ) (c : Cursor) (x : Instr × Cursor) → form_of op ≡ LongOffset → IsBytes c.rest → long_branch_at at op c ≡ Ok x → Taken at op c x
unfolding long_branch_at
long_branch_taken at op c x f =
    made_taken s4_reads (λ z. instrs.Branch op (target at z)) at op (λ z good. (branch_spells LongOffset at op z f good, inr f)) c x

-- ---- operands that are judged

abbrev pub IndexAndTwo : Type 0
IndexAndTwo = ℕ × (ℕ × ℕ)

abbrev pub index_and_two_bytes : IndexAndTwo → List ℕ
index_and_two_bytes v = u2 v.0 ++ (u1 v.1.0 ++ u1 v.1.1)

abbrev pub IsIndexAndTwo : IndexAndTwo → Type 0
IsIndexAndTwo v = (v.0 < 2 ^ 16) × ((v.1.0 < 2 ^ 8) × (v.1.1 < 2 ^ 8))

pub index_and_two_reads : Reads index_and_two_at index_and_two_bytes IsIndexAndTwo
unfolding index_and_two_at
index_and_two_reads = both_reads (u2_reads cut) (both_reads (u1_reads cut) (u1_reads cut))

pub interface_taken : (at : ℕ) (c : Cursor) (x : Instr × Cursor) → IsBytes c.rest → interface_at c ≡ Ok x → Taken at 185 c x
unfolding interface_at
interface_taken at =
    checked_taken index_and_two_reads (λ v. ltb 0 v.1.0 && eqb v.1.1 0) (λ v. instrs.Interface v.0 v.1.0) at 185
    (λ v good passes.
    let p = both_true _ _ passes in (
      record { padding = []; padded = refl; offsets = tt; are = ap (λ (z : ℕ). 185 ∷ index_and_two_bytes (v.0, (v.1.0, z))) (eqb-true _ _ p.1) },
      (good.0, ltb-true _ _ p.0, good.1.0),
    ))

pub dynamic_taken : (at : ℕ) (c : Cursor) (x : Instr × Cursor) → IsBytes c.rest → dynamic_at c ≡ Ok x → Taken at 186 c x
unfolding dynamic_at
dynamic_taken at =
    checked_taken index_and_two_reads (λ v. eqb v.1.0 0 && eqb v.1.1 0) (λ v. instrs.Dynamic v.0) at 186
    (λ v good passes.
    let p = both_true _ _ passes in (
      record { padding = []; padded = refl; offsets = tt; are = ap₂ (λ (y z : ℕ). 186 ∷ index_and_two_bytes (v.0, (y, z))) (eqb-true _ _ p.0) (eqb-true _ _ p.1) },
      good.0,
    ))

pub array_taken : (at : ℕ) (c : Cursor) (x : Instr × Cursor) → IsBytes c.rest → array_at c ≡ Ok x → Taken at 188 c x
unfolding array_at
array_taken at =
    checked_taken (u1_reads cut) (λ base. nat_le 4 base && nat_le base 11) instrs.Array at 188
    (λ base good passes.
    let p = both_true _ _ passes in
    (record { padding = []; padded = refl; offsets = tt; are = refl }, (leb-true _ _ p.0, leb-true _ _ p.1)))

pub multi_taken : (at : ℕ) (c : Cursor) (x : Instr × Cursor) → IsBytes c.rest → multi_at c ≡ Ok x → Taken at 197 c x
unfolding multi_at
multi_taken at =
    checked_taken (both_reads (u2_reads cut) (u1_reads cut)) (λ v. ltb 0 v.1) (λ v. instrs.Multi v.0 v.1) at 197
    (λ v good passes. (record { padding = []; padded = refl; offsets = tt; are = refl }, (good.0, ltb-true _ _ passes, good.1)))

-- ---- wide

-- the same instruction behind wide
record WideTaken (at op : ℕ) (c : Cursor) (x : Instr × Cursor) : Type 0 where
  pub text : List ℕ
  pub spans : Spans c text x.1
  pub spelled : SpellsInstruction at x.0 (196 ∷ (op ∷ text))
  pub proper : IsProper x.0

wide_local_taken : (at op : ℕ) (c : Cursor) (x : Instr × Cursor) → form_of op ≡ Slot → IsBytes c.rest → wide_local_at op c ≡ Ok x → WideTaken at op c x
unfolding wide_local_at
wide_local_taken at op c x f fits e =
    let a = step_takes (u2_reads cut) c fits e in
    let made : (instrs.Local op a.value true, a.next) ≡ x = cc (a.rest) in
    subst (λ (y : Instr × Cursor). WideTaken at op c y) made
    (record { text = u2 a.value; spans = a.spans; spelled = record { padding = []; padded = refl; offsets = tt; are = refl }; proper = (f, a.good) })

wide_increment_taken : (at : ℕ) (c : Cursor) (x : Instr × Cursor) → IsBytes c.rest → wide_increment_at c ≡ Ok x → WideTaken at 132 c x
unfolding wide_increment_at
wide_increment_taken at c x fits e =
    let a = step_takes (both_reads (u2_reads cut) s2_reads) c fits e in
    let made : (instrs.Inc a.value.0 a.value.1 true, a.next) ≡ x = cc (a.rest) in
    subst (λ (y : Instr × Cursor). WideTaken at 132 c y) made
    (record { text = u2 a.value.0 ++ s2 a.value.1; spans = a.spans; spelled = record { padding = []; padded = refl; offsets = tt; are = refl }; proper = a.good })

wide_form_taken : (form : OperandForm) (at op : ℕ) (c : Cursor) (x : Instr × Cursor) → form_of op ≡ form → op < 256 → IsBytes c.rest → wide_form_at form op c ≡ Ok x → WideTaken at op c x
wide_form_taken Slot at op c x f lt fits e = wide_local_taken at op c x f fits e
wide_form_taken SlotAndByte at op c x f lt fits e = subst (λ (k : ℕ). WideTaken at k c x) (sym (increment_alone op lt f)) (wide_increment_taken at c x fits e)
wide_form_taken _ at op c x f lt fits e = absurd cc

pub wide_taken : (at : ℕ) (c : Cursor) (x : Instr × Cursor) → IsBytes c.rest → wide_at c ≡ Ok x → Taken at 196 c x
unfolding wide_at
wide_taken at c x fits e =
    let a = step_takes (u1_reads cut) c fits e in
    let w = wide_form_taken (form_of a.value) at a.value a.next x refl a.good a.fits a.rest in
    record { text = u1 a.value ++ w.text; spans = Spans-then a.spans w.spans; spelled = w.spelled; proper = w.proper }
