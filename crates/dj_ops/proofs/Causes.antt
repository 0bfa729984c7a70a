-- A refusal has its cause, and where a cause is that refusal comes: by the forms of opcodes.
use Rattle.std.proofs.Common.{◌≡◌, ◌≢◌, ℕ, ◌<◌, ◌≤◌, ◌&&◌, ◌⊎◌, Bool, true, false, ltb, eqb, nat_le, List, [], ◌∷◌, ◌++◌, length, get_or, Err, refl, sym, ap, ap₂, subst, ◌∙◌, arith, inl, inr}
use Rattle.std.proofs.lemmas.Bool.{le-leb, leb-true, ltb-false, eqb-false, ne_eqb}
use Rattle.dj_cursor.specs.trusted.Spelling.{u1, u2}
use Rattle.dj_cursor.specs.Reading.{Cursor, u1_at, u2_at}
use Rattle.dj_cursor.proofs.Bytes.{IsBytes}
use Rattle.dj_cursor.proofs.Steps.{bind_again, bind_err, bind_fails}
use Rattle.dj_cursor.proofs.Spans.{Spans}
use Rattle.dj_cursor.proofs.Numbers.{u1_reads, u2_reads}
use Rattle.dj_ops.specs.declared.instruction.Instr.{Instr}
use Rattle.dj_ops.specs.declared.instruction.Instr.TheVariants as instrs
use Rattle.dj_ops.specs.declared.read.OpError.{OpError}
use Rattle.dj_ops.specs.declared.read.OpError.TheVariants as errors
use Rattle.dj_ops.specs.trusted.Forms.{OperandForm, Slot, SlotAndByte, WidePrefix, form_of}
use Rattle.dj_ops.specs.trusted.Instructions.{IsArrayType}
use Rattle.dj_ops.specs.Refusals.{wide_count, Lacks, HasWideForm, IsBad}
use Rattle.dj_ops.specs.Reading.{cut, both, byte_push_at, short_push_at, short_literal_at, long_literal_at, local_at, increment_at, target, short_branch_at, long_branch_at, member_at, class_at, index_and_two_at, interface_at, dynamic_at, array_at, multi_at, wide_local_at, wide_increment_at, wide_form_at, wide_at}
use Rattle.dj_ops.proofs.Parts.{OperandReader, failed, err_is, both_reads, Fixed, u1_fixed, u2_fixed, s1_fixed, s2_fixed, s4_fixed, made_fixed, both_fixed, outcome, checked_fails, checked_short, checked_bad}
use Rattle.dj_ops.proofs.Families.{IndexAndTwo, index_and_two_bytes, index_and_two_reads}

-- ---- operands that are not judged

-- bytes were missing
pub fixed_fails : {p : OperandReader Instr} {n : ℕ} → Fixed p n → (P : OpError → Type 0) (c : Cursor) (e : OpError) → (length c.rest < n → P errors.Cut) → p c ≡ Err e → P e
fixed_fails fixed P c e lacks h = let d = fixed.fails c e h in subst P (sym d.0) (lacks d.1)

pub byte_push_fixed : (op : ℕ) → Fixed (byte_push_at op) 1
unfolding byte_push_at
byte_push_fixed op = made_fixed (instrs.Push op) s1_fixed

pub short_push_fixed : (op : ℕ) → Fixed (short_push_at op) 2
unfolding short_push_at
short_push_fixed op = made_fixed (instrs.Push op) s2_fixed

pub short_literal_fixed : (op : ℕ) → Fixed (short_literal_at op) 1
unfolding short_literal_at
short_literal_fixed op = made_fixed (instrs.Literal op) u1_fixed

pub long_literal_fixed : (op : ℕ) → Fixed (long_literal_at op) 2
unfolding long_literal_at
long_literal_fixed op = made_fixed (instrs.Literal op) u2_fixed

pub local_fixed : (op : ℕ) → Fixed (local_at op) 1
unfolding local_at
local_fixed op = made_fixed (λ slot. instrs.Local op slot false) u1_fixed

pub increment_fixed : Fixed increment_at 2
unfolding increment_at
increment_fixed = made_fixed (λ v. instrs.Inc v.0 v.1 false) (both_fixed u1_fixed s1_fixed)

pub short_branch_fixed : (at op : ℕ) → Fixed (short_branch_at at op) 2
unfolding short_branch_at
short_branch_fixed at op = made_fixed (λ z. instrs.Branch op (target at z)) s2_fixed

pub long_branch_fixed : (at op : ℕ) → Fixed (long_branch_at at op) 4
unfolding long_branch_at
long_branch_fixed at op = made_fixed (λ z. instrs.Branch op (target at z)) s4_fixed

pub member_fixed : (op : ℕ) → Fixed (member_at op) 2
unfolding member_at
member_fixed op = made_fixed (instrs.Member op) u2_fixed

pub class_fixed : (op : ℕ) → Fixed (class_at op) 2
unfolding class_at
class_fixed op = made_fixed (instrs.Class op) u2_fixed

wide_local_fixed : (op : ℕ) → Fixed (wide_local_at op) 2
unfolding wide_local_at
wide_local_fixed op = made_fixed (λ slot. instrs.Local op slot true) u2_fixed

wide_increment_fixed : Fixed wide_increment_at 4
unfolding wide_increment_at
wide_increment_fixed = made_fixed (λ v. instrs.Inc v.0 v.1 true) (both_fixed u2_fixed s2_fixed)

-- ---- operands that are judged

either_fails : (a b : Bool) → (a && b) ≡ false → (a ≡ false) ⊎ (b ≡ false)
either_fails true b h = inr h
either_fails false b h = inl refl

first_false : (a b : Bool) → a ≡ false → (a && b) ≡ false
first_false a b h = ap (λ (x : Bool). x && b) h

second_false : (a b : Bool) → b ≡ false → (a && b) ≡ false
second_false true b h = h
second_false false b h = refl

index_and_two_fixed : Fixed index_and_two_at 4
unfolding index_and_two_at
index_and_two_fixed = both_fixed u2_fixed (both_fixed u1_fixed u1_fixed)

-- the two bytes stand there
third_is : (c : Cursor) (x : IndexAndTwo × Cursor) → Spans c (index_and_two_bytes x.0) x.1 → get_or c.rest 2 0 ≡ x.0.1.0
third_is c x s = ap (λ (l : List ℕ). get_or l 2 0) s.parts

fourth_is : (c : Cursor) (x : IndexAndTwo × Cursor) → Spans c (index_and_two_bytes x.0) x.1 → get_or c.rest 3 0 ≡ x.0.1.1
fourth_is c x s = ap (λ (l : List ℕ). get_or l 3 0) s.parts

zero_is : (n : ℕ) → ltb 0 n ≡ false → n ≡ 0
zero_is n h = let le : n ≤ 0 = ltb-false _ _ h in omega arith

not_some : (n : ℕ) → n ≡ 0 → ltb 0 n ≡ false
not_some n h = ap (ltb 0) h

pub interface_fails : (P : OpError → Type 0) (c : Cursor) (e : OpError) → IsBytes c.rest → (length c.rest < 4 → P errors.Cut)
    → ((4 ≤ length c.rest) × ((get_or c.rest 2 0 ≡ 0) ⊎ (get_or c.rest 3 0 ≢ 0)) → P errors.BadOperand) → interface_at c ≡ Err e → P e
unfolding interface_at
interface_fails P c e fits lacks bad h =
    checked_fails index_and_two_fixed (λ v. ltb 0 v.1.0 && eqb v.1.1 0) (λ v. instrs.Interface v.0 v.1.0) c e h
    (λ is short. subst P (sym is) (lacks short))
    (λ is x read fails.
    let s = (index_and_two_reads.takes c x fits read).0 in
    let which : (get_or c.rest 2 0 ≡ 0) ⊎ (get_or c.rest 3 0 ≢ 0) = elim (either_fails _ _ fails) [
      | inl none ↦ inl (third_is c x s ∙ zero_is _ none)
      | inr other ↦ inr (λ zero. eqb-false _ _ other (sym (fourth_is c x s) ∙ zero))
    ] in
    subst P (sym is) (bad (omega (arith, index_and_two_fixed.some c x read), which)))

pub interface_bad : (c : Cursor) → IsBytes c.rest → 4 ≤ length c.rest → (get_or c.rest 2 0 ≡ 0) ⊎ (get_or c.rest 3 0 ≢ 0) → interface_at c ≡ Err errors.BadOperand
unfolding interface_at
interface_bad c fits le which =
    checked_bad index_and_two_fixed (λ v. ltb 0 v.1.0 && eqb v.1.1 0) (λ v. instrs.Interface v.0 v.1.0) c le
    (λ x read.
    let s = (index_and_two_reads.takes c x fits read).0 in
    elim which [
      | inl none ↦ first_false _ _ (not_some _ (sym (third_is c x s) ∙ none))
      | inr other ↦ second_false _ _ (ne_eqb _ _ (λ zero. other (fourth_is c x s ∙ zero)))
    ])

pub interface_short : (c : Cursor) → length c.rest < 4 → interface_at c ≡ Err errors.Cut
unfolding interface_at
interface_short c lt = checked_short index_and_two_fixed (λ v. ltb 0 v.1.0 && eqb v.1.1 0) (λ v. instrs.Interface v.0 v.1.0) c lt

pub dynamic_fails : (P : OpError → Type 0) (c : Cursor) (e : OpError) → IsBytes c.rest → (length c.rest < 4 → P errors.Cut)
    → ((4 ≤ length c.rest) × ((get_or c.rest 2 0 ≢ 0) ⊎ (get_or c.rest 3 0 ≢ 0)) → P errors.BadOperand) → dynamic_at c ≡ Err e → P e
unfolding dynamic_at
dynamic_fails P c e fits lacks bad h =
    checked_fails index_and_two_fixed (λ v. eqb v.1.0 0 && eqb v.1.1 0) (λ v. instrs.Dynamic v.0) c e h
    (λ is short. subst P (sym is) (lacks short))
    (λ is x read fails.
    let s = (index_and_two_reads.takes c x fits read).0 in
    let which : (get_or c.rest 2 0 ≢ 0) ⊎ (get_or c.rest 3 0 ≢ 0) = elim (either_fails _ _ fails) [
      | inl other ↦ inl (λ zero. eqb-false _ _ other (sym (third_is c x s) ∙ zero))
      | inr other ↦ inr (λ zero. eqb-false _ _ other (sym (fourth_is c x s) ∙ zero))
    ] in
    subst P (sym is) (bad (omega (arith, index_and_two_fixed.some c x read), which)))

pub dynamic_bad : (c : Cursor) → IsBytes c.rest → 4 ≤ length c.rest → (get_or c.rest 2 0 ≢ 0) ⊎ (get_or c.rest 3 0 ≢ 0) → dynamic_at c ≡ Err errors.BadOperand
unfolding dynamic_at
dynamic_bad c fits le which =
    checked_bad index_and_two_fixed (λ v. eqb v.1.0 0 && eqb v.1.1 0) (λ v. instrs.Dynamic v.0) c le
    (λ x read.
    let s = (index_and_two_reads.takes c x fits read).0 in
    elim which [
      | inl other ↦ first_false _ _ (ne_eqb _ _ (λ zero. other (third_is c x s ∙ zero)))
      | inr other ↦ second_false _ _ (ne_eqb _ _ (λ zero. other (fourth_is c x s ∙ zero)))
    ])

pub dynamic_short : (c : Cursor) → length c.rest < 4 → dynamic_at c ≡ Err errors.Cut
unfolding dynamic_at
dynamic_short c lt = checked_short index_and_two_fixed (λ v. eqb v.1.0 0 && eqb v.1.1 0) (λ v. instrs.Dynamic v.0) c lt

array_type : (base : ℕ) → (nat_le 4 base && nat_le base 11) ≡ false → IsArrayType base → ⊥
array_type base fails is = absurd (cc (fails, ap₂ (λ (x y : Bool). x && y) (le-leb 4 base is.0) (le-leb base 11 is.1)))

no_array_type : (a b : Bool) (base : ℕ) → nat_le 4 base ≡ a → nat_le base 11 ≡ b → (IsArrayType base → ⊥) → (a && b) ≡ false
no_array_type true true base p q none = absurd (none (leb-true _ _ p, leb-true _ _ q))
no_array_type true false base p q none = refl
no_array_type false b base p q none = refl

pub array_fails : (P : OpError → Type 0) (c : Cursor) (e : OpError) → IsBytes c.rest → (length c.rest < 1 → P errors.Cut)
    → ((1 ≤ length c.rest) × (IsArrayType (get_or c.rest 0 0) → ⊥) → P errors.BadOperand) → array_at c ≡ Err e → P e
unfolding array_at
array_fails P c e fits lacks bad h =
    checked_fails u1_fixed (λ base. nat_le 4 base && nat_le base 11) instrs.Array c e h
    (λ is short. subst P (sym is) (lacks short))
    (λ is x read fails.
    let s = ((u1_reads cut).takes c x fits read).0 in
    let base : get_or c.rest 0 0 ≡ x.0 = ap (λ (l : List ℕ). get_or l 0 0) s.parts in
    subst P (sym is) (bad (omega (arith, u1_fixed.some c x read), λ good. array_type x.0 fails (subst IsArrayType base good))))

pub array_bad : (c : Cursor) → IsBytes c.rest → 1 ≤ length c.rest → (IsArrayType (get_or c.rest 0 0) → ⊥) → array_at c ≡ Err errors.BadOperand
unfolding array_at
array_bad c fits le none =
    checked_bad u1_fixed (λ base. nat_le 4 base && nat_le base 11) instrs.Array c le
    (λ x read.
    let s = ((u1_reads cut).takes c x fits read).0 in
    let base : get_or c.rest 0 0 ≡ x.0 = ap (λ (l : List ℕ). get_or l 0 0) s.parts in
    no_array_type _ _ x.0 refl refl (λ good. none (subst IsArrayType (sym base) good)))

pub array_short : (c : Cursor) → length c.rest < 1 → array_at c ≡ Err errors.Cut
unfolding array_at
array_short c lt = checked_short u1_fixed (λ base. nat_le 4 base && nat_le base 11) instrs.Array c lt

multi_fixed : Fixed (both (u2_at cut) (u1_at cut)) 3
multi_fixed = both_fixed u2_fixed u1_fixed

dims_are : (c : Cursor) (x : (ℕ × ℕ) × Cursor) → Spans c (u2 x.0.0 ++ u1 x.0.1) x.1 → get_or c.rest 2 0 ≡ x.0.1
dims_are c x s = ap (λ (l : List ℕ). get_or l 2 0) s.parts

pub multi_fails : (P : OpError → Type 0) (c : Cursor) (e : OpError) → IsBytes c.rest → (length c.rest < 3 → P errors.Cut)
    → ((3 ≤ length c.rest) × (get_or c.rest 2 0 ≡ 0) → P errors.BadOperand) → multi_at c ≡ Err e → P e
unfolding multi_at
multi_fails P c e fits lacks bad h =
    checked_fails multi_fixed (λ v. ltb 0 v.1) (λ v. instrs.Multi v.0 v.1) c e h
    (λ is short. subst P (sym is) (lacks short))
    (λ is x read fails.
    let s = ((both_reads (u2_reads cut) (u1_reads cut)).takes c x fits read).0 in
    subst P (sym is) (bad (omega (arith, multi_fixed.some c x read), dims_are c x s ∙ zero_is _ fails)))

pub multi_bad : (c : Cursor) → IsBytes c.rest → 3 ≤ length c.rest → get_or c.rest 2 0 ≡ 0 → multi_at c ≡ Err errors.BadOperand
unfolding multi_at
multi_bad c fits le none =
    checked_bad multi_fixed (λ v. ltb 0 v.1) (λ v. instrs.Multi v.0 v.1) c le
    (λ x read. not_some _ (sym (dims_are c x ((both_reads (u2_reads cut) (u1_reads cut)).takes c x fits read).0) ∙ none))

pub multi_short : (c : Cursor) → length c.rest < 3 → multi_at c ≡ Err errors.Cut
unfolding multi_at
multi_short c lt = checked_short multi_fixed (λ v. ltb 0 v.1) (λ v. instrs.Multi v.0 v.1) c lt

-- ---- wide

wide_form_fails : (form : OperandForm) (P : OpError → Type 0) (op : ℕ) (c : Cursor) (e : OpError) → (length c.rest < wide_count form → P errors.Cut) → ((HasWideForm form → ⊥) → P errors.BadOperand)
    → wide_form_at form op c ≡ Err e → P e
wide_form_fails Slot P op c e lacks bad h = fixed_fails (wide_local_fixed op) P c e lacks h
wide_form_fails SlotAndByte P op c e lacks bad h = fixed_fails wide_increment_fixed P c e lacks h
wide_form_fails _ P op c e lacks bad h = subst P (err_is {A = Instr × Cursor} {d = errors.BadOperand} h) (bad (λ has. elim has [ inl d ↦ cc | inr d ↦ cc ]))

wide_form_short : (form : OperandForm) (op : ℕ) (c : Cursor) → length c.rest < wide_count form → wide_form_at form op c ≡ Err errors.Cut
wide_form_short Slot op c lt = (wide_local_fixed op).short c lt
wide_form_short SlotAndByte op c lt = wide_increment_fixed.short c lt
wide_form_short _ op c lt = absurd (omega (arith, lt))

wide_form_bad : (form : OperandForm) (op : ℕ) (c : Cursor) → (HasWideForm form → ⊥) → wide_form_at form op c ≡ Err errors.BadOperand
wide_form_bad Slot op c none = absurd (none (inl refl))
wide_form_bad SlotAndByte op c none = absurd (none (inr refl))
wide_form_bad _ op c none = refl

lacks_form : (at op : ℕ) (more operands : List ℕ) → operands ≡ op ∷ more → length more < wide_count (form_of op) → Lacks at WidePrefix operands
lacks_form at op more operands e lt = subst (λ (l : List ℕ). Lacks at WidePrefix l) (sym e) lt

lacks_all : (at : ℕ) (operands : List ℕ) → length operands < 1 → Lacks at WidePrefix operands
lacks_all at [] lt = tt
lacks_all at (op ∷ more) lt = absurd (omega (arith, lt))

pub wide_fails : (P : OpError → Type 0) (at : ℕ) (c : Cursor) (e : OpError) → IsBytes c.rest → (Lacks at WidePrefix c.rest → P errors.Cut) → (IsBad at WidePrefix c.rest → P errors.BadOperand) → wide_at c ≡ Err e → P e
unfolding wide_at
wide_fails P at c e fits lacks bad h =
    bind_err h
    (λ r. let d = u1_fixed.fails c e r in subst P (sym d.0) (lacks (lacks_all at c.rest d.1)))
    (λ x r g.
    let s = ((u1_reads cut).takes c x fits r).0 in
    let op : get_or c.rest 0 0 ≡ x.0 = ap (λ (l : List ℕ). get_or l 0 0) s.parts in
    wide_form_fails (form_of x.0) P x.0 x.1 e
    (λ lt. lacks (lacks_form at x.0 x.1.rest c.rest s.parts lt))
    (λ none. bad (omega (arith, u1_fixed.some c x r), λ has. none (subst (λ (k : ℕ). HasWideForm (form_of k)) op has)))
    g)

form_lacks : (at op : ℕ) (more operands : List ℕ) → operands ≡ op ∷ more → Lacks at WidePrefix operands → length more < wide_count (form_of op)
form_lacks at op more operands e lacks = let here : Lacks at WidePrefix (op ∷ more) = subst (λ (l : List ℕ). Lacks at WidePrefix l) e lacks in here

pub wide_short : (at : ℕ) (c : Cursor) → IsBytes c.rest → Lacks at WidePrefix c.rest → wide_at c ≡ Err errors.Cut
unfolding wide_at
wide_short at c fits lacks =
    elim (outcome (u1_at cut c)) [
      | inl x ↦
          let s = ((u1_reads cut).takes c x.0 fits x.1).0 in
          bind_again _ x.1 (wide_form_short (form_of x.0.0) x.0.0 x.0.1 (form_lacks at x.0.0 x.0.1.rest c.rest s.parts lacks))
      | inr e ↦ bind_fails _ (e.1 ∙ ap failed (u1_fixed.fails c e.0 e.1).0)
    ]

pub wide_bad : (at : ℕ) (c : Cursor) → IsBytes c.rest → IsBad at WidePrefix c.rest → wide_at c ≡ Err errors.BadOperand
unfolding wide_at
wide_bad at c fits bad =
    elim (outcome (u1_at cut c)) [
      | inl x ↦
          let s = ((u1_reads cut).takes c x.0 fits x.1).0 in
          let op : get_or c.rest 0 0 ≡ x.0.0 = ap (λ (l : List ℕ). get_or l 0 0) s.parts in
          bind_again _ x.1 (wide_form_bad (form_of x.0.0) x.0.0 x.0.1 (λ has. bad.1 (subst (λ (k : ℕ). HasWideForm (form_of k)) (sym op) has)))
      | inr e ↦ absurd (omega (arith, bad.0, (u1_fixed.fails c e.0 e.1).1))
    ]
