-- The sizes and targets of operations are those of their instructions, whatever the indexes of their entries.
use Rattle.std.proofs.Common.{◌≡◌, ℕ, zero, suc, ◌+◌, ◌-◌, ◌<◌, ◌≤◌, ◌⊎◌, inl, inr, Bool, true, false, cond, ◌==◌, ℤ, pos, FitsSigned, List, [], ◌∷◌, ◌++◌, length, map, zip, Some, nat_lt, nat_le, refl, sym, ap, ◌∙◌, subst, arith}
use Rattle.std.specs.Prelude.{slice_get, slice_index}
use Rattle.std.specs.List.{AllByRecursion, AllZip, list_all}
use Rattle.std.specs.Int.{w16, w32}
use Rattle.std.proofs.lemmas.Bool.Decides.{nat_tests}
use Rattle.std.proofs.lemmas.Bool.{cases_lt, eq-eqb, and_parts, and_from}
use Rattle.std.proofs.lemmas.Int.{ints}
use Rattle.std.proofs.lemmas.List.{length-map}
use Rattle.dj_ops.specs.declared.instruction.Instr.{Instr}
use Rattle.dj_ops.specs.declared.instruction.Instr.TheVariants as instrs
use Rattle.dj_ops.specs.trusted.Forms.{SignedByte, SignedShort, ShortLiteral, LongLiteral, ShortOffset, LongOffset, form_of}
use Rattle.dj_ops.specs.trusted.Instructions.{IsOffset, IsFar, AreOffsets, offset, signed_bytes, literal_bytes, length_at}
use Rattle.dj_ops.proofs.Sizes.{table_length, lookup_length}
use Rattle.dj_ops.proofs.FormFacts.{lone_opcode, opcode_below, short_form, long_form}
use Rattle.dj_labels.specs.trusted.Targets.{with_targets}
use Rattle.dj_labels.specs.trusted.Labels.{address_of, addressed}
use Rattle.dj_layout.specs.trusted.Places.{starts_from, end_from}
use Rattle.dj_layout.specs.trusted.Layouts.{placed}
use Rattle.dj_asm_source.specs.trusted.Lines.{Label, Operation, Plain, Push, Local, Increment, Load, LoadLong, Jump, Table, Lookup, Member, Dynamic, ClassOf, Array, Multi, Line, Does, IsOperation}
use Rattle.dj_asm_source.specs.trusted.Labels.{instruction_count}
use Rattle.dj_asm_pool.specs.trusted.Entries as entries
use Rattle.dj_asm_pool.specs.trusted.Needs.{member_entry}
use Rattle.dj_asm.specs.trusted.Codes.{Places, target_of, IsMemberInstr, is_interface_call, IsInstrOf, AreInstrsOf}
use Rattle.dj_asm.specs.Judging.{wide_size, switch_size, size_at, starts_at, end_at, half_of, is_near, reaches, target, is_reached}
use Rattle.dj_asm.proofs.BodyLabels.{count_cons}
use Rattle.dj_asm.proofs.JudgedSections.{lt_holds}

lt_from : (m n : ℕ) → nat_lt m n ≡ true → m < n
lt_from m n e = grind (arith, nat_tests)

le_from : (m n : ℕ) → nat_le m n ≡ true → m ≤ n
le_from m n e = grind (arith, nat_tests)

le_holds : (m n : ℕ) → m ≤ n → nat_le m n ≡ true
le_holds m n le = grind (arith, nat_tests)

le_fails : (m n : ℕ) → n < m → nat_le m n ≡ false
le_fails m n lt = grind (arith, nat_tests)

-- ---- opcodes

byte_op : (op : ℕ) → form_of op ≡ SignedByte → op ≡ 16
unfolding form_of
byte_op op e = lone_opcode SignedByte 16 op refl (opcode_below op (λ f. absurd cc)) e

short_op : (op : ℕ) → form_of op ≡ SignedShort → op ≡ 17
unfolding form_of
short_op op e = lone_opcode SignedShort 17 op refl (opcode_below op (λ f. absurd cc)) e

short_jump : (op : ℕ) → form_of op ≡ ShortOffset → op < 200
short_jump op e = elim (cases_lt op 200) [
  | inl lt ↦ lt
  | inr ge ↦
      let long : form_of op ≡ LongOffset = long_form op (pos 0) (opcode_below op (λ f. absurd cc)) ge (subst (λ form. IsOffset form (pos 0)) (sym e) (omega (arith, ints))) in
      absurd cc
]

long_jump : (op : ℕ) → form_of op ≡ LongOffset → 200 ≤ op
long_jump op e = elim (cases_lt op 200) [
  | inl lt ↦
      let short : form_of op ≡ ShortOffset = short_form op (pos 0) lt (subst (λ form. IsOffset form (pos 0)) (sym e) (omega (arith, ints))) in
      absurd cc
  | inr ge ↦ ge
]

short_literal : form_of 18 ≡ ShortLiteral
unfolding form_of
short_literal = refl

long_literal : form_of 19 ≡ LongLiteral
unfolding form_of
long_literal = refl

longer_literal : form_of 20 ≡ LongLiteral
unfolding form_of
longer_literal = refl

-- ---- sizes

push_size : (op : ℕ) (n : ℤ) → (form_of op ≡ SignedByte) ⊎ (form_of op ≡ SignedShort) → wide_size (op == 16) 2 3 ≡ length (op ∷ signed_bytes (form_of op) n)
push_size op n (inl e) =
    ap (λ b. wide_size b 2 3) (eq-eqb op 16 (byte_op op e)) ∙ sym (ap (λ form. length (op ∷ signed_bytes form n)) e)
push_size op n (inr e) =
    let same : (17 == 16) ≡ false = refl in
    ap (λ k. wide_size (k == 16) 2 3) (short_op op e) ∙ sym (ap (λ form. length (op ∷ signed_bytes form n)) e)

load_size : (op index : ℕ) → (op ≡ 18) ⊎ (op ≡ 19) → wide_size (op == 18) 2 3 ≡ length (op ∷ literal_bytes (form_of op) index)
load_size op index (inl e) = ap (λ k. wide_size (k == 18) 2 3) e ∙ sym (ap (λ form. length (op ∷ literal_bytes form index)) (ap form_of e ∙ short_literal))
load_size op index (inr e) = ap (λ k. wide_size (k == 18) 2 3) e ∙ sym (ap (λ form. length (op ∷ literal_bytes form index)) (ap form_of e ∙ long_literal))

jump_size : (op : ℕ) (z : ℤ) → (form_of op ≡ ShortOffset) ⊎ (form_of op ≡ LongOffset) → wide_size (nat_le 200 op) 5 3 ≡ length (op ∷ signed_bytes (form_of op) z)
jump_size op z (inl e) = ap (λ b. wide_size b 5 3) (le_fails 200 op (short_jump op e)) ∙ sym (ap (λ form. length (op ∷ signed_bytes form z)) e)
jump_size op z (inr e) = ap (λ b. wide_size b 5 3) (le_holds 200 op (long_jump op e)) ∙ sym (ap (λ form. length (op ∷ signed_bytes form z)) e)

member_size : (at : ℕ) (call : Bool) (op index : ℕ) (desc : List ℕ) (i : Instr) → IsMemberInstr call op index desc i → wide_size call 5 3 ≡ length_at at i
member_size at true op index desc i call = sym (ap (length_at at) call.instruction)
member_size at false op index desc i is = sym (ap (length_at at) is)

module _ (places : Places) where
  pub size_is : (at : ℕ) (o : Operation) (i : Instr) → IsInstrOf places o i → IsOperation o → size_at at o ≡ length_at at i
  size_is at (Plain op) i is may = sym (ap (length_at at) is)
  size_is at (Push op n) i is may = push_size op n may ∙ sym (ap (length_at at) is)
  size_is at (Local true op slot) i is may = sym (ap (length_at at) is)
  size_is at (Local false op slot) i is may = sym (ap (length_at at) is)
  size_is at (Increment true slot by) i is may = sym (ap (length_at at) is)
  size_is at (Increment false slot by) i is may = sym (ap (length_at at) is)
  size_is at (Load op literal) i is may = load_size op _ may.0 ∙ sym (ap (length_at at) is)
  size_is at (LoadLong n) i is may = sym (ap (λ form. length (20 ∷ literal_bytes form (places.index (entries.Long n)))) longer_literal) ∙ sym (ap (length_at at) is)
  size_is at (Jump op label) i is may = jump_size op _ may ∙ sym (ap (length_at at) is)
  size_is at (Table low labels default) i is may =
      ap (λ (n : ℕ). switch_size at 12 n 4) (sym (length-map labels (target_of places)))
      ∙ (sym (table_length at (target_of places default) low (map (target_of places) labels)) ∙ sym (ap (length_at at) is))
  size_is at (Lookup pairs default) i is may =
      ap (λ (n : ℕ). switch_size at 8 n 8) (sym (length-map pairs (λ (pair : ℤ × Label). (pair.0, target_of places pair.1))))
      ∙ (sym (lookup_length at (target_of places default) (map (λ (pair : ℤ × Label). (pair.0, target_of places pair.1)) pairs)) ∙ sym (ap (length_at at) is))
  size_is at (Member op class name desc marked) i is may = member_size at (is_interface_call op) op (places.index (member_entry op class name desc marked)) desc i is
  size_is at (Dynamic n name desc) i is may = sym (ap (length_at at) is)
  size_is at (ClassOf op class) i is may = sym (ap (length_at at) is)
  size_is at (Array base) i is may = sym (ap (length_at at) is)
  size_is at (Multi desc dims) i is may = sym (ap (length_at at) is)

  pub same_starts : (at : ℕ) (os : List Operation) (code : List Instr) → AllZip (IsInstrOf places) os code → AllByRecursion IsOperation os → starts_from at code ≡ starts_at at os
  same_starts at [] [] are may = refl
  same_starts at [] (i ∷ code) are may = absurd are
  same_starts at (o ∷ os) [] are may = absurd are
  same_starts at (o ∷ os) (i ∷ code) are may =
      ap (λ (n : ℕ). at ∷ starts_from (at + n) code) (sym (size_is at o i are.0 may.0)) ∙ ap (λ l. at ∷ l) (same_starts (at + size_at at o) os code are.1 may.1)

  pub same_end : (at : ℕ) (os : List Operation) (code : List Instr) → AllZip (IsInstrOf places) os code → AllByRecursion IsOperation os → end_from at code ≡ end_at at os
  same_end at [] [] are may = refl
  same_end at [] (i ∷ code) are may = absurd are
  same_end at (o ∷ os) [] are may = absurd are
  same_end at (o ∷ os) (i ∷ code) are may =
      ap (λ (n : ℕ). end_from (at + n) code) (sym (size_is at o i are.0 may.0)) ∙ same_end (at + size_at at o) os code are.1 may.1

-- ---- offsets

near : (half at to : ℕ) → to - at < half → at - to ≤ half → is_near half at to ≡ true
near half at to ahead back = and_from (nat_lt (to - at) half) (nat_le (at - to) half) (lt_holds (to - at) half ahead) (le_holds (at - to) half back)

near_from : (half at to : ℕ) → is_near half at to ≡ true → (to - at < half) × (at - to ≤ half)
near_from half at to e =
    let parts = and_parts (nat_lt (to - at) half) (nat_le (at - to) half) e in
    (lt_from (to - at) half parts.0, le_from (at - to) half parts.1)

short_fits : (at to : ℕ) → is_near 32768 at to ≡ true → FitsSigned w16 (offset at (pos to))
short_fits at to e = let p = near_from 32768 at to e in let ahead = p.0 in let back = p.1 in omega (arith, ints, ahead, back)

short_near : (at to : ℕ) → FitsSigned w16 (offset at (pos to)) → is_near 32768 at to ≡ true
short_near at to fits = near 32768 at to (omega (arith, ints, fits)) (omega (arith, ints, fits))

long_fits : (at to : ℕ) → is_near 2147483648 at to ≡ true → FitsSigned w32 (offset at (pos to))
long_fits at to e = let p = near_from 2147483648 at to e in let ahead = p.0 in let back = p.1 in omega (arith, ints, ahead, back)

long_near : (at to : ℕ) → FitsSigned w32 (offset at (pos to)) → is_near 2147483648 at to ≡ true
long_near at to fits = near 2147483648 at to (omega (arith, ints, fits)) (omega (arith, ints, fits))

half_short : (op : ℕ) → form_of op ≡ ShortOffset → half_of op ≡ 32768
half_short op e = ap (λ b. cond {A = ℕ} b 2147483648 32768) (le_fails 200 op (short_jump op e))

half_long : (op : ℕ) → form_of op ≡ LongOffset → half_of op ≡ 2147483648
half_long op e = ap (λ b. cond {A = ℕ} b 2147483648 32768) (le_holds 200 op (long_jump op e))

jump_fits : (op at to : ℕ) → (form_of op ≡ ShortOffset) ⊎ (form_of op ≡ LongOffset) → is_near (half_of op) at to ≡ true → IsOffset (form_of op) (offset at (pos to))
jump_fits op at to (inl e) h = subst (λ form. IsOffset form (offset at (pos to))) (sym e) (short_fits at to (ap (λ (n : ℕ). is_near n at to) (sym (half_short op e)) ∙ h))
jump_fits op at to (inr e) h = subst (λ form. IsOffset form (offset at (pos to))) (sym e) (long_fits at to (ap (λ (n : ℕ). is_near n at to) (sym (half_long op e)) ∙ h))

jump_near : (op at to : ℕ) → (form_of op ≡ ShortOffset) ⊎ (form_of op ≡ LongOffset) → IsOffset (form_of op) (offset at (pos to)) → is_near (half_of op) at to ≡ true
jump_near op at to (inl e) h = ap (λ (n : ℕ). is_near n at to) (half_short op e) ∙ short_near at to (subst (λ form. IsOffset form (offset at (pos to))) e h)
jump_near op at to (inr e) h = ap (λ (n : ℕ). is_near n at to) (half_long op e) ∙ long_near at to (subst (λ form. IsOffset form (offset at (pos to))) e h)

module _ (places : Places) (starts : List ℕ) (at : ℕ) where
  abbrev far_test : Label → Bool
  far_test = reaches places.number starts 2147483648 at

  abbrev to_address : ℤ → ℤ
  to_address = address_of starts

  labels_fit : (labels : List Label) → list_all far_test labels ≡ true → AllByRecursion (IsFar at) (map to_address (map (target_of places) labels))
  labels_fit [] e = tt
  labels_fit (label ∷ labels) e =
      let p = and_parts (far_test label) (list_all far_test labels) e in
      (long_fits at (slice_index starts (places.number label)) p.0, labels_fit labels p.1)

  labels_near : (labels : List Label) → AllByRecursion (IsFar at) (map to_address (map (target_of places) labels)) → list_all far_test labels ≡ true
  labels_near [] h = refl
  labels_near (label ∷ labels) h = and_from (far_test label) (list_all far_test labels) (long_near at (slice_index starts (places.number label)) h.0) (labels_near labels h.1)

  abbrev pair_to : ℤ × Label → ℤ × ℤ
  pair_to pair = (pair.0, target_of places pair.1)

  abbrev pair_address : ℤ × ℤ → ℤ × ℤ
  pair_address pair = (pair.0, to_address pair.1)

  abbrev IsPairFar : ℤ × ℤ → Type 0
  IsPairFar pair = IsFar at pair.1

  pairs_fit : (pairs : List (ℤ × Label)) → list_all far_test (map target pairs) ≡ true → AllByRecursion IsPairFar (map pair_address (map pair_to pairs))
  pairs_fit [] e = tt
  pairs_fit (pair ∷ pairs) e =
      let p = and_parts (far_test pair.1) (list_all far_test (map target pairs)) e in
      (long_fits at (slice_index starts (places.number pair.1)) p.0, pairs_fit pairs p.1)

  pairs_near : (pairs : List (ℤ × Label)) → AllByRecursion IsPairFar (map pair_address (map pair_to pairs)) → list_all far_test (map target pairs) ≡ true
  pairs_near [] h = refl
  pairs_near (pair ∷ pairs) h = and_from (far_test pair.1) (list_all far_test (map target pairs)) (long_near at (slice_index starts (places.number pair.1)) h.0) (pairs_near pairs h.1)

  abbrev Fits : Instr → Type 0
  Fits i = AreOffsets at (with_targets to_address i)

  member_fits : (call : Bool) (op index : ℕ) (desc : List ℕ) (i : Instr) → IsMemberInstr call op index desc i → Fits i
  member_fits true op index desc i call = subst Fits (sym call.instruction) tt
  member_fits false op index desc i is = subst Fits (sym is) tt

  -- what reaches its targets has offsets that fit
  pub offsets_fit : (o : Operation) (i : Instr) → IsInstrOf places o i → IsOperation o → is_reached places.number starts at o ≡ true → Fits i
  offsets_fit (Jump op label) i is may e = subst Fits (sym is) (jump_fits op at (slice_index starts (places.number label)) may e)
  offsets_fit (Table low labels default) i is may e =
      let p = and_parts (far_test default) (list_all far_test labels) e in
      subst Fits (sym is) (long_fits at (slice_index starts (places.number default)) p.0, labels_fit labels p.1)
  offsets_fit (Lookup pairs default) i is may e =
      let p = and_parts (far_test default) (list_all far_test (map target pairs)) e in
      subst Fits (sym is) (long_fits at (slice_index starts (places.number default)) p.0, pairs_fit pairs p.1)
  offsets_fit (Member op class name desc marked) i is may e = member_fits (is_interface_call op) op (places.index (member_entry op class name desc marked)) desc i is
  offsets_fit o i is may e = subst Fits (sym is) tt

  -- and the other way
  pub offsets_reach : (o : Operation) (i : Instr) → IsInstrOf places o i → IsOperation o → Fits i → is_reached places.number starts at o ≡ true
  offsets_reach (Jump op label) i is may h = jump_near op at (slice_index starts (places.number label)) may (subst Fits is h)
  offsets_reach (Table low labels default) i is may h =
      let f : Fits (instrs.Table low (target_of places default) (map (target_of places) labels)) = subst Fits is h in
      and_from (far_test default) (list_all far_test labels) (long_near at (slice_index starts (places.number default)) f.0) (labels_near labels f.1)
  offsets_reach (Lookup pairs default) i is may h =
      let f : Fits (instrs.Lookup (target_of places default) (map pair_to pairs)) = subst Fits is h in
      and_from (far_test default) (list_all far_test (map target pairs)) (long_near at (slice_index starts (places.number default)) f.0) (pairs_near pairs f.1)
  offsets_reach o i is may h = refl

-- ---- the instruction of a line, placed

zip_at : (xs : List ℕ) (ys : List Instr) (k : ℕ) (y : Instr) → length xs ≡ length ys → slice_get ys k ≡ Some y → slice_get (zip xs ys) k ≡ Some (slice_index xs k, y)
zip_at [] [] k y e at = absurd cc
zip_at [] (z ∷ ys) k y e at = absurd cc
zip_at (x ∷ xs) [] k y e at = absurd cc
zip_at (x ∷ xs) (z ∷ ys) zero y e at = let same : z ≡ y = cc in ap (λ i. Some (x, i)) same
zip_at (x ∷ xs) (z ∷ ys) (suc k) y e at = zip_at xs ys k y (omega (arith, e)) at

map_at : (f : Instr → Instr) (ys : List Instr) (k : ℕ) (y : Instr) → slice_get ys k ≡ Some y → slice_get (map f ys) k ≡ Some (f y)
map_at f [] k y at = absurd cc
map_at f (z ∷ ys) zero y at = let same : z ≡ y = cc in ap (λ i. Some (f i)) same
map_at f (z ∷ ys) (suc k) y at = map_at f ys k y at

module _ (places : Places) where
  -- the instruction of a line
  instr_at : (prefix : List Line) (o : Operation) (rest : List Line) (code : List Instr) → AreInstrsOf places (prefix ++ Does o ∷ rest) code
      → (i : Instr) × (slice_get code (instruction_count prefix) ≡ Some i) × IsInstrOf places o i
  instr_at [] o rest [] are = absurd are
  instr_at [] o rest (i ∷ code) are = (i, refl, are.0)
  instr_at (Does p ∷ prefix) o rest [] are = absurd are
  instr_at (Does p ∷ prefix) o rest (i ∷ code) are =
      let more = instr_at prefix o rest code are.1 in
      let c : instruction_count (Does p ∷ prefix) ≡ suc (instruction_count prefix) = count_cons (Does p) prefix ∙ omega arith in
      (more.0, ap (slice_get (i ∷ code)) c ∙ more.1, more.2)
  instr_at (line ∷ prefix) o rest code are =
      let more = instr_at prefix o rest code are in
      let c : instruction_count (line ∷ prefix) ≡ instruction_count prefix = count_cons line prefix ∙ omega arith in
      (more.0, ap (slice_get code) c ∙ more.1, more.2)

  pub placed_at : (starts : List ℕ) (prefix : List Line) (o : Operation) (rest : List Line) (code : List Instr) → length starts ≡ length code → AreInstrsOf places (prefix ++ Does o ∷ rest) code
      → (i : Instr) × IsInstrOf places o i × (slice_get (placed starts code) (instruction_count prefix) ≡ Some (slice_index starts (instruction_count prefix), with_targets (address_of starts) i))
  placed_at starts prefix o rest code size are =
      let it = instr_at prefix o rest code are in (
        it.0,
        it.2,
        zip_at starts (addressed starts code) (instruction_count prefix) (with_targets (address_of starts) it.0) (size ∙ sym (length-map code (with_targets (address_of starts))))
            (map_at (with_targets (address_of starts)) code (instruction_count prefix) it.0 it.1),
      )
