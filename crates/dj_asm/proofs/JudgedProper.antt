-- Which operations aren't proper instructions: where their entries have room the test says it.
use Rattle.std.proofs.Common.{◌≡◌, ℕ, ◌+◌, ◌^◌, ◌<◌, ◌≤◌, ◌⊎◌, inl, inr, Bool, true, false, not, ◌&&◌, ◌==◌, ℤ, pos, negsuc, unsigned_abs, ◌+ℤ◌, ◌-ℤ◌, FitsSigned, List, [], ◌∷◌, length, map, nat_lt, nat_le, Contains, refl, sym, ap, ◌∙◌, subst, arith}
use Rattle.std.specs.Prelude.{int_lt}
use Rattle.std.specs.List.{AllByRecursion}
use Rattle.std.specs.Int.{w32}
use Rattle.std.proofs.lemmas.Bool.Decides.{nat_tests}
use Rattle.std.proofs.lemmas.Bool.{cases_lt, eqb-true, eq-eqb, and_parts, and_from, false≢true}
use Rattle.std.proofs.lemmas.Int.{ints}
use Rattle.std.proofs.lemmas.List.{length-map}
use Rattle.dj_names.specs.trusted.Descriptors.{slots_of}
use Rattle.dj_names.proofs.DescLaws.{desc_again}
use Rattle.dj_ops.specs.declared.instruction.Instr.{Instr}
use Rattle.dj_ops.specs.declared.instruction.Instr.TheVariants as instrs
use Rattle.dj_ops.specs.trusted.Forms.{ShortLiteral, LongLiteral, MemberIndex, form_of}
use Rattle.dj_ops.specs.trusted.Instructions.{IsLiteral, IsLocal, IsTable, IsLookup, IsProper}
use Rattle.dj_ops.specs.trusted.Lookups.{rises, rises_from}
use Rattle.dj_ops.proofs.Rising.{rising_from, rises_if}
use Rattle.dj_asm_source.specs.trusted.Lines.{Label, Operation, Plain, Push, Local, Increment, Load, LoadLong, Jump, Table, Lookup, Member, Dynamic, ClassOf, Array, Multi, IsFieldUse, IsMethodUse, IsOperation, IsSizedOperation, FitsBits, slot_bits}
use Rattle.dj_asm_pool.specs.trusted.Entries as entries
use Rattle.dj_asm_pool.specs.trusted.Entries.{Entry, width}
use Rattle.dj_asm_pool.specs.trusted.Needs.{literal_entry, member_entry, operation_entries}
use Rattle.dj_asm.specs.trusted.Codes.{Places, target_of, IsMemberInstr, is_interface_call, IsInstrOf}
use Rattle.dj_asm_pool.specs.trusted.Room.{HasRoom}
use Rattle.dj_asm_pool.specs.Pooling.{found_index}
use Rattle.dj_asm.specs.Judging.{rise_from, rise, is_lookup, is_table, are_many, has_many_slots, is_improper}
use Rattle.dj_asm.proofs.JudgedSections.{lt_holds}
use Rattle.dj_asm_pool.proofs.Members.{in_here}

-- ---- tests of numbers

lt_from : (m n : ℕ) → nat_lt m n ≡ true → m < n
lt_from m n e = grind (arith, nat_tests)

lt_not : (m n : ℕ) → nat_lt m n ≡ false → n ≤ m
lt_not m n e = grind (arith, nat_tests)

le_from : (m n : ℕ) → nat_le m n ≡ true → m ≤ n
le_from m n e = grind (arith, nat_tests)

le_not : (m n : ℕ) → nat_le m n ≡ false → n < m
le_not m n e = grind (arith, nat_tests)

le_holds : (m n : ℕ) → m ≤ n → nat_le m n ≡ true
le_holds m n le = grind (arith, nat_tests)

not_true : (b : Bool) → not b ≡ true → b ≡ false
not_true true e = absurd cc
not_true false e = refl

not_false : (b : Bool) → not b ≡ false → b ≡ true
not_false true e = refl
not_false false e = absurd cc

-- ---- tables

high_within : (low : ℤ) (count : ℕ) → FitsSigned w32 low → 0 < count → count ≤ unsigned_abs (pos 2147483648 -ℤ low) → FitsSigned w32 (low +ℤ pos count -ℤ pos 1)
high_within (pos n) count fits some le = omega (arith, ints, fits, some, le)
high_within (negsuc n) count fits some le = omega (arith, ints, fits, some, le)

count_within : (low : ℤ) (count : ℕ) → FitsSigned w32 low → FitsSigned w32 (low +ℤ pos count -ℤ pos 1) → count ≤ unsigned_abs (pos 2147483648 -ℤ low)
count_within (pos n) count fits high = omega (arith, ints, fits, high)
count_within (negsuc n) count fits high = omega (arith, ints, fits, high)

table_is : (low : ℤ) (targets : List ℤ) → FitsSigned w32 low → is_table low (length targets) ≡ true → IsTable low targets
table_is low targets fits e =
    let parts = and_parts (nat_lt 0 (length targets)) (nat_le (length targets) (unsigned_abs (pos 2147483648 -ℤ low))) e in
    let some = lt_from 0 (length targets) parts.0 in
    record { some = some; low_fits = fits; high_fits = high_within low (length targets) fits some (le_from (length targets) (unsigned_abs (pos 2147483648 -ℤ low)) parts.1) }

is_table_if : (low : ℤ) (targets : List ℤ) → IsTable low targets → is_table low (length targets) ≡ true
is_table_if low targets t =
    and_from (nat_lt 0 (length targets)) (nat_le (length targets) (unsigned_abs (pos 2147483648 -ℤ low)))
    (lt_holds 0 (length targets) t.some) (le_holds (length targets) (unsigned_abs (pos 2147483648 -ℤ low)) (count_within low (length targets) t.low_fits t.high_fits))

-- ---- matches

module _ (f : Label → ℤ) where
  abbrev numbered : List (ℤ × Label) → List (ℤ × ℤ)
  numbered pairs = map (λ (pair : ℤ × Label). (pair.0, f pair.1)) pairs

  same_rise_from : (z : ℤ) (pairs : List (ℤ × Label)) → rise_from z pairs ≡ rises_from z (numbered pairs)
  unfolding rise_from
  same_rise_from z [] = refl
  same_rise_from z (pair ∷ pairs) = ap (λ b. int_lt z pair.0 && b) (same_rise_from pair.0 pairs)

  same_rise : (pairs : List (ℤ × Label)) → rise pairs ≡ rises (numbered pairs)
  same_rise [] = refl
  same_rise (pair ∷ pairs) = same_rise_from pair.0 pairs

  matches_fit : (pairs : List (ℤ × Label)) → AllByRecursion (λ (pair : ℤ × Label). FitsSigned w32 pair.0) pairs → AllByRecursion (λ (pair : ℤ × ℤ). FitsSigned w32 pair.0) (numbered pairs)
  matches_fit [] h = tt
  matches_fit (pair ∷ pairs) h = (h.0, matches_fit pairs h.1)

  many : (pairs : List (ℤ × Label)) → length (numbered pairs) ≡ length pairs
  many [] = refl
  many (pair ∷ pairs) = let r = many pairs in omega (arith, r)

  lookup_is : (pairs : List (ℤ × Label)) → AllByRecursion (λ (pair : ℤ × Label). FitsSigned w32 pair.0) pairs → is_lookup pairs ≡ true → IsLookup (numbered pairs)
  lookup_is pairs fits e =
      let parts = and_parts (nat_lt (length pairs) 2147483648) (rise pairs) e in
      let few = lt_from (length pairs) 2147483648 parts.0 in
      let size = many pairs in
      record { count = omega (arith, few, size); matches = matches_fit pairs fits; rising = rising_from (numbered pairs) (sym (same_rise pairs) ∙ parts.1) }

  is_lookup_if : (pairs : List (ℤ × Label)) → IsLookup (numbered pairs) → is_lookup pairs ≡ true
  is_lookup_if pairs l =
      let few = l.count in
      let size = many pairs in
      and_from (nat_lt (length pairs) 2147483648) (rise pairs) (lt_holds (length pairs) 2147483648 (omega (arith, few, size))) (same_rise pairs ∙ rises_if (numbered pairs) l.rising)

-- ---- indexes and slots

index_fits : (index : ℕ) (e : Entry) → HasRoom index e → index < 2 ^ 16
index_fits index e room = let last = room.last in omega (arith, last)

slot_fits : (wide : Bool) (slot : ℤ) → FitsBits (slot_bits wide) slot → IsLocal (unsigned_abs slot) wide
slot_fits false slot (m, e, lt) = subst (λ (z : ℤ). unsigned_abs z < 2 ^ 8) (sym e) lt
slot_fits true slot (m, e, lt) = subst (λ (z : ℤ). unsigned_abs z < 2 ^ 16) (sym e) lt

field_form : (op : ℕ) → 178 ≤ op → op ≤ 184 → form_of op ≡ MemberIndex
unfolding form_of
field_form op from to = grind (arith, nat_tests)

short_literal : form_of 18 ≡ ShortLiteral
unfolding form_of
short_literal = refl

long_literal : form_of 19 ≡ LongLiteral
unfolding form_of
long_literal = refl

longer_literal : form_of 20 ≡ LongLiteral
unfolding form_of
longer_literal = refl

other_op : (op : ℕ) → (op == 185) ≡ false → op ≤ 185 → op ≤ 184
other_op op e le = grind (arith, nat_tests)

-- ---- operations

module _ (places : Places) (kept : List Entry) where
  -- the entry has room, and is found
  abbrev pub IsFound : Entry → Type 0
  IsFound e = HasRoom (places.index e) e × (found_index kept e ≡ places.index e)

  abbrev pub HaveRoom : Operation → Type 0
  HaveRoom o = (e : Entry) → Contains (operation_entries o) e → IsFound e

  first_room : (e : Entry) → ((x : Entry) → Contains (e ∷ []) x → IsFound x) → HasRoom (places.index e) e
  first_room e rooms = (rooms e (in_here e [])).0

  first_found : (e : Entry) → ((x : Entry) → Contains (e ∷ []) x → IsFound x) → found_index kept e ≡ places.index e
  first_found e rooms = (rooms e (in_here e [])).1

  -- ldc and ldc_w
  literal_is : (op : ℕ) (e : Entry) → (op ≡ 18) ⊎ (op ≡ 19) → HasRoom (places.index e) e → found_index kept e ≡ places.index e → (op == 18 && nat_lt 255 (found_index kept e)) ≡ false → IsLiteral (form_of op) (places.index e)
  literal_is op e (inl is) room found test =
      let low : 255 < places.index e → ⊥ = λ lt. false≢true (sym test ∙ and_from (op == 18) (nat_lt 255 (found_index kept e)) (eq-eqb op 18 is) (ap (nat_lt 255) found ∙ lt_holds 255 (places.index e) lt)) in
      let small : places.index e ≤ 255 = elim (cases_lt 255 (places.index e)) [ inl lt ↦ absurd (low lt) | inr le ↦ le ] in
      subst (λ form. IsLiteral form (places.index e)) (sym (ap form_of is ∙ short_literal)) (omega (arith, small))
  literal_is op e (inr is) room found test =
      subst (λ form. IsLiteral form (places.index e)) (sym (ap form_of is ∙ long_literal)) (index_fits (places.index e) e room)

  not_literal : (op : ℕ) (e : Entry) → found_index kept e ≡ places.index e → (op == 18 && nat_lt 255 (found_index kept e)) ≡ true → IsLiteral (form_of op) (places.index e) → ⊥
  not_literal op e found test proper =
      let parts = and_parts (op == 18) (nat_lt 255 (found_index kept e)) test in
      let past = lt_from 255 (places.index e) (sym (ap (nat_lt 255) found) ∙ parts.1) in
      let small : places.index e < 2 ^ 8 = subst (λ form. IsLiteral form (places.index e)) (ap form_of (eqb-true op 18 parts.0) ∙ short_literal) proper in
      omega (arith, past, small)

  member_is : (op : ℕ) (class name desc : List ℕ) (marked : Bool) (call : Bool) (i : Instr) → (op == 185) ≡ call → IsMemberInstr call op (places.index (member_entry op class name desc marked)) desc i
      → IsFieldUse op name desc marked ⊎ IsMethodUse op name desc marked → HasRoom (places.index (member_entry op class name desc marked)) (member_entry op class name desc marked)
      → (call && has_many_slots desc) ≡ false → IsProper i
  member_is op class name desc marked true i is call used room test =
      let e = member_entry op class name desc marked in
      let slots = slots_of call.described in
      let few : nat_lt 254 slots ≡ false = sym (ap are_many (desc_again desc call.described call.describes)) ∙ test in
      let le = lt_not 254 slots few in
      subst IsProper (sym call.instruction) (index_fits (places.index e) e room, omega arith, omega (arith, le))
  member_is op class name desc marked false i is same used room test =
      let e = member_entry op class name desc marked in
      subst IsProper (sym same) (form used, index_fits (places.index e) e room) where
        form : IsFieldUse op name desc marked ⊎ IsMethodUse op name desc marked → form_of op ≡ MemberIndex
        form (inl field) = let to = field.to in field_form op field.from (omega (arith, to))
        form (inr method) = let from = method.from in field_form op (omega (arith, from)) (other_op op is method.to)

  not_member : (op : ℕ) (class name desc : List ℕ) (marked : Bool) (call : Bool) (i : Instr) → IsMemberInstr call op (places.index (member_entry op class name desc marked)) desc i
      → (call && has_many_slots desc) ≡ true → IsProper i → ⊥
  not_member op class name desc marked true i call test proper =
      let slots = slots_of call.described in
      let past = lt_from 254 slots (sym (ap are_many (desc_again desc call.described call.describes)) ∙ test) in
      let p : IsProper (instrs.Interface (places.index (member_entry op class name desc marked)) (slots + 1)) = subst IsProper call.instruction proper in
      let small = p.2 in
      omega (arith, past, small)
  not_member op class name desc marked false i same test proper = false≢true test

  dims_some : (dims : ℤ) → (unsigned_abs dims == 0) ≡ false → 0 < unsigned_abs dims
  dims_some dims e = grind (arith, nat_tests)

  dims_none : (dims : ℤ) → (unsigned_abs dims == 0) ≡ true → 0 < unsigned_abs dims → ⊥
  dims_none dims e some = let is = eqb-true (unsigned_abs dims) 0 e in omega (arith, is, some)

  bits_fit : (bits : ℕ) (n : ℤ) → FitsBits bits n → unsigned_abs n < 2 ^ bits
  bits_fit bits n (m, e, lt) = subst (λ (z : ℤ). unsigned_abs z < 2 ^ bits) (sym e) lt

  pub is_proper : (o : Operation) (i : Instr) → IsInstrOf places o i → IsOperation o → IsSizedOperation o → HaveRoom o → is_improper kept o ≡ false → IsProper i
  is_proper (Plain op) i is may sized rooms test = subst IsProper (sym is) may
  is_proper (Push op n) i is may sized rooms test = subst IsProper (sym is) sized
  is_proper (Local wide op slot) i is may sized rooms test = subst IsProper (sym is) (may, slot_fits wide slot sized)
  is_proper (Increment false slot by) i is may sized rooms test = subst IsProper (sym is) (slot_fits false slot sized.0, sized.1)
  is_proper (Increment true slot by) i is may sized rooms test = subst IsProper (sym is) (slot_fits true slot sized.0, sized.1)
  is_proper (Load op literal) i is may sized rooms test =
      subst IsProper (sym is) (literal_is op (literal_entry literal) may.0 (first_room (literal_entry literal) rooms) (first_found (literal_entry literal) rooms) test)
  is_proper (LoadLong n) i is may sized rooms test =
      subst IsProper (sym is) (subst (λ form. IsLiteral form (places.index (entries.Long n))) (sym longer_literal) (index_fits (places.index (entries.Long n)) (entries.Long n) (first_room (entries.Long n) rooms)))
  is_proper (Jump op label) i is may sized rooms test = subst IsProper (sym is) may
  is_proper (Table low labels default) i is may sized rooms test =
      subst IsProper (sym is) (table_is low (map (target_of places) labels) sized (ap (is_table low) (length-map labels (target_of places)) ∙ not_false (is_table low (length labels)) test))
  is_proper (Lookup pairs default) i is may sized rooms test = subst IsProper (sym is) (lookup_is (target_of places) pairs sized (not_false (is_lookup pairs) test))
  is_proper (Member op class name desc marked) i is may sized rooms test =
      member_is op class name desc marked (is_interface_call op) i refl is may.1 (first_room (member_entry op class name desc marked) rooms) test
  is_proper (Dynamic n name desc) i is may sized rooms test =
      let e = entries.Dynamic (unsigned_abs n) name desc in
      subst IsProper (sym is) (index_fits (places.index e) e (first_room e rooms))
  is_proper (ClassOf op class) i is may sized rooms test = subst IsProper (sym is) (may.0, index_fits (places.index (entries.Class class)) (entries.Class class) (first_room (entries.Class class) rooms))
  is_proper (Array base) i is may sized rooms test = subst IsProper (sym is) may
  is_proper (Multi desc dims) i is may sized rooms test =
      subst IsProper (sym is) (index_fits (places.index (entries.Class desc)) (entries.Class desc) (first_room (entries.Class desc) rooms), dims_some dims test, bits_fit 8 dims sized)

  pub not_proper : (o : Operation) (i : Instr) → IsInstrOf places o i → HaveRoom o → is_improper kept o ≡ true → IsProper i → ⊥
  not_proper (Load op literal) i is rooms test proper = not_literal op (literal_entry literal) (first_found (literal_entry literal) rooms) test (subst IsProper is proper)
  not_proper (Table low labels default) i is rooms test proper =
      let t : IsTable low (map (target_of places) labels) = subst IsProper is proper in
      false≢true (sym (not_true (is_table low (length labels)) test) ∙ (ap (is_table low) (sym (length-map labels (target_of places))) ∙ is_table_if low (map (target_of places) labels) t))
  not_proper (Lookup pairs default) i is rooms test proper =
      let l : IsLookup (numbered (target_of places) pairs) = subst IsProper is proper in
      false≢true (sym (not_true (is_lookup pairs) test) ∙ is_lookup_if (target_of places) pairs l)
  not_proper (Member op class name desc marked) i is rooms test proper = not_member op class name desc marked (is_interface_call op) i is test proper
  not_proper (Multi desc dims) i is rooms test proper =
      let p : IsProper (instrs.Multi (places.index (entries.Class desc)) (unsigned_abs dims)) = subst IsProper is proper in
      dims_none dims test p.1
  not_proper o i is rooms test proper = false≢true test
