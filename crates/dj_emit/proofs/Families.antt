-- The charge of an instruction, and what becomes of it, go by its opcode alone, unless it is `new`.
use Rattle.std.proofs.Common.{◌≡◌, ℕ, ◌+◌, ◌-◌, ◌<◌, ◌≤◌, ◌⊎◌, inl, inr, Bool, true, false, ◌&&◌, ◌||◌, ℤ, List, [], ◌∷◌, refl, sym, ap, subst, ◌∙◌, arith, not, zero, suc, nat_eq, nat_le, nat_lt, unsigned_abs, if◌then◌else◌}
use Rattle.std.specs.List.{list_any, AllByRecursion}
use Rattle.std.proofs.lemmas.Bool.{leb-true, leb-false, eqb-true, eqb-false, and_parts}
use Rattle.std.proofs.lemmas.Bool.Decides.{nat_tests}
use Rattle.dj_names.specs.declared.descriptor.Base.{Base}
use Rattle.dj_names.specs.declared.run.Element.{Element}
use Rattle.dj_names.specs.declared.run.Element.TheVariants as elements
use Rattle.dj_names.specs.declared.run.Value.TheVariants as values
use Rattle.dj_names.specs.trusted.Types.{array_type, base_array}
use Rattle.dj_ops.specs.declared.instruction.Instr.{Instr}
use Rattle.dj_ops.specs.declared.instruction.Instr.TheVariants as instrs
use Rattle.dj_ops.specs.trusted.Forms.{form_of}
use Rattle.dj_ops.specs.trusted.Instructions.{IsProper, IsLiteral}
use Rattle.dj_model.specs.trusted.Types.{Member}
use Rattle.dj_model.specs.trusted.Instructions.{Named, Nothing, AnInt, ALong, AText, AClass, AField, AMethod, AnInterfaceMethod, Another, Instruction, Push, PushText, New, NewArray, CheckCast, InstanceOf, Other}
use Rattle.dj_model.specs.trusted.Opcodes.{Row, row_does, constant_rows, store_rows, stack_rows, number_rows, bit_rows, last_rows, rows_of, simple, local_rows, jump_rows, operand_does, literal, field_rows, method_rows, interface_method_rows, member_does, member, interface_call, class_use, array_rows, new_array, instruction_of}
use Rattle.dj_model.specs.trusted.Program.{Program}
use Rattle.dj_groups.specs.Groups.{Inserted, Copy, ElementBytes, Record, Jumps, Invocations, Throws, Arrays, Own, Kept, Popped, other_charge, charge_of, own_of}
use Rattle.dj_emit.specs.Parts.{own_by}
use Rattle.dj_emit.proofs.Orders.{split_le}
use Rattle.dj_emit.specs.Charges.{simple_list, is_jump_op, jump_list, array_list_in, array_list, plain_list, is_monitor, is_new}

-- ---- opcodes that are charged though they aren't supported

data Special (op : ℕ) : Type 0 where
  Virtual : op ≡ 182 → Special op
  Direct : op ≡ 183 → Special op
  Static : op ≡ 184 → Special op
  Interfaces : op ≡ 185 → Special op
  Makes : op ≡ 189 → Special op
  Free : other_charge op ≡ [] → Special op

one_of_four : (op : ℕ) → 182 ≤ op → op ≤ 185 → Special op
one_of_four op low high = elim (split_le 182 op low) [
  | inl e ↦ Virtual (sym e)
  | inr more ↦ elim (split_le 183 op more) [
    | inl e ↦ Direct (sym e)
    | inr more ↦ elim (split_le 184 op more) [
      | inl e ↦ Static (sym e)
      | inr more ↦ Interfaces (omega (arith, more, high))
    ]
  ]
]

special : (op : ℕ) → Special op
special op = go (nat_le 182 op) refl (nat_le op 185) refl (nat_eq op 189) refl where
  go : (a : Bool) → nat_le 182 op ≡ a → (b : Bool) → nat_le op 185 ≡ b → (c : Bool) → nat_eq op 189 ≡ c → Special op
  go true low true high c e = one_of_four op (leb-true 182 op low) (leb-true op 185 high)
  go true low false high true e = Makes (eqb-true op 189 e)
  go true low false high false e = Free (rw (low, high, e) refl)
  go false low b high true e = Makes (eqb-true op 189 e)
  go false low b high false e = Free (rw (low, e) refl)

-- ---- lists of opcodes, each of which has its instruction

-- what is asked of the instruction
module _ {A : Type 0} (ask : Instruction → A) where
  -- rows from a first opcode to a last one
  rows_give : (a : A) (named : Named) (op : ℕ) (rows : List Row) → AllByRecursion (λ row. row.first ≤ op → op ≤ row.last → ask (row.does (op - row.first)) ≡ a) rows
      → ask (Other op named) ≡ a → ask (row_does rows named op) ≡ a
  rows_give a named op [] each other = other
  rows_give a named op (row ∷ rows) each other = go (nat_le row.first op) refl (nat_le op row.last) refl (rows_give a named op rows each.1 other) where
    go : (low : Bool) → nat_le row.first op ≡ low → (high : Bool) → nat_le op row.last ≡ high → ask (row_does rows named op) ≡ a
        → ask (if low && high then row.does (op - row.first) else row_does rows named op) ≡ a
    go true low true high later = each.0 (leb-true row.first op low) (leb-true op row.last high)
    go true low false high later = later
    go false low high e later = later

  operands_give : (give : ℕ → A) (named : Named) (op n : ℕ) (rows : List (ℕ × (ℕ → Instruction))) → AllByRecursion (λ row. ask (row.1 n) ≡ give row.0) rows
      → (list_any (λ row. nat_eq op row.0) rows ≡ false → ask (Other op named) ≡ give op) → ask (operand_does rows named op n) ≡ give op
  operands_give give named op n [] each other = other refl
  operands_give give named op n (row ∷ rows) each other = go (nat_eq op row.0) refl (λ none. operands_give give named op n rows each.1 none) other where
    go : (same : Bool) → nat_eq op row.0 ≡ same → ((list_any (λ row. nat_eq op row.0) rows ≡ false → ask (Other op named) ≡ give op) → ask (operand_does rows named op n) ≡ give op)
        → ((same || list_any (λ row. nat_eq op row.0) rows) ≡ false → ask (Other op named) ≡ give op)
        → ask (if same then row.1 n else operand_does rows named op n) ≡ give op
    go true same later other = each.0 ∙ ap give (sym (eqb-true op row.0 same))
    go false same later other = later other

  members_give : (give : ℕ → A) (named : Named) (op : ℕ) (m : Member) (rows : List (ℕ × (Member → Instruction))) → AllByRecursion (λ row. ask (row.1 m) ≡ give row.0) rows
      → ask (Other op named) ≡ give op → ask (member_does rows named op m) ≡ give op
  members_give give named op m [] each other = other
  members_give give named op m (row ∷ rows) each other = go (nat_eq op row.0) refl (members_give give named op m rows each.1 other) where
    go : (same : Bool) → nat_eq op row.0 ≡ same → ask (member_does rows named op m) ≡ give op → ask (if same then row.1 m else member_does rows named op m) ≡ give op
    go true same later = each.0 ∙ ap give (sym (eqb-true op row.0 same))
    go false same later = later

-- ---- instructions without operands

module _ {A : Type 0} (ask : Instruction → A) (a : A) where
  -- each row from a first opcode to a last one answers so
  abbrev Answers : ℕ → List Row → Type 0
  Answers op rows = AllByRecursion (λ row. row.first ≤ op → op ≤ row.last → ask (row.does (op - row.first)) ≡ a) rows

  rows_answer : (op : ℕ) (named : Named) → Answers op constant_rows → Answers op store_rows → Answers op stack_rows → Answers op number_rows → Answers op bit_rows → Answers op last_rows
      → ask (Other op named) ≡ a → ask (simple named op) ≡ a
  unfolding simple
  rows_answer op named constants stores stacks numbers bits lasts other = go (nat_lt op 46) (nat_lt op 87) (nat_lt op 96) (nat_lt op 120) (nat_lt op 133) where
    go : (first second third fourth fifth : Bool)
        → ask (row_does (if first then constant_rows else if second then store_rows else if third then stack_rows else if fourth then number_rows else if fifth then bit_rows else last_rows) named op) ≡ a
    go true second third fourth fifth = rows_give ask a named op constant_rows constants other
    go false true third fourth fifth = rows_give ask a named op store_rows stores other
    go false false true fourth fifth = rows_give ask a named op stack_rows stacks other
    go false false false true fifth = rows_give ask a named op number_rows numbers other
    go false false false false true = rows_give ask a named op bit_rows bits other
    go false false false false false = rows_give ask a named op last_rows lasts other

module _ (program : Program) where
  free_charge : (op : ℕ) (named : Named) → other_charge op ≡ [] → (op ≡ 191 → ⊥) → charge_of program (simple named op) ≡ []
  free_charge op named free other =
      rows_answer (charge_of program) [] op named
      (λ _ _. refl, (λ _ _. refl, (λ _ _. refl, (λ _ _. refl, (λ _ _. refl, (λ _ _. refl, (λ _ _. refl, tt)))))))
      (λ _ _. refl, (λ _ _. refl, (λ _ _. refl, (λ _ _. refl, (λ _ _. refl, (λ _ _. refl, (λ _ _. refl, (λ _ _. refl, (λ _ _. refl, (λ _ _. refl, (λ _ _. refl, (λ _ _. refl, (λ _ _. refl, (λ _ _. refl, (λ _ _. refl, tt)))))))))))))))
      (λ _ _. refl, (λ _ _. refl, (λ _ _. refl, (λ _ _. refl, (λ _ _. refl, (λ _ _. refl, (λ _ _. refl, (λ _ _. refl, (λ _ _. refl, tt)))))))))
      (λ _ _. refl, (λ _ _. refl, (λ _ _. refl, (λ _ _. refl, (λ _ _. refl, (λ _ _. refl, (λ _ _. refl, (λ _ _. refl, (λ _ _. refl, (λ _ _. refl, (λ _ _. refl, (λ _ _. refl, tt))))))))))))
      (λ _ _. refl, (λ _ _. refl, (λ _ _. refl, (λ _ _. refl, (λ _ _. refl, (λ _ _. refl, (λ _ _. refl, (λ _ _. refl, (λ _ _. refl, (λ _ _. refl, (λ _ _. refl, (λ _ _. refl, tt))))))))))))
      (λ _ _. refl, (λ _ _. refl, (λ _ _. refl, (λ _ _. refl, (λ _ _. refl, (λ _ _. refl, (λ _ _. refl, (λ _ _. refl, (λ _ _. refl, (λ _ _. refl, (λ _ _. refl, (λ low high. absurd (other (omega (arith, low, high))), (λ _ _. refl, tt)))))))))))))
      free

  simple_charged : (named : Named) (op : ℕ) → charge_of program (simple named op) ≡ simple_list op
  unfolding simple
  simple_charged named op = go (nat_eq op 191) refl (special op) where
    go : (throws : Bool) → nat_eq op 191 ≡ throws → Special op → charge_of program (simple named op) ≡ (if throws then Record Throws ∷ [] else other_charge op)
    go true e s = subst (λ (x : ℕ). charge_of program (simple named x) ≡ Record Throws ∷ []) (sym (eqb-true op 191 e)) refl
    go false e (Virtual is) = subst (λ (x : ℕ). charge_of program (simple named x) ≡ other_charge x) (sym is) refl
    go false e (Direct is) = subst (λ (x : ℕ). charge_of program (simple named x) ≡ other_charge x) (sym is) refl
    go false e (Static is) = subst (λ (x : ℕ). charge_of program (simple named x) ≡ other_charge x) (sym is) refl
    go false e (Interfaces is) = subst (λ (x : ℕ). charge_of program (simple named x) ≡ other_charge x) (sym is) refl
    go false e (Makes is) = subst (λ (x : ℕ). charge_of program (simple named x) ≡ other_charge x) (sym is) refl
    go false e (Free f) = free_charge op named f (eqb-false op 191 e) ∙ sym f

less_not : (a b : ℕ) → nat_le a b ≡ false → a ≤ b → ⊥
less_not a b e h = omega (arith, leb-false a b e, h)

simple_kept : (named : Named) (op : ℕ) → own_of (simple named op) ≡ own_by (nat_le 194 op && nat_le op 195)
unfolding simple
simple_kept named op = go (nat_le 194 op) refl (nat_le op 195) refl where
  kept : (194 ≤ op → op ≤ 195 → ⊥) → own_of (simple named op) ≡ Kept
  kept other =
      rows_answer own_of Kept op named
      (λ _ _. refl, (λ _ _. refl, (λ _ _. refl, (λ _ _. refl, (λ _ _. refl, (λ _ _. refl, (λ _ _. refl, tt)))))))
      (λ _ _. refl, (λ _ _. refl, (λ _ _. refl, (λ _ _. refl, (λ _ _. refl, (λ _ _. refl, (λ _ _. refl, (λ _ _. refl, (λ _ _. refl, (λ _ _. refl, (λ _ _. refl, (λ _ _. refl, (λ _ _. refl, (λ _ _. refl, (λ _ _. refl, tt)))))))))))))))
      (λ _ _. refl, (λ _ _. refl, (λ _ _. refl, (λ _ _. refl, (λ _ _. refl, (λ _ _. refl, (λ _ _. refl, (λ _ _. refl, (λ _ _. refl, tt)))))))))
      (λ _ _. refl, (λ _ _. refl, (λ _ _. refl, (λ _ _. refl, (λ _ _. refl, (λ _ _. refl, (λ _ _. refl, (λ _ _. refl, (λ _ _. refl, (λ _ _. refl, (λ _ _. refl, (λ _ _. refl, tt))))))))))))
      (λ _ _. refl, (λ _ _. refl, (λ _ _. refl, (λ _ _. refl, (λ _ _. refl, (λ _ _. refl, (λ _ _. refl, (λ _ _. refl, (λ _ _. refl, (λ _ _. refl, (λ _ _. refl, (λ _ _. refl, tt))))))))))))
      (λ _ _. refl, (λ _ _. refl, (λ _ _. refl, (λ _ _. refl, (λ _ _. refl, (λ _ _. refl, (λ _ _. refl, (λ _ _. refl, (λ _ _. refl, (λ _ _. refl, (λ _ _. refl, (λ _ _. refl, (λ low high. absurd (other low high), tt)))))))))))))
      refl

  go : (low : Bool) → nat_le 194 op ≡ low → (high : Bool) → nat_le op 195 ≡ high → own_of (simple named op) ≡ own_by (low && high)
  go true low true high = elim (split_le 194 op (leb-true 194 op low)) [
    | inl e ↦ subst (λ (x : ℕ). own_of (simple named x) ≡ Popped) e refl
    | inr more ↦ (let e : 195 ≡ op = omega (arith, more, leb-true op 195 high) in subst (λ (x : ℕ). own_of (simple named x) ≡ Popped) e refl)
  ]
  go true low false high = kept (λ _ less. absurd (less_not op 195 high less))
  go false low high e = kept (λ less _. absurd (less_not 194 op low less))

-- ---- local variables and jumps

-- a test that holds of each number below n, by computing
holds_below : (ℕ → Bool) → ℕ → Bool
holds_below test zero = true
holds_below test (suc n) = test n && holds_below test n

holds_at : (test : ℕ → Bool) (n k : ℕ) → holds_below test n ≡ true → k < n → test k ≡ true
unfolding holds_below
holds_at test zero k all less = absurd (omega (arith, less))
holds_at test (suc n) k all less = elim (split_le k n (omega (arith, less))) [
  | inl e ↦ subst (λ (x : ℕ). test x ≡ true) (sym e) (and_parts (test n) (holds_below test n) all).0
  | inr more ↦ holds_at test n k (and_parts (test n) (holds_below test n) all).1 (omega (arith, more))
]

-- each opcode of a jump is in a row
abbrev in_rows : ℕ → Bool
in_rows op = list_any (λ row. nat_eq op row.0) jump_rows

jumps_in_rows : (op : ℕ) → is_jump_op op ≡ true → in_rows op ≡ true
unfolding holds_below
jumps_in_rows op is = by (is_jump_op op) (in_rows op) is (holds_at (λ op. not (is_jump_op op) || in_rows op) 201 op refl (few op is)) where
  by : (a b : Bool) → a ≡ true → (not a || b) ≡ true → b ≡ true
  by true b e h = h
  by false b e h = absurd cc

  few : (op : ℕ) → is_jump_op op ≡ true → op < 201
  few op h = grind (arith, nat_tests)

module _ (program : Program) where
  jump_charged : (named : Named) (op n : ℕ) → charge_of program (operand_does jump_rows named op n) ≡ jump_list op
  jump_charged named op n =
      operands_give (charge_of program) jump_list named op n jump_rows
      (refl, (refl, (refl, (refl, (refl, (refl, (refl, (refl, (refl, (refl, (refl, (refl, (refl, (refl, (refl, (refl, (refl, (refl, tt))))))))))))))))))
      (λ none. go (is_jump_op op) refl none) where
        go : (jumps : Bool) → is_jump_op op ≡ jumps → in_rows op ≡ false → other_charge op ≡ (if jumps then Record Jumps ∷ [] else other_charge op)
        go false e none = refl
        go true e none = let there : in_rows op ≡ true = jumps_in_rows op e in absurd cc

  -- ---- constants, members and classes

  literal_charged : (op : ℕ) (named : Named) → other_charge op ≡ [] → charge_of program (literal op named) ≡ []
  literal_charged op (AnInt z) free = go (nat_eq op 20) where
    go : (b : Bool) → charge_of program (if b then Other op (AnInt z) else Push (values.Int z)) ≡ []
    go true = free
    go false = refl
  literal_charged op (AText units) free = go (nat_eq op 20) where
    go : (b : Bool) → charge_of program (if b then Other op (AText units) else PushText units) ≡ []
    go true = free
    go false = refl
  literal_charged op (ALong z) free = go (nat_eq op 20) where
    go : (b : Bool) → charge_of program (if b then Push (values.Long z) else Other op (ALong z)) ≡ []
    go true = refl
    go false = free
  literal_charged op Nothing free = free
  literal_charged op (AClass class) free = free
  literal_charged op (AField m) free = free
  literal_charged op (AMethod m) free = free
  literal_charged op (AnInterfaceMethod m) free = free
  literal_charged op Another free = free

  member_charged : (op : ℕ) (named : Named) → charge_of program (member op named) ≡ other_charge op
  member_charged op (AField m) = members_give (charge_of program) other_charge (AField m) op m field_rows (refl, (refl, (refl, (refl, tt)))) refl
  member_charged op (AMethod m) = members_give (charge_of program) other_charge (AMethod m) op m method_rows (refl, (refl, (refl, tt))) refl
  member_charged op (AnInterfaceMethod m) = members_give (charge_of program) other_charge (AnInterfaceMethod m) op m interface_method_rows (refl, (refl, tt)) refl
  member_charged op Nothing = refl
  member_charged op (AnInt z) = refl
  member_charged op (ALong z) = refl
  member_charged op (AText units) = refl
  member_charged op (AClass class) = refl
  member_charged op Another = refl

  class_charged : (op : ℕ) (named : Named) → nat_eq op 187 ≡ false → charge_of program (class_use op named) ≡ other_charge op
  class_charged op (AClass class) plain = go (nat_eq op 187) plain (nat_eq op 189) refl (nat_eq op 192) refl (nat_eq op 193) refl where
    go : (a : Bool) → a ≡ false → (b : Bool) → nat_eq op 189 ≡ b → (c : Bool) → nat_eq op 192 ≡ c → (d : Bool) → nat_eq op 193 ≡ d
        → charge_of program (if a then New class else if b then NewArray (array_type class) elements.Ref else if c then CheckCast class else if d then InstanceOf class else Other op (AClass class))
        ≡ other_charge op
    go true p b e c f d g = absurd cc
    go false p true e c f d g = ap other_charge (sym (eqb-true op 189 e))
    go false p false e true f d g = ap other_charge (sym (eqb-true op 192 f))
    go false p false e false f true g = ap other_charge (sym (eqb-true op 193 g))
    go false p false e false f false g = refl
  class_charged op (AField m) plain = refl
  class_charged op (AMethod m) plain = refl
  class_charged op (AnInterfaceMethod m) plain = refl
  class_charged op Nothing plain = refl
  class_charged op (AnInt z) plain = refl
  class_charged op (ALong z) plain = refl
  class_charged op (AText units) plain = refl
  class_charged op Another plain = refl

  interface_charged : (count : ℕ) (named : Named) → charge_of program (interface_call count named) ≡ Record Invocations ∷ []
  interface_charged count (AnInterfaceMethod m) = refl
  interface_charged count (AClass class) = refl
  interface_charged count (AField m) = refl
  interface_charged count (AMethod m) = refl
  interface_charged count Nothing = refl
  interface_charged count (AnInt z) = refl
  interface_charged count (ALong z) = refl
  interface_charged count (AText units) = refl
  interface_charged count Another = refl

  array_charged : (rows : List (ℕ × Base × Element)) (base : ℕ) → charge_of program (new_array rows base) ≡ array_list_in rows base
  array_charged [] base = refl
  array_charged (row ∷ rows) base = go (nat_eq base row.0) (array_charged rows base) where
    go : (b : Bool) → charge_of program (new_array rows base) ≡ array_list_in rows base
        → charge_of program (if b then NewArray (base_array row.1) row.2 else new_array rows base)
        ≡ (if b then Copy ∷ ElementBytes row.2 ∷ Record Arrays ∷ [] else array_list_in rows base)
    go true later = refl
    go false later = later

literal_free : (op index : ℕ) → IsLiteral (form_of op) index → other_charge op ≡ []
unfolding form_of
literal_free op index h = go (special op) where
  go : Special op → other_charge op ≡ []
  go (Virtual e) = absurd (let P : ℕ → Type 0 = λ x. IsLiteral (form_of x) index in subst P e h)
  go (Direct e) = absurd (let P : ℕ → Type 0 = λ x. IsLiteral (form_of x) index in subst P e h)
  go (Static e) = absurd (let P : ℕ → Type 0 = λ x. IsLiteral (form_of x) index in subst P e h)
  go (Interfaces e) = absurd (let P : ℕ → Type 0 = λ x. IsLiteral (form_of x) index in subst P e h)
  go (Makes e) = absurd (let P : ℕ → Type 0 = λ x. IsLiteral (form_of x) index in subst P e h)
  go (Free f) = f

-- ---- which become a pop

kept_if : (b : Bool) (x y : Instruction) → own_of x ≡ Kept → own_of y ≡ Kept → own_of (if b then x else y) ≡ Kept
kept_if true x y a c = a
kept_if false x y a c = c

literal_kept : (op : ℕ) (named : Named) → own_of (literal op named) ≡ Kept
literal_kept op (AnInt z) = kept_if (nat_eq op 20) (Other op (AnInt z)) (Push (values.Int z)) refl refl
literal_kept op (AText units) = kept_if (nat_eq op 20) (Other op (AText units)) (PushText units) refl refl
literal_kept op (ALong z) = kept_if (nat_eq op 20) (Push (values.Long z)) (Other op (ALong z)) refl refl
literal_kept op Nothing = refl
literal_kept op (AClass class) = refl
literal_kept op (AField m) = refl
literal_kept op (AMethod m) = refl
literal_kept op (AnInterfaceMethod m) = refl
literal_kept op Another = refl

member_kept : (op : ℕ) (named : Named) → own_of (member op named) ≡ Kept
member_kept op (AField m) = members_give own_of (λ _. Kept) (AField m) op m field_rows (refl, (refl, (refl, (refl, tt)))) refl
member_kept op (AMethod m) = members_give own_of (λ _. Kept) (AMethod m) op m method_rows (refl, (refl, (refl, tt))) refl
member_kept op (AnInterfaceMethod m) = members_give own_of (λ _. Kept) (AnInterfaceMethod m) op m interface_method_rows (refl, (refl, tt)) refl
member_kept op Nothing = refl
member_kept op (AnInt z) = refl
member_kept op (ALong z) = refl
member_kept op (AText units) = refl
member_kept op (AClass class) = refl
member_kept op Another = refl

class_kept : (op : ℕ) (named : Named) → own_of (class_use op named) ≡ Kept
class_kept op (AClass class) =
    kept_if (nat_eq op 187) (New class) (if nat_eq op 189 then NewArray (array_type class) elements.Ref else if nat_eq op 192 then CheckCast class else if nat_eq op 193 then InstanceOf class else Other op (AClass class)) refl
    (kept_if (nat_eq op 189) (NewArray (array_type class) elements.Ref) (if nat_eq op 192 then CheckCast class else if nat_eq op 193 then InstanceOf class else Other op (AClass class)) refl
    (kept_if (nat_eq op 192) (CheckCast class) (if nat_eq op 193 then InstanceOf class else Other op (AClass class)) refl
    (kept_if (nat_eq op 193) (InstanceOf class) (Other op (AClass class)) refl refl)))
class_kept op (AField m) = refl
class_kept op (AMethod m) = refl
class_kept op (AnInterfaceMethod m) = refl
class_kept op Nothing = refl
class_kept op (AnInt z) = refl
class_kept op (ALong z) = refl
class_kept op (AText units) = refl
class_kept op Another = refl

interface_kept : (count : ℕ) (named : Named) → own_of (interface_call count named) ≡ Kept
interface_kept count (AnInterfaceMethod m) = refl
interface_kept count (AClass class) = refl
interface_kept count (AField m) = refl
interface_kept count (AMethod m) = refl
interface_kept count Nothing = refl
interface_kept count (AnInt z) = refl
interface_kept count (ALong z) = refl
interface_kept count (AText units) = refl
interface_kept count Another = refl

array_kept : (rows : List (ℕ × Base × Element)) (base : ℕ) → own_of (new_array rows base) ≡ Kept
array_kept [] base = refl
array_kept (row ∷ rows) base = kept_if (nat_eq base row.0) (NewArray (base_array row.1) row.2) (new_array rows base) refl (array_kept rows base)

-- ---- any instruction

pub plain_charged : (program : Program) (instr : Instr) (named : Named) → IsProper instr → is_new instr ≡ false → charge_of program (instruction_of instr named) ≡ plain_list instr
unfolding instruction_of
plain_charged program (instrs.Simple op) named proper plain = simple_charged program named op
plain_charged program (instrs.Push op value) named proper plain = refl
plain_charged program (instrs.Literal op index) named proper plain = literal_charged program op named (literal_free op index proper)
plain_charged program (instrs.Local op slot wide) named proper plain =
    operands_give (charge_of program) other_charge named op slot local_rows (refl, (refl, (refl, (refl, (refl, (refl, tt)))))) (λ _. refl)
plain_charged program (instrs.Inc slot by wide) named proper plain = refl
plain_charged program (instrs.Branch op target) named proper plain = jump_charged program named op (unsigned_abs target)
plain_charged program (instrs.Table low default targets) named proper plain = refl
plain_charged program (instrs.Lookup default pairs) named proper plain = refl
plain_charged program (instrs.Member op index) named proper plain = member_charged program op named
plain_charged program (instrs.Interface index count) named proper plain = interface_charged program count named
plain_charged program (instrs.Dynamic index) named proper plain = refl
plain_charged program (instrs.Class op index) named proper plain = class_charged program op named plain
plain_charged program (instrs.Array base) named proper plain = array_charged program array_rows base
plain_charged program (instrs.Multi index dims) named proper plain = refl

pub own_is : (instr : Instr) (named : Named) → own_of (instruction_of instr named) ≡ own_by (is_monitor instr)
unfolding instruction_of
own_is (instrs.Simple op) named = simple_kept named op
own_is (instrs.Push op value) named = refl
own_is (instrs.Literal op index) named = literal_kept op named
own_is (instrs.Local op slot wide) named = operands_give own_of (λ _. Kept) named op slot local_rows (refl, (refl, (refl, (refl, (refl, (refl, tt)))))) (λ _. refl)
own_is (instrs.Inc slot by wide) named = refl
own_is (instrs.Branch op target) named =
    operands_give own_of (λ _. Kept) named op (unsigned_abs target) jump_rows
    (refl, (refl, (refl, (refl, (refl, (refl, (refl, (refl, (refl, (refl, (refl, (refl, (refl, (refl, (refl, (refl, (refl, (refl, tt))))))))))))))))))
    (λ _. refl)
own_is (instrs.Table low default targets) named = refl
own_is (instrs.Lookup default pairs) named = refl
own_is (instrs.Member op index) named = member_kept op named
own_is (instrs.Interface index count) named = interface_kept count named
own_is (instrs.Dynamic index) named = refl
own_is (instrs.Class op index) named = class_kept op named
own_is (instrs.Array base) named = array_kept array_rows base
own_is (instrs.Multi index dims) named = refl
