-- What instructions are by their forms: where they jump to, and that those without an operand of the pool are linked.
use Rattle.std.proofs.Common.{◌≡◌, ℕ, ◌<◌, ◌⊎◌, true, ℤ, pos, List, [], ◌∷◌, map, nat_eq, nat_lt, unsigned_abs, refl, ap, ◌∙◌, inl, inr, arith, IsTrue}
use Rattle.std.specs.Prelude.{⊤, ◌+ℤ◌}
use Rattle.std.specs.List.{list_all, AllByRecursion}
use Rattle.std.proofs.lemmas.Bool.Decides.{nat_tests}
use Rattle.std.proofs.lemmas.Int.{ints}
use Rattle.dj_names.specs.declared.descriptor.Base.{Base}
use Rattle.dj_names.specs.declared.run.Element.{Element}
use Rattle.dj_names.specs.declared.run.Value.TheVariants as values
use Rattle.dj_names.specs.trusted.Types.{base_array}
use Rattle.dj_ops.specs.declared.instruction.Instr.{Instr}
use Rattle.dj_ops.specs.declared.instruction.Instr.TheVariants as instrs
use Rattle.dj_labels.specs.trusted.Labels.{IsNumber, HasNumbers}
use Rattle.dj_pool.specs.trusted.Pool.{Constant}
use Rattle.dj_model.specs.trusted.Types.{Member}
use Rattle.dj_model.specs.trusted.Instructions.{Named, AnInt, ALong, AText, AClass, AField, AMethod, AnInterfaceMethod, Instruction, Push, PushText, NewArray, Other, targets}
use Rattle.dj_model.specs.trusted.Opcodes.{Row, row_does, simple, constant_rows, store_rows, stack_rows, number_rows, bit_rows, last_rows, operand_does, local_rows, jump_rows, literal, member, member_does, field_rows, method_rows, interface_method_rows, interface_call, class_use, new_array, array_rows, table_pairs, lookup_pairs, instruction_of}
use Rattle.dj_model.specs.trusted.Program.{Program}
use Rattle.dj_model.specs.Sound.{is_linked}
use Rattle.dj_model.proofs.MappedNames.{either}
use Rattle.dj_model.proofs.Flows.{either_way}
use Rattle.dj_program.specs.trusted.Naming.{instruction_in}
use Rattle.dj_shape_rule.proofs.Forms.{AllDo, row_such, operand_such}

abbrev pub IsOther : Instruction → Type 0
IsOther (Other op named) = ⊤
IsOther i = ⊥

-- it is linked, or it isn't run, and has no shape
abbrev pub IsFine : Program → Instruction → Type 0
IsFine program i = IsOther i ⊎ IsTrue (is_linked program [] i)

-- and it jumps nowhere
abbrev pub IsCalm : Program → Instruction → Type 0
IsCalm program i = (targets i ≡ []) × IsFine program i

module _ (program : Program) where
  -- ---- instructions without operands

  simple_calm : (named : Named) (op : ℕ) → IsCalm program (simple named op)
  unfolding simple is_linked
  simple_calm named op =
      elim (either (nat_lt op 46)) [
        | inl a ↦ rw a (all constant_rows ((λ n. (refl, inr refl)), ((λ n. (refl, inr refl)), ((λ n. (refl, inr refl)), ((λ n. (refl, inr refl)), ((λ n. (refl, inr refl)), ((λ n. (refl, inr refl)), ((λ n. (refl, inr refl)), tt))))))))
        | inr a ↦ elim (either (nat_lt op 87)) [
          | inl b ↦ rw (a, b) (all store_rows ((λ n. (refl, inr refl)), ((λ n. (refl, inr refl)), ((λ n. (refl, inr refl)), ((λ n. (refl, inr refl)), ((λ n. (refl, inr refl)), ((λ n. (refl, inr refl)), ((λ n. (refl, inr refl)), ((λ n. (refl, inr refl)), ((λ n. (refl, inr refl)), ((λ n. (refl, inr refl)), ((λ n. (refl, inr refl)), ((λ n. (refl, inr refl)), ((λ n. (refl, inr refl)), ((λ n. (refl, inr refl)), ((λ n. (refl, inr refl)), tt))))))))))))))))
          | inr b ↦ elim (either (nat_lt op 96)) [
            | inl c ↦ rw (a, b, c) (all stack_rows ((λ n. (refl, inr refl)), ((λ n. (refl, inr refl)), ((λ n. (refl, inr refl)), ((λ n. (refl, inr refl)), ((λ n. (refl, inr refl)), ((λ n. (refl, inr refl)), ((λ n. (refl, inr refl)), ((λ n. (refl, inr refl)), ((λ n. (refl, inr refl)), tt))))))))))
            | inr c ↦ elim (either (nat_lt op 120)) [
              | inl d ↦ rw (a, b, c, d) (all number_rows ((λ n. (refl, inr refl)), ((λ n. (refl, inr refl)), ((λ n. (refl, inr refl)), ((λ n. (refl, inr refl)), ((λ n. (refl, inr refl)), ((λ n. (refl, inr refl)), ((λ n. (refl, inr refl)), ((λ n. (refl, inr refl)), ((λ n. (refl, inr refl)), ((λ n. (refl, inr refl)), ((λ n. (refl, inr refl)), ((λ n. (refl, inr refl)), tt)))))))))))))
              | inr d ↦ elim (either (nat_lt op 133)) [
                | inl e ↦ rw (a, b, c, d, e) (all bit_rows ((λ n. (refl, inr refl)), ((λ n. (refl, inr refl)), ((λ n. (refl, inr refl)), ((λ n. (refl, inr refl)), ((λ n. (refl, inr refl)), ((λ n. (refl, inr refl)), ((λ n. (refl, inr refl)), ((λ n. (refl, inr refl)), ((λ n. (refl, inr refl)), ((λ n. (refl, inr refl)), ((λ n. (refl, inr refl)), ((λ n. (refl, inr refl)), tt)))))))))))))
                | inr e ↦ rw (a, b, c, d, e) (all last_rows ((λ n. (refl, inr refl)), ((λ n. (refl, inr refl)), ((λ n. (refl, inr refl)), ((λ n. (refl, inr refl)), ((λ n. (refl, inr refl)), ((λ n. (refl, inr refl)), ((λ n. (refl, inr refl)), ((λ n. (refl, inr refl)), ((λ n. (refl, inr refl)), ((λ n. (refl, inr refl)), ((λ n. (refl, inr refl)), ((λ n. (refl, inr refl)), ((λ n. (refl, inr refl)), tt))))))))))))))
              ]
            ]
          ]
        ]
      ] where
        all : (rows : List Row) → AllDo (IsCalm program) rows → IsCalm program (row_does rows named op)
        all rows each = row_such (IsCalm program) named op (refl, inl tt) rows each

  -- ---- local variables, jumps and literals

  local_calm : (op slot : ℕ) (named : Named) → IsCalm program (operand_does local_rows named op slot)
  unfolding is_linked
  local_calm op slot named = operand_such (λ n. IsCalm program) named op slot (refl, inl tt) local_rows ((λ n. (refl, inr refl)), ((λ n. (refl, inr refl)), ((λ n. (refl, inr refl)), ((λ n. (refl, inr refl)), ((λ n. (refl, inr refl)), ((λ n. (refl, inr refl)), tt))))))

  -- a jump to the number, or an unknown one
  abbrev IsJump : ℕ → Instruction → Type 0
  IsJump n i = ((targets i ≡ n ∷ []) ⊎ (targets i ≡ [])) × IsFine program i

  jump_jumps : (op target : ℕ) (named : Named) → IsJump target (operand_does jump_rows named op target)
  unfolding is_linked
  jump_jumps op target named = operand_such IsJump named op target (inr refl, inl tt) jump_rows
      ((λ n. (inl refl, inr refl)), ((λ n. (inl refl, inr refl)), ((λ n. (inl refl, inr refl)), ((λ n. (inl refl, inr refl)), ((λ n. (inl refl, inr refl)), ((λ n. (inl refl, inr refl)), ((λ n. (inl refl, inr refl)), ((λ n. (inl refl, inr refl)), ((λ n. (inl refl, inr refl)), ((λ n. (inl refl, inr refl)), ((λ n. (inl refl, inr refl)), ((λ n. (inl refl, inr refl)), ((λ n. (inl refl, inr refl)), ((λ n. (inl refl, inr refl)), ((λ n. (inl refl, inr refl)), ((λ n. (inl refl, inr refl)), ((λ n. (inl refl, inr refl)), ((λ n. (inl refl, inr refl)), tt))))))))))))))))))

  literal_calm : (op : ℕ) (named : Named) → IsCalm program (literal op named)
  unfolding is_linked
  literal_calm op (AnInt z) = either_way (IsCalm program) (nat_eq op 20) (Other op (AnInt z)) (Push (values.Int z)) (refl, inl tt) (refl, inr refl)
  literal_calm op (AText units) = either_way (IsCalm program) (nat_eq op 20) (Other op (AText units)) (PushText units) (refl, inl tt) (refl, inr refl)
  literal_calm op (ALong z) = either_way (IsCalm program) (nat_eq op 20) (Push (values.Long z)) (Other op (ALong z)) (refl, inr refl) (refl, inl tt)
  literal_calm op named = (refl, inl tt)

  array_calm : (rows : List (ℕ × Base × Element)) (base : ℕ) → IsCalm program (new_array rows base)
  unfolding is_linked
  array_calm [] base = (refl, inl tt)
  array_calm (row ∷ rows) base = either_way (IsCalm program) (nat_eq base row.0) (NewArray (base_array row.1) row.2) (new_array rows base) (refl, inr refl) (array_calm rows base)

  -- ---- of all forms without a member or a class

  abbrev pub IsPlain : Instr → Type 0
  IsPlain (instrs.Member op index) = ⊥
  IsPlain (instrs.Interface index count) = ⊥
  IsPlain (instrs.Class op index) = ⊥
  IsPlain instr = ⊤

  pub plain_fine : (pool : List Constant) (instr : Instr) → IsPlain instr → IsFine program (instruction_in pool instr)
  unfolding instruction_of is_linked
  plain_fine pool (instrs.Simple op) plain = (simple_calm _ op).1
  plain_fine pool (instrs.Push op value) plain = inr refl
  plain_fine pool (instrs.Literal op index) plain = (literal_calm op _).1
  plain_fine pool (instrs.Local op slot wide) plain = (local_calm op slot _).1
  plain_fine pool (instrs.Inc slot by wide) plain = inr refl
  plain_fine pool (instrs.Branch op target) plain = (jump_jumps op (unsigned_abs target) _).1
  plain_fine pool (instrs.Table low default targets) plain = inr refl
  plain_fine pool (instrs.Lookup default pairs) plain = inr refl
  plain_fine pool (instrs.Member op index) plain = absurd plain
  plain_fine pool (instrs.Interface index count) plain = absurd plain
  plain_fine pool (instrs.Dynamic index) plain = inl tt
  plain_fine pool (instrs.Class op index) plain = absurd plain
  plain_fine pool (instrs.Array base) plain = (array_calm array_rows base).1
  plain_fine pool (instrs.Multi index dims) plain = inl tt

-- ---- members and classes jump nowhere

abbrev JumpsNowhere : Instruction → Type 0
JumpsNowhere i = targets i ≡ []

abbrev MemberDo : Member → List (ℕ × (Member → Instruction)) → Type 0
MemberDo m [] = ⊤
MemberDo m (row ∷ rows) = JumpsNowhere (row.1 m) × MemberDo m rows

member_such : (named : Named) (op : ℕ) (m : Member) (rows : List (ℕ × (Member → Instruction))) → MemberDo m rows → JumpsNowhere (member_does rows named op m)
member_such named op m [] all = refl
member_such named op m (row ∷ rows) all = either_way JumpsNowhere (nat_eq op row.0) (row.1 m) (member_does rows named op m) all.0 (member_such named op m rows all.1)

member_still : (op : ℕ) (named : Named) → JumpsNowhere (member op named)
member_still op (AField m) = member_such (AField m) op m field_rows (refl, (refl, (refl, (refl, tt))))
member_still op (AMethod m) = member_such (AMethod m) op m method_rows (refl, (refl, (refl, tt)))
member_still op (AnInterfaceMethod m) = member_such (AnInterfaceMethod m) op m interface_method_rows (refl, (refl, tt))
member_still op named = refl

interface_still : (count : ℕ) (named : Named) → JumpsNowhere (interface_call count named)
interface_still count (AnInterfaceMethod m) = refl
interface_still count named = refl

class_still : (op : ℕ) (named : Named) → JumpsNowhere (class_use op named)
class_still op (AClass class) = elim (either (nat_eq op 187)) [
  | inl a ↦ rw a refl
  | inr a ↦ elim (either (nat_eq op 189)) [
    | inl b ↦ rw (a, b) refl
    | inr b ↦ elim (either (nat_eq op 192)) [
      | inl c ↦ rw (a, b, c) refl
      | inr c ↦ elim (either (nat_eq op 193)) [ inl d ↦ rw (a, b, c, d) refl | inr d ↦ rw (a, b, c, d) refl ]
    ]
  ]
]
class_still op named = refl

-- ---- targets are numbers of instructions

abbrev pub AreWithin : ℕ → List ℕ → Type 0
AreWithin count ts = list_all (λ target. nat_lt target count) ts ≡ true

number_within : (count : ℕ) (target : ℤ) → IsNumber count target → nat_lt (unsigned_abs target) count ≡ true
number_within count target is =
    let lt : unsigned_abs target < count = omega (arith, ints, is.0, is.1) in
    below (unsigned_abs target) lt where
      below : (n : ℕ) → n < count → nat_lt n count ≡ true
      below n lt = grind (arith, nat_tests)

none_within : (count : ℕ) (ts : List ℕ) → ts ≡ [] → AreWithin count ts
none_within count ts e = ap (list_all (λ target. nat_lt target count)) e

jump_within : (count : ℕ) (target : ℤ) (ts : List ℕ) → IsNumber count target → (ts ≡ unsigned_abs target ∷ []) ⊎ (ts ≡ []) → AreWithin count ts
jump_within count target ts is (inl e) = let one = number_within count target is in ap (list_all (λ t. nat_lt t count)) e ∙ rw one refl
jump_within count target ts is (inr e) = none_within count ts e

table_within : (count : ℕ) (low : ℤ) (ts : List ℤ) → AllByRecursion (IsNumber count) ts → AreWithin count (map (λ (pair : ℤ × ℕ). pair.1) (table_pairs low ts))
table_within count low [] each = refl
table_within count low (t ∷ ts) each =
    let first = number_within count t each.0 in
    let rest = table_within count (low +ℤ pos 1) ts each.1 in
    rw (first, rest) refl

lookup_within : (count : ℕ) (pairs : List (ℤ × ℤ)) → AllByRecursion (IsNumber count) (map (λ (pair : ℤ × ℤ). pair.1) pairs) → AreWithin count (map (λ (pair : ℤ × ℕ). pair.1) (lookup_pairs pairs))
lookup_within count [] each = refl
lookup_within count (p ∷ pairs) each =
    let first = number_within count p.1 each.0 in
    let rest = lookup_within count pairs each.1 in
    rw (first, rest) refl

pub targets_within : (pool : List Constant) (count : ℕ) (instr : Instr) → HasNumbers count instr → AreWithin count (targets (instruction_in pool instr))
unfolding instruction_of
targets_within pool count (instrs.Simple op) has = none_within count _ (simple_calm [] _ op).0
targets_within pool count (instrs.Push op value) has = refl
targets_within pool count (instrs.Literal op index) has = none_within count _ (literal_calm [] op _).0
targets_within pool count (instrs.Local op slot wide) has = none_within count _ (local_calm [] op slot _).0
targets_within pool count (instrs.Inc slot by wide) has = refl
targets_within pool count (instrs.Branch op target) has = jump_within count target _ has.0 (jump_jumps [] op (unsigned_abs target) _).0
targets_within pool count (instrs.Table low default ts) has =
    let first = number_within count default has.0 in
    let rest = table_within count low ts has.1 in
    rw (first, rest) refl
targets_within pool count (instrs.Lookup default pairs) has =
    let first = number_within count default has.0 in
    let rest = lookup_within count pairs has.1 in
    rw (first, rest) refl
targets_within pool count (instrs.Member op index) has = none_within count _ (member_still op _)
targets_within pool count (instrs.Interface index n) has = none_within count _ (interface_still n _)
targets_within pool count (instrs.Dynamic index) has = refl
targets_within pool count (instrs.Class op index) has = none_within count _ (class_still op _)
targets_within pool count (instrs.Array base) has = none_within count _ (array_calm [] array_rows base).0
targets_within pool count (instrs.Multi index dims) has = refl
