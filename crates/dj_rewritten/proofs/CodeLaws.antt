-- The instructions of rewritten code name what the rewritten program has there.
use Rattle.std.proofs.Common.{◌≡◌, ℕ, ◌-◌, Bool, true, false, ◌&&◌, ℤ, pos, unsigned_abs, List, [], ◌∷◌, map, refl, ap, ◌⊎◌, inl, inr, if◌then◌else◌, nat_eq, nat_lt, nat_le}
use Rattle.std.specs.Prelude.{⊤, ◌+ℤ◌}
use Rattle.dj_names.specs.declared.descriptor.Base.{Base}
use Rattle.dj_names.specs.declared.run.Element.{Element}
use Rattle.dj_names.specs.declared.run.Value.TheVariants as values
use Rattle.dj_names.specs.trusted.Types.{base_array}
use Rattle.dj_names.specs.Types.{in_sandbox}
use Rattle.dj_ops.specs.declared.instruction.Instr.{Instr}
use Rattle.dj_ops.specs.declared.instruction.Instr.TheVariants as instrs
use Rattle.dj_labels.specs.trusted.Targets.{with_targets}
use Rattle.dj_model.specs.trusted.Types.{Member}
use Rattle.dj_model.specs.Types.{member_map}
use Rattle.dj_model.specs.trusted.Instructions.{Named, Nothing, AnInt, ALong, AText, AClass, AField, AMethod, AnInterfaceMethod, Another, Instruction, Push, PushText, NewArray, Other, Switch}
use Rattle.dj_model.specs.Instructions.{named_map, instruction_map}
use Rattle.dj_model.specs.trusted.Opcodes.{Row, row_does, simple, constant_rows, store_rows, stack_rows, number_rows, bit_rows, last_rows, operand_does, local_rows, jump_rows, literal, member, member_does, field_rows, method_rows, interface_method_rows, interface_call, class_use, new_array, array_rows, table_pairs, lookup_pairs, instruction_of}
use Rattle.dj_groups.specs.Rewritten.{retargeted}
use Rattle.dj_groups.specs.Grouped.{new_target}

either : (b : Bool) → (b ≡ true) ⊎ (b ≡ false)
either true = inl refl
either false = inr refl

-- ---- instructions without operands: other names and other targets leave them as they are

abbrev pub IsBare : Instruction → Type 0
IsBare i = (instruction_map in_sandbox i ≡ i) × ((to : ℕ → ℕ) → retargeted to i ≡ i)

abbrev AllBare : List Row → Type 0
AllBare [] = ⊤
AllBare (row ∷ rows) = ((n : ℕ) → IsBare (row.does n)) × AllBare rows

chosen : (h : Instruction → Instruction) (b : Bool) (i j k : Instruction) → h i ≡ i → h j ≡ k → h (if b then i else j) ≡ (if b then i else k)
chosen h true i j k e d = e
chosen h false i j k e d = d

module _ (named : Named) (op : ℕ) where
  row_named : (rows : List Row) → AllBare rows → instruction_map in_sandbox (row_does rows named op) ≡ row_does rows (named_map in_sandbox named) op
  row_named [] all = refl
  row_named (row ∷ rows) all =
      chosen (instruction_map in_sandbox) (nat_le row.first op && nat_le op row.last) (row.does (op - row.first)) (row_does rows named op)
      (row_does rows (named_map in_sandbox named) op) (all.0 (op - row.first)).0 (row_named rows all.1)

  row_aimed : (to : ℕ → ℕ) (rows : List Row) → AllBare rows → retargeted to (row_does rows named op) ≡ row_does rows named op
  row_aimed to [] all = refl
  row_aimed to (row ∷ rows) all =
      chosen (retargeted to) (nat_le row.first op && nat_le op row.last) (row.does (op - row.first)) (row_does rows named op)
      (row_does rows named op) ((all.0 (op - row.first)).1 to) (row_aimed to rows all.1)

all_constant : AllBare constant_rows
all_constant = ((λ n. (refl, λ to. refl)), ((λ n. (refl, λ to. refl)), ((λ n. (refl, λ to. refl)), ((λ n. (refl, λ to. refl)), ((λ n. (refl, λ to. refl)), ((λ n. (refl, λ to. refl)), ((λ n. (refl, λ to. refl)), tt)))))))

all_store : AllBare store_rows
all_store = ((λ n. (refl, λ to. refl)), ((λ n. (refl, λ to. refl)), ((λ n. (refl, λ to. refl)), ((λ n. (refl, λ to. refl)), ((λ n. (refl, λ to. refl)), ((λ n. (refl, λ to. refl)), ((λ n. (refl, λ to. refl)), ((λ n. (refl, λ to. refl)), ((λ n. (refl, λ to. refl)), ((λ n. (refl, λ to. refl)), ((λ n. (refl, λ to. refl)), ((λ n. (refl, λ to. refl)), ((λ n. (refl, λ to. refl)), ((λ n. (refl, λ to. refl)), ((λ n. (refl, λ to. refl)), tt)))))))))))))))

all_stack : AllBare stack_rows
all_stack = ((λ n. (refl, λ to. refl)), ((λ n. (refl, λ to. refl)), ((λ n. (refl, λ to. refl)), ((λ n. (refl, λ to. refl)), ((λ n. (refl, λ to. refl)), ((λ n. (refl, λ to. refl)), ((λ n. (refl, λ to. refl)), ((λ n. (refl, λ to. refl)), ((λ n. (refl, λ to. refl)), tt)))))))))

all_number : AllBare number_rows
all_number = ((λ n. (refl, λ to. refl)), ((λ n. (refl, λ to. refl)), ((λ n. (refl, λ to. refl)), ((λ n. (refl, λ to. refl)), ((λ n. (refl, λ to. refl)), ((λ n. (refl, λ to. refl)), ((λ n. (refl, λ to. refl)), ((λ n. (refl, λ to. refl)), ((λ n. (refl, λ to. refl)), ((λ n. (refl, λ to. refl)), ((λ n. (refl, λ to. refl)), ((λ n. (refl, λ to. refl)), tt))))))))))))

all_bit : AllBare bit_rows
all_bit = ((λ n. (refl, λ to. refl)), ((λ n. (refl, λ to. refl)), ((λ n. (refl, λ to. refl)), ((λ n. (refl, λ to. refl)), ((λ n. (refl, λ to. refl)), ((λ n. (refl, λ to. refl)), ((λ n. (refl, λ to. refl)), ((λ n. (refl, λ to. refl)), ((λ n. (refl, λ to. refl)), ((λ n. (refl, λ to. refl)), ((λ n. (refl, λ to. refl)), ((λ n. (refl, λ to. refl)), tt))))))))))))

all_last : AllBare last_rows
all_last = ((λ n. (refl, λ to. refl)), ((λ n. (refl, λ to. refl)), ((λ n. (refl, λ to. refl)), ((λ n. (refl, λ to. refl)), ((λ n. (refl, λ to. refl)), ((λ n. (refl, λ to. refl)), ((λ n. (refl, λ to. refl)), ((λ n. (refl, λ to. refl)), ((λ n. (refl, λ to. refl)), ((λ n. (refl, λ to. refl)), ((λ n. (refl, λ to. refl)), ((λ n. (refl, λ to. refl)), ((λ n. (refl, λ to. refl)), tt)))))))))))))

-- what holds of each of the lists holds of the one that an opcode has
by_rows : (P : List Row → Type 0) (op : ℕ) → P constant_rows → P store_rows → P stack_rows → P number_rows → P bit_rows → P last_rows
    → P (if nat_lt op 46 then constant_rows else if nat_lt op 87 then store_rows else if nat_lt op 96 then stack_rows
    else if nat_lt op 120 then number_rows else if nat_lt op 133 then bit_rows else last_rows)
by_rows P op a b c d e f = pick (nat_lt op 46) a (pick (nat_lt op 87) b (pick (nat_lt op 96) c (pick (nat_lt op 120) d (pick (nat_lt op 133) e f)))) where
  pick : (t : Bool) {x y : List Row} → P x → P y → P (if t then x else y)
  pick true p q = p
  pick false p q = q

pub simple_named : (named : Named) (op : ℕ) → instruction_map in_sandbox (simple named op) ≡ simple (named_map in_sandbox named) op
unfolding simple
simple_named named op =
    by_rows (λ rows. instruction_map in_sandbox (row_does rows named op) ≡ row_does rows (named_map in_sandbox named) op) op
    (row_named named op constant_rows all_constant) (row_named named op store_rows all_store) (row_named named op stack_rows all_stack)
    (row_named named op number_rows all_number) (row_named named op bit_rows all_bit) (row_named named op last_rows all_last)

pub simple_aimed : (named : Named) (op : ℕ) (to : ℕ → ℕ) → retargeted to (simple named op) ≡ simple named op
unfolding simple
simple_aimed named op to =
    by_rows (λ rows. retargeted to (row_does rows named op) ≡ row_does rows named op) op
    (row_aimed named op to constant_rows all_constant) (row_aimed named op to store_rows all_store) (row_aimed named op to stack_rows all_stack)
    (row_aimed named op to number_rows all_number) (row_aimed named op to bit_rows all_bit) (row_aimed named op to last_rows all_last)

-- ---- the other forms, under other names

abbrev OperandsBare : List (ℕ × (ℕ → Instruction)) → Type 0
OperandsBare [] = ⊤
OperandsBare (row ∷ rows) = ((n : ℕ) → instruction_map in_sandbox (row.1 n) ≡ row.1 n) × OperandsBare rows

operand_named : (named : Named) (op n : ℕ) (rows : List (ℕ × (ℕ → Instruction))) → OperandsBare rows
    → instruction_map in_sandbox (operand_does rows named op n) ≡ operand_does rows (named_map in_sandbox named) op n
operand_named named op n [] all = refl
operand_named named op n (row ∷ rows) all =
    chosen (instruction_map in_sandbox) (nat_eq op row.0) (row.1 n) (operand_does rows named op n) (operand_does rows (named_map in_sandbox named) op n)
    (all.0 n) (operand_named named op n rows all.1)

-- a choice is made alike
alike : (b : Bool) (i j k l : Instruction) → instruction_map in_sandbox i ≡ k → instruction_map in_sandbox j ≡ l
    → instruction_map in_sandbox (if b then i else j) ≡ (if b then k else l)
alike true i j k l e d = e
alike false i j k l e d = d

literal_named : (op : ℕ) (named : Named) → instruction_map in_sandbox (literal op named) ≡ literal op (named_map in_sandbox named)
literal_named op Nothing = refl
literal_named op (AnInt z) = alike (nat_eq op 20) (Other op (AnInt z)) (Push (values.Int z)) (Other op (AnInt z)) (Push (values.Int z)) refl refl
literal_named op (ALong z) = alike (nat_eq op 20) (Push (values.Long z)) (Other op (ALong z)) (Push (values.Long z)) (Other op (ALong z)) refl refl
literal_named op (AText units) = alike (nat_eq op 20) (Other op (AText units)) (PushText units) (Other op (AText units)) (PushText units) refl refl
literal_named op (AClass class) = refl
literal_named op (AField m) = refl
literal_named op (AMethod m) = refl
literal_named op (AnInterfaceMethod m) = refl
literal_named op Another = refl

abbrev MembersDo : List (ℕ × (Member → Instruction)) → Type 0
MembersDo [] = ⊤
MembersDo (row ∷ rows) = ((m : Member) → instruction_map in_sandbox (row.1 m) ≡ row.1 (member_map in_sandbox m)) × MembersDo rows

members_named : (rows : List (ℕ × (Member → Instruction))) → MembersDo rows → (named : Named) (op : ℕ) (m : Member)
    → instruction_map in_sandbox (member_does rows named op m) ≡ member_does rows (named_map in_sandbox named) op (member_map in_sandbox m)
members_named [] all named op m = refl
members_named (row ∷ rows) all named op m =
    alike (nat_eq op row.0) (row.1 m) (member_does rows named op m) (row.1 (member_map in_sandbox m))
    (member_does rows (named_map in_sandbox named) op (member_map in_sandbox m)) (all.0 m) (members_named rows all.1 named op m)

member_named : (op : ℕ) (named : Named) → instruction_map in_sandbox (member op named) ≡ member op (named_map in_sandbox named)
member_named op Nothing = refl
member_named op (AnInt z) = refl
member_named op (ALong z) = refl
member_named op (AText units) = refl
member_named op (AClass class) = refl
member_named op (AField m) = members_named field_rows ((λ m. refl), ((λ m. refl), ((λ m. refl), ((λ m. refl), tt)))) (AField m) op m
member_named op (AMethod m) = members_named method_rows ((λ m. refl), ((λ m. refl), ((λ m. refl), tt))) (AMethod m) op m
member_named op (AnInterfaceMethod m) = members_named interface_method_rows ((λ m. refl), ((λ m. refl), tt)) (AnInterfaceMethod m) op m
member_named op Another = refl

interface_named : (count : ℕ) (named : Named) → instruction_map in_sandbox (interface_call count named) ≡ interface_call count (named_map in_sandbox named)
interface_named count Nothing = refl
interface_named count (AnInt z) = refl
interface_named count (ALong z) = refl
interface_named count (AText units) = refl
interface_named count (AClass class) = refl
interface_named count (AField m) = refl
interface_named count (AMethod m) = refl
interface_named count (AnInterfaceMethod m) = refl
interface_named count Another = refl

class_named : (op : ℕ) (named : Named) → instruction_map in_sandbox (class_use op named) ≡ class_use op (named_map in_sandbox named)
class_named op Nothing = refl
class_named op (AnInt z) = refl
class_named op (ALong z) = refl
class_named op (AText units) = refl
class_named op (AClass class) =
    alike (nat_eq op 187) _ _ _ _ refl (alike (nat_eq op 189) _ _ _ _ refl (alike (nat_eq op 192) _ _ _ _ refl (alike (nat_eq op 193) _ _ _ _ refl refl)))
class_named op (AField m) = refl
class_named op (AMethod m) = refl
class_named op (AnInterfaceMethod m) = refl
class_named op Another = refl

array_named : (rows : List (ℕ × Base × Element)) (base : ℕ) → instruction_map in_sandbox (new_array rows base) ≡ new_array rows base
array_named [] base = refl
array_named (row ∷ rows) base = alike (nat_eq base row.0) (NewArray (base_array row.1) row.2) (new_array rows base) (NewArray (base_array row.1) row.2) (new_array rows base) refl (array_named rows base)

-- an opcode does the same with another operand's name
pub instruction_named : (instr : Instr) (named : Named) → instruction_map in_sandbox (instruction_of instr named) ≡ instruction_of instr (named_map in_sandbox named)
unfolding instruction_of
instruction_named (instrs.Simple op) named = simple_named named op
instruction_named (instrs.Push op value) named = refl
instruction_named (instrs.Literal op index) named = literal_named op named
instruction_named (instrs.Local op slot wide) named =
    operand_named named op slot local_rows ((λ n. refl), ((λ n. refl), ((λ n. refl), ((λ n. refl), ((λ n. refl), ((λ n. refl), tt))))))
instruction_named (instrs.Inc slot by wide) named = refl
instruction_named (instrs.Branch op target) named =
    operand_named named op (unsigned_abs target) jump_rows
    ((λ n. refl), ((λ n. refl), ((λ n. refl), ((λ n. refl), ((λ n. refl), ((λ n. refl), ((λ n. refl), ((λ n. refl), ((λ n. refl), ((λ n. refl), ((λ n. refl), ((λ n. refl), ((λ n. refl), ((λ n. refl), ((λ n. refl), ((λ n. refl), ((λ n. refl), ((λ n. refl), tt))))))))))))))))))
instruction_named (instrs.Table low default targets) named = refl
instruction_named (instrs.Lookup default pairs) named = refl
instruction_named (instrs.Member op index) named = member_named op named
instruction_named (instrs.Interface index count) named = interface_named count named
instruction_named (instrs.Dynamic index) named = refl
instruction_named (instrs.Class op index) named = class_named op named
instruction_named (instrs.Array base) named = array_named array_rows base
instruction_named (instrs.Multi index dims) named = refl

-- ---- and with other targets

abbrev OperandsAimed : (ℕ → ℕ) → List (ℕ × (ℕ → Instruction)) → Type 0
OperandsAimed to [] = ⊤
OperandsAimed to (row ∷ rows) = ((n : ℕ) → retargeted to (row.1 n) ≡ row.1 (to n)) × OperandsAimed to rows

aimed : (to : ℕ → ℕ) (b : Bool) (i j k l : Instruction) → retargeted to i ≡ k → retargeted to j ≡ l → retargeted to (if b then i else j) ≡ (if b then k else l)
aimed to true i j k l e d = e
aimed to false i j k l e d = d

jump_aimed : (to : ℕ → ℕ) (named : Named) (op n : ℕ) (rows : List (ℕ × (ℕ → Instruction))) → OperandsAimed to rows
    → retargeted to (operand_does rows named op n) ≡ operand_does rows named op (to n)
jump_aimed to named op n [] all = refl
jump_aimed to named op n (row ∷ rows) all =
    aimed to (nat_eq op row.0) (row.1 n) (operand_does rows named op n) (row.1 (to n)) (operand_does rows named op (to n)) (all.0 n) (jump_aimed to named op n rows all.1)

abbrev OperandsStill : (ℕ → ℕ) → List (ℕ × (ℕ → Instruction)) → Type 0
OperandsStill to [] = ⊤
OperandsStill to (row ∷ rows) = ((n : ℕ) → retargeted to (row.1 n) ≡ row.1 n) × OperandsStill to rows

local_aimed : (to : ℕ → ℕ) (named : Named) (op n : ℕ) (rows : List (ℕ × (ℕ → Instruction))) → OperandsStill to rows
    → retargeted to (operand_does rows named op n) ≡ operand_does rows named op n
local_aimed to named op n [] all = refl
local_aimed to named op n (row ∷ rows) all =
    aimed to (nat_eq op row.0) (row.1 n) (operand_does rows named op n) (row.1 n) (operand_does rows named op n) (all.0 n) (local_aimed to named op n rows all.1)

literal_aimed : (to : ℕ → ℕ) (op : ℕ) (named : Named) → retargeted to (literal op named) ≡ literal op named
literal_aimed to op Nothing = refl
literal_aimed to op (AnInt z) = aimed to (nat_eq op 20) (Other op (AnInt z)) (Push (values.Int z)) (Other op (AnInt z)) (Push (values.Int z)) refl refl
literal_aimed to op (ALong z) = aimed to (nat_eq op 20) (Push (values.Long z)) (Other op (ALong z)) (Push (values.Long z)) (Other op (ALong z)) refl refl
literal_aimed to op (AText units) = aimed to (nat_eq op 20) (Other op (AText units)) (PushText units) (Other op (AText units)) (PushText units) refl refl
literal_aimed to op (AClass class) = refl
literal_aimed to op (AField m) = refl
literal_aimed to op (AMethod m) = refl
literal_aimed to op (AnInterfaceMethod m) = refl
literal_aimed to op Another = refl

abbrev MembersStill : (ℕ → ℕ) → List (ℕ × (Member → Instruction)) → Type 0
MembersStill to [] = ⊤
MembersStill to (row ∷ rows) = ((m : Member) → retargeted to (row.1 m) ≡ row.1 m) × MembersStill to rows

members_aimed : (to : ℕ → ℕ) (rows : List (ℕ × (Member → Instruction))) → MembersStill to rows → (named : Named) (op : ℕ) (m : Member)
    → retargeted to (member_does rows named op m) ≡ member_does rows named op m
members_aimed to [] all named op m = refl
members_aimed to (row ∷ rows) all named op m =
    aimed to (nat_eq op row.0) (row.1 m) (member_does rows named op m) (row.1 m) (member_does rows named op m) (all.0 m) (members_aimed to rows all.1 named op m)

member_aimed : (to : ℕ → ℕ) (op : ℕ) (named : Named) → retargeted to (member op named) ≡ member op named
member_aimed to op Nothing = refl
member_aimed to op (AnInt z) = refl
member_aimed to op (ALong z) = refl
member_aimed to op (AText units) = refl
member_aimed to op (AClass class) = refl
member_aimed to op (AField m) = members_aimed to field_rows ((λ m. refl), ((λ m. refl), ((λ m. refl), ((λ m. refl), tt)))) (AField m) op m
member_aimed to op (AMethod m) = members_aimed to method_rows ((λ m. refl), ((λ m. refl), ((λ m. refl), tt))) (AMethod m) op m
member_aimed to op (AnInterfaceMethod m) = members_aimed to interface_method_rows ((λ m. refl), ((λ m. refl), tt)) (AnInterfaceMethod m) op m
member_aimed to op Another = refl

interface_aimed : (to : ℕ → ℕ) (count : ℕ) (named : Named) → retargeted to (interface_call count named) ≡ interface_call count named
interface_aimed to count Nothing = refl
interface_aimed to count (AnInt z) = refl
interface_aimed to count (ALong z) = refl
interface_aimed to count (AText units) = refl
interface_aimed to count (AClass class) = refl
interface_aimed to count (AField m) = refl
interface_aimed to count (AMethod m) = refl
interface_aimed to count (AnInterfaceMethod m) = refl
interface_aimed to count Another = refl

class_aimed : (to : ℕ → ℕ) (op : ℕ) (named : Named) → retargeted to (class_use op named) ≡ class_use op named
class_aimed to op Nothing = refl
class_aimed to op (AnInt z) = refl
class_aimed to op (ALong z) = refl
class_aimed to op (AText units) = refl
class_aimed to op (AClass class) =
    aimed to (nat_eq op 187) _ _ _ _ refl (aimed to (nat_eq op 189) _ _ _ _ refl (aimed to (nat_eq op 192) _ _ _ _ refl (aimed to (nat_eq op 193) _ _ _ _ refl refl)))
class_aimed to op (AField m) = refl
class_aimed to op (AMethod m) = refl
class_aimed to op (AnInterfaceMethod m) = refl
class_aimed to op Another = refl

array_aimed : (to : ℕ → ℕ) (rows : List (ℕ × Base × Element)) (base : ℕ) → retargeted to (new_array rows base) ≡ new_array rows base
array_aimed to [] base = refl
array_aimed to (row ∷ rows) base = aimed to (nat_eq base row.0) (NewArray (base_array row.1) row.2) (new_array rows base) (NewArray (base_array row.1) row.2) (new_array rows base) refl (array_aimed to rows base)

table_aimed : (to : ℕ → ℕ) (low : ℤ) (targets : List ℤ)
    → map (λ (pair : ℤ × ℕ). (pair.0, to pair.1)) (table_pairs low targets) ≡ table_pairs low (map (new_target to) targets)
table_aimed to low [] = refl
table_aimed to low (target ∷ targets) = ap (λ (x : List (ℤ × ℕ)). (low, to (unsigned_abs target)) ∷ x) (table_aimed to (low +ℤ pos 1) targets)

lookup_aimed : (to : ℕ → ℕ) (pairs : List (ℤ × ℤ))
    → map (λ (pair : ℤ × ℕ). (pair.0, to pair.1)) (lookup_pairs pairs) ≡ lookup_pairs (map (λ (pair : ℤ × ℤ). (pair.0, new_target to pair.1)) pairs)
lookup_aimed to [] = refl
lookup_aimed to (pair ∷ pairs) = ap (λ (x : List (ℤ × ℕ)). (pair.0, to (unsigned_abs pair.1)) ∷ x) (lookup_aimed to pairs)

pub instruction_aimed : (to : ℕ → ℕ) (instr : Instr) (named : Named)
    → retargeted to (instruction_of instr named) ≡ instruction_of (with_targets (new_target to) instr) named
unfolding instruction_of
instruction_aimed to (instrs.Simple op) named = simple_aimed named op to
instruction_aimed to (instrs.Push op value) named = refl
instruction_aimed to (instrs.Literal op index) named = literal_aimed to op named
instruction_aimed to (instrs.Local op slot wide) named =
    local_aimed to named op slot local_rows ((λ n. refl), ((λ n. refl), ((λ n. refl), ((λ n. refl), ((λ n. refl), ((λ n. refl), tt))))))
instruction_aimed to (instrs.Inc slot by wide) named = refl
instruction_aimed to (instrs.Branch op target) named =
    jump_aimed to named op (unsigned_abs target) jump_rows
    ((λ n. refl), ((λ n. refl), ((λ n. refl), ((λ n. refl), ((λ n. refl), ((λ n. refl), ((λ n. refl), ((λ n. refl), ((λ n. refl), ((λ n. refl), ((λ n. refl), ((λ n. refl), ((λ n. refl), ((λ n. refl), ((λ n. refl), ((λ n. refl), ((λ n. refl), ((λ n. refl), tt))))))))))))))))))
instruction_aimed to (instrs.Table low default targets) named = ap (λ (x : List (ℤ × ℕ)). Switch x (to (unsigned_abs default))) (table_aimed to low targets)
instruction_aimed to (instrs.Lookup default pairs) named = ap (λ (x : List (ℤ × ℕ)). Switch x (to (unsigned_abs default))) (lookup_aimed to pairs)
instruction_aimed to (instrs.Member op index) named = member_aimed to op named
instruction_aimed to (instrs.Interface index count) named = interface_aimed to count named
instruction_aimed to (instrs.Dynamic index) named = refl
instruction_aimed to (instrs.Class op index) named = class_aimed to op named
instruction_aimed to (instrs.Array base) named = array_aimed to array_rows base
instruction_aimed to (instrs.Multi index dims) named = refl
