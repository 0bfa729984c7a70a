-- What instructions take by the tables of their class is what their indexes name.
use Rattle.std.proofs.Common.{◌≡◌, ℕ, zero, suc, ◌+◌, ◌<◌, ◌≤◌, ◌&&◌, ◌⊎◌, inl, inr, Bool, true, false, ℤ, List, [], ◌∷◌, length, Option, Some, None, nat_eq, get_or, refl, sym, ap, ◌∙◌, arith}
use Rattle.std.specs.Prelude.{⊤, nat_le, ◌-◌, unsigned_abs, if◌then◌else◌, slice_get, option_and_then}
use Rattle.std.specs.Option.{option_map}
use Rattle.std.proofs.lemmas.Bool.{eqb-true}
use Rattle.std.proofs.lemmas.Bool.Decides.{leb_tells}
use Rattle.std.proofs.lemmas.List.{get_or_past}
use Rattle.std.proofs.lemmas.Option.{slice_get_past, get_or_from_slice_get}
use Rattle.dj_names.specs.declared.descriptor.Base.{Base}
use Rattle.dj_names.specs.declared.descriptor.Ty.{Ty}
use Rattle.dj_names.specs.declared.run.Element.{Element}
use Rattle.dj_names.specs.trusted.Types.{base_array}
use Rattle.dj_ops.specs.declared.instruction.Instr.{Instr}
use Rattle.dj_ops.specs.declared.instruction.Instr.TheVariants as instrs
use Rattle.dj_pool.specs.trusted.Pool.{Constant, Utf8, Integer, Float, Long, Double, Class, Text, Field, Method, InterfaceMethod, NameAndType, Handle, MethodType, Dynamic, Hole, constant_at}
use Rattle.dj_model.specs.trusted.Types.{Member}
use Rattle.dj_model.specs.trusted.Instructions.{Named, Nothing, AnInt, ALong, AText, AClass, AField, AMethod, AnInterfaceMethod, Another, Instruction, NewArray, Other}
use Rattle.dj_model.specs.trusted.Opcodes.{Row, row_does, rows_of, simple, constant_rows, store_rows, stack_rows, number_rows, bit_rows, last_rows, local_rows, jump_rows, operand_does, literal, field_rows, method_rows, interface_method_rows, member_does, member, interface_call, class_use, array_rows, new_array, instruction_of}
use Rattle.dj_early_rules.specs.trusted.Instructions.{index_of}
use Rattle.dj_program.specs.trusted.Naming.{named_at, named_by, named_if, member_in, named_or_another}
use Rattle.dj_numbering.specs.Typed.{Typed, type_number, text_of_type}
use Rattle.dj_image.specs.declared.operand.Operand.{Operand}
use Rattle.dj_image.specs.declared.operand.Operand.TheVariants as operands
use Rattle.dj_image.specs.Imaged.{Imaged, typed_of}
use Rattle.dj_image.specs.Operands.{class_operand, text_operand, method_operand, field_operand, units_number, resolved_method_number, resolved_field_number, named_operand, takes_named, made_operand, operand_by, operand_of, named_class, made_class}
use Rattle.dj_image.specs.Tables.{IsOperandTable, IsNamedTable, IsMadeTable}
use Rattle.dj_image.specs.Taken.{is_interface_method, interface_at, takes_operand, indexed_operand, base_text, base_operand, class_kept, kept_operand}
use Rattle.dj_image.proofs.Bare.{either}
use Rattle.dj_image.proofs.Standing.{IsLike, text_number_like}

-- ---- entries of tables

past_named : (pool : List Constant) (index : ℕ) → length pool + 1 ≤ index → named_at pool index ≡ Another
past_named pool zero past = absurd (omega arith)
past_named pool (suc i) past = let far : length pool ≤ i = omega arith in rw (slice_get_past pool i far) refl

within_or_past : (n index : ℕ) → (index < n) ⊎ (n ≤ index)
within_or_past n index = elim (leb_tells n index) [ inl is ↦ inr is.1 | inr isnt ↦ inl isnt.1 ]

pub operand_entry : (imaged : Imaged) (pool : List Constant) (kept : List Operand) → IsOperandTable imaged pool kept → (index : ℕ)
    → get_or kept index operands.Unresolved ≡ named_operand imaged (named_at pool index)
operand_entry imaged pool kept table index = elim (within_or_past (length pool + 1) index) [
  | inl within ↦ get_or_from_slice_get kept index (named_operand imaged (named_at pool index)) operands.Unresolved (table.each index within)
  | inr past ↦ get_or_past kept index operands.Unresolved (omega (arith, table.count)) ∙ sym (ap (named_operand imaged) (past_named pool index past))
]

pub made_entry : (imaged : Imaged) (pool : List Constant) (kept : List (Option ℕ)) → IsMadeTable imaged pool kept → (index : ℕ)
    → get_or kept index None ≡ made_class imaged (named_at pool index)
made_entry imaged pool kept table index = elim (within_or_past (length pool + 1) index) [
  | inl within ↦ get_or_from_slice_get kept index (made_class imaged (named_at pool index)) None (table.each index within)
  | inr past ↦ get_or_past kept index None (omega (arith, table.count)) ∙ sym (ap (made_class imaged) (past_named pool index past))
]

pub named_entry : (imaged : Imaged) (pool : List Constant) (kept : List (Option ℕ)) → IsNamedTable imaged pool kept → (index : ℕ)
    → option_and_then (λ (number : Option ℕ). number) (slice_get kept index) ≡ named_class imaged (named_at pool index)
named_entry imaged pool kept table index = elim (within_or_past (length pool + 1) index) [
  | inl within ↦ ap (option_and_then (λ (number : Option ℕ). number)) (table.each index within)
  | inr past ↦ ap (option_and_then (λ (number : Option ℕ). number)) (slice_get_past kept index (omega (arith, table.count)))
      ∙ sym (ap (named_class imaged) (past_named pool index past))
]

-- ---- methods of classes and of interfaces

-- a method is one of an interface just where the test says so; and there is a constant
abbrev IsTagged : Named → Bool → Type 0
IsTagged Nothing b = ⊥
IsTagged (AMethod m) b = b ≡ false
IsTagged (AnInterfaceMethod m) b = b ≡ true
IsTagged named b = ⊤

field_tagged : (m : Option Member) (b : Bool) → IsTagged (named_or_another (option_map AField m)) b
field_tagged None b = tt
field_tagged (Some m) b = tt

method_tagged : (m : Option Member) → IsTagged (named_or_another (option_map AMethod m)) false
method_tagged None = tt
method_tagged (Some m) = refl

interface_tagged : (m : Option Member) → IsTagged (named_or_another (option_map AnInterfaceMethod m)) true
interface_tagged None = tt
interface_tagged (Some m) = refl

constant_tagged : (pool : List Constant) (k : Option Constant) → IsTagged (named_or_another (option_map (named_by pool) k)) (is_interface_method k)
unfolding named_by
constant_tagged pool None = tt
constant_tagged pool (Some (Utf8 text)) = tt
constant_tagged pool (Some (Integer n)) = tt
constant_tagged pool (Some (Float bits)) = tt
constant_tagged pool (Some (Long n)) = tt
constant_tagged pool (Some (Double bits)) = tt
constant_tagged pool (Some (Class name)) = tt
constant_tagged pool (Some (Text text)) = tt
constant_tagged pool (Some (Field class names)) = field_tagged (member_in pool class names) false
constant_tagged pool (Some (Method class names)) = method_tagged (member_in pool class names)
constant_tagged pool (Some (InterfaceMethod class names)) = interface_tagged (member_in pool class names)
constant_tagged pool (Some (NameAndType name desc)) = tt
constant_tagged pool (Some (Handle kind member)) = tt
constant_tagged pool (Some (MethodType desc)) = tt
constant_tagged pool (Some (Dynamic bootstrap names)) = tt
constant_tagged pool (Some Hole) = tt

tagged_at : (pool : List Constant) (index : ℕ) → IsTagged (named_at pool index) (interface_at pool index)
tagged_at pool index = constant_tagged pool (constant_at pool index)

-- ---- what is taken

either_way : (a b : Bool) → (if a then operands.Unresolved else operands.Unresolved) ≡ (if b then operands.Unresolved else operands.Unresolved)
either_way true true = refl
either_way true false = refl
either_way false true = refl
either_way false false = refl

never : (b : Bool) → (b && false) ≡ false
never true = refl
never false = refl

int_test : (z : ℤ) (instr : Instr) (b : Bool) → takes_operand instr b (operands.Int z) ≡ takes_named instr (AnInt z)
int_test z (instrs.Interface index count) b = never b
int_test z _ b = refl

long_test : (z : ℤ) (instr : Instr) (b : Bool) → takes_operand instr b (operands.Long z) ≡ takes_named instr (ALong z)
long_test z (instrs.Interface index count) b = never b
long_test z _ b = refl

text_test : (n : ℕ) (units : List ℕ) (instr : Instr) (b : Bool) → takes_operand instr b (operands.Text n) ≡ takes_named instr (AText units)
text_test n units (instrs.Interface index count) b = never b
text_test n units _ b = refl

class_test : (n : ℕ) (ty : Ty) (instr : Instr) (b : Bool) → takes_operand instr b (operands.Class n) ≡ takes_named instr (AClass ty)
class_test n ty (instrs.Interface index count) b = never b
class_test n ty _ b = refl

field_test : (n : ℕ) (m : Member) (instr : Instr) (b : Bool) → takes_operand instr b (operands.Field (record { number = n })) ≡ takes_named instr (AField m)
field_test n m (instrs.Interface index count) b = never b
field_test n m _ b = refl

method_test : (n : ℕ) (m : Member) (instr : Instr) → takes_operand instr false (operands.Method (record { number = n })) ≡ takes_named instr (AMethod m)
method_test n m (instrs.Interface index count) = refl
method_test n m _ = refl

interface_test : (n : ℕ) (m : Member) (instr : Instr) → takes_operand instr true (operands.Method (record { number = n })) ≡ takes_named instr (AnInterfaceMethod m)
interface_test n m (instrs.Interface index count) = refl
interface_test n m _ = refl

abbrev chosen : Bool → Operand → Operand
chosen b operand = if b then operand else operands.Unresolved

abbrev IsTaken : Instr → Bool → Named → Operand → Type 0
IsTaken instr b named operand = chosen (takes_operand instr b operand) operand ≡ chosen (takes_named instr named) operand

text_taken : (instr : Instr) (b : Bool) (units : List ℕ) (n : Option ℕ) → IsTaken instr b (AText units) (text_operand n)
text_taken instr b units None = either_way _ _
text_taken instr b units (Some n) = ap (λ (t : Bool). chosen t (operands.Text n)) (text_test n units instr b)

class_taken : (instr : Instr) (b : Bool) (ty : Ty) (n : Option ℕ) → IsTaken instr b (AClass ty) (class_operand n)
class_taken instr b ty None = either_way _ _
class_taken instr b ty (Some n) = ap (λ (t : Bool). chosen t (operands.Class n)) (class_test n ty instr b)

field_taken : (instr : Instr) (b : Bool) (m : Member) (n : Option ℕ) → IsTaken instr b (AField m) (field_operand n)
field_taken instr b m None = either_way _ _
field_taken instr b m (Some n) = ap (λ (t : Bool). chosen t (operands.Field (record { number = n }))) (field_test n m instr b)

method_taken : (instr : Instr) (b : Bool) (m : Member) (n : Option ℕ) → b ≡ false → IsTaken instr b (AMethod m) (method_operand n)
method_taken instr b m None e = either_way _ _
method_taken instr b m (Some n) e =
    ap (λ (t : Bool). chosen (takes_operand instr t (operands.Method (record { number = n }))) (operands.Method (record { number = n }))) e
    ∙ ap (λ (t : Bool). chosen t (operands.Method (record { number = n }))) (method_test n m instr)

interface_taken : (instr : Instr) (b : Bool) (m : Member) (n : Option ℕ) → b ≡ true → IsTaken instr b (AnInterfaceMethod m) (method_operand n)
interface_taken instr b m None e = either_way _ _
interface_taken instr b m (Some n) e =
    ap (λ (t : Bool). chosen (takes_operand instr t (operands.Method (record { number = n }))) (operands.Method (record { number = n }))) e
    ∙ ap (λ (t : Bool). chosen t (operands.Method (record { number = n }))) (interface_test n m instr)

taken_is : (imaged : Imaged) (instr : Instr) (named : Named) (b : Bool) → IsTagged named b
    → chosen (takes_operand instr b (named_operand imaged named)) (named_operand imaged named) ≡ operand_by imaged instr named
taken_is imaged instr Nothing b tag = absurd tag
taken_is imaged instr (AnInt z) b tag = ap (λ (t : Bool). chosen t (operands.Int z)) (int_test z instr b)
taken_is imaged instr (ALong z) b tag = ap (λ (t : Bool). chosen t (operands.Long z)) (long_test z instr b)
taken_is imaged instr (AText units) b tag = text_taken instr b units (units_number imaged.texts units)
taken_is imaged instr (AClass ty) b tag = class_taken instr b ty (type_number (typed_of imaged) ty)
taken_is imaged instr (AField m) b tag = field_taken instr b m (resolved_field_number imaged m)
taken_is imaged instr (AMethod m) b tag = method_taken instr b m (resolved_method_number imaged m) tag
taken_is imaged instr (AnInterfaceMethod m) b tag = interface_taken instr b m (resolved_method_number imaged m) tag
taken_is imaged instr Another b tag = either_way _ _

indexed_is : (imaged : Imaged) (pool : List Constant) (kept : List Operand) → IsOperandTable imaged pool kept → (instr : Instr) (index : ℕ)
    → indexed_operand pool kept instr (Some index) ≡ operand_by imaged instr (named_at pool index)
indexed_is imaged pool kept table instr index =
    ap (λ (operand : Operand). chosen (takes_operand instr (interface_at pool index) operand) operand) (operand_entry imaged pool kept table index)
    ∙ taken_is imaged instr (named_at pool index) (interface_at pool index) (tagged_at pool index)

-- ---- instructions that make no array

abbrev is_free : Instruction → Bool
is_free (NewArray class element) = false
is_free i = true

made_free : (imaged : Imaged) (i : Instruction) (other : Operand) → is_free i ≡ true → made_operand imaged i other ≡ other
made_free imaged (NewArray class element) other free = absurd cc
made_free imaged _ other free = refl

free_if : (b : Bool) (i j : Instruction) → is_free i ≡ true → is_free j ≡ true → is_free (if b then i else j) ≡ true
free_if true i j e f = e
free_if false i j e f = f

first_of_both : (a b : Bool) → (a && b) ≡ true → a ≡ true
first_of_both true b e = refl
first_of_both false b e = absurd cc

second_of_both : (a b : Bool) → (a && b) ≡ true → b ≡ true
second_of_both true b e = e
second_of_both false b e = absurd cc

abbrev rows_free : List Row → ℕ → Bool
rows_free [] op = true
rows_free (row ∷ rows) op = is_free (row.does (op - row.first)) && rows_free rows op

row_free : (rows : List Row) (named : Named) (op : ℕ) → rows_free rows op ≡ true → is_free (row_does rows named op) ≡ true
row_free [] named op e = refl
row_free (row ∷ rows) named op e =
    free_if (nat_le row.first op && nat_le op row.last) (row.does (op - row.first)) (row_does rows named op)
    (first_of_both (is_free (row.does (op - row.first))) (rows_free rows op) e)
    (row_free rows named op (second_of_both (is_free (row.does (op - row.first))) (rows_free rows op) e))

simple_rows_free : (op : ℕ) (a b c d e : Bool)
    → rows_free (if a then constant_rows else if b then store_rows else if c then stack_rows else if d then number_rows else if e then bit_rows else last_rows) op ≡ true
simple_rows_free op true b c d e = refl
simple_rows_free op false true c d e = refl
simple_rows_free op false false true d e = refl
simple_rows_free op false false false true e = refl
simple_rows_free op false false false false true = refl
simple_rows_free op false false false false false = refl

simple_free : (named : Named) (op : ℕ) → is_free (simple named op) ≡ true
unfolding simple
simple_free named op = row_free (rows_of op) named op (simple_rows_free op _ _ _ _ _)

abbrev pairs_free : List (ℕ × (ℕ → Instruction)) → ℕ → Bool
pairs_free [] n = true
pairs_free (row ∷ rest) n = is_free (row.1 n) && pairs_free rest n

operand_free : (rows : List (ℕ × (ℕ → Instruction))) (named : Named) (op n : ℕ) → pairs_free rows n ≡ true → is_free (operand_does rows named op n) ≡ true
operand_free [] named op n e = refl
operand_free (row ∷ rest) named op n e =
    free_if (nat_eq op row.0) (row.1 n) (operand_does rest named op n)
    (first_of_both (is_free (row.1 n)) (pairs_free rest n) e) (operand_free rest named op n (second_of_both (is_free (row.1 n)) (pairs_free rest n) e))

abbrev members_free : List (ℕ × (Member → Instruction)) → Member → Bool
members_free [] m = true
members_free (row ∷ rest) m = is_free (row.1 m) && members_free rest m

member_does_free : (rows : List (ℕ × (Member → Instruction))) (named : Named) (op : ℕ) (m : Member) → members_free rows m ≡ true
    → is_free (member_does rows named op m) ≡ true
member_does_free [] named op m e = refl
member_does_free (row ∷ rest) named op m e =
    free_if (nat_eq op row.0) (row.1 m) (member_does rest named op m)
    (first_of_both (is_free (row.1 m)) (members_free rest m) e) (member_does_free rest named op m (second_of_both (is_free (row.1 m)) (members_free rest m) e))

member_free : (op : ℕ) (named : Named) → is_free (member op named) ≡ true
member_free op (AField m) = member_does_free field_rows (AField m) op m refl
member_free op (AMethod m) = member_does_free method_rows (AMethod m) op m refl
member_free op (AnInterfaceMethod m) = member_does_free interface_method_rows (AnInterfaceMethod m) op m refl
member_free op _ = refl

literal_free : (op : ℕ) (named : Named) → is_free (literal op named) ≡ true
literal_free op (AnInt z) = free_if (nat_eq op 20) _ _ refl refl
literal_free op (AText units) = free_if (nat_eq op 20) _ _ refl refl
literal_free op (ALong z) = free_if (nat_eq op 20) _ _ refl refl
literal_free op _ = refl

call_free : (count : ℕ) (named : Named) → is_free (interface_call count named) ≡ true
call_free count (AnInterfaceMethod m) = refl
call_free count _ = refl

use_free : (op : ℕ) (named : Named) → nat_eq op 189 ≡ false → is_free (class_use op named) ≡ true
use_free op (AClass class) e =
    free_if (nat_eq op 187) _ _ refl
    (rw e (free_if (nat_eq op 192) _ _ refl (free_if (nat_eq op 193) _ _ refl refl)))
use_free op _ e = refl

-- ---- instructions that make arrays

use_made : (imaged : Imaged) (op index : ℕ) (named : Named) (b : Bool) → IsTagged named b → nat_eq op 189 ≡ true
    → class_operand (made_class imaged named) ≡ made_operand imaged (class_use op named) (operand_by imaged (instrs.Class op index) named)
use_made imaged op index Nothing b tag e = absurd tag
use_made imaged op index (AnInt z) b tag e = refl
use_made imaged op index (ALong z) b tag e = refl
use_made imaged op index (AText units) b tag e = refl
use_made imaged op index (AClass class) b tag e = let is : op ≡ 189 = eqb-true op 189 e in rw is refl
use_made imaged op index (AField m) b tag e = refl
use_made imaged op index (AMethod m) b tag e = refl
use_made imaged op index (AnInterfaceMethod m) b tag e = refl
use_made imaged op index Another b tag e = refl

module _ (imaged : Imaged) (types : Typed) (like : IsLike (typed_of imaged) types) where
  base_made : (rows : List (ℕ × Base × Element)) (base : ℕ) → base_operand types (base_text rows base) ≡ made_operand imaged (new_array rows base) operands.Nothing
  base_made [] base = refl
  base_made (row ∷ rest) base = elim (either (nat_eq base row.0)) [
    | inl e ↦ rw e (ap class_operand (sym (text_number_like like (text_of_type (base_array row.1)))))
    | inr e ↦ rw e (base_made rest base)
  ]

  module _ (pool : List Constant) (kept : List Operand) (made : List (Option ℕ))
      (table : IsOperandTable imaged pool kept) (arrays : IsMadeTable imaged pool made) where
    indexed_free : (instr : Instr) (index : ℕ) (i : Instruction) → is_free i ≡ true
        → indexed_operand pool kept instr (Some index) ≡ made_operand imaged i (operand_by imaged instr (named_at pool index))
    indexed_free instr index i free =
        indexed_is imaged pool kept table instr index ∙ sym (made_free imaged i (operand_by imaged instr (named_at pool index)) free)

    class_is : (op index : ℕ) → class_kept pool kept made op index
        ≡ made_operand imaged (class_use op (named_at pool index)) (operand_by imaged (instrs.Class op index) (named_at pool index))
    class_is op index = elim (either (nat_eq op 189)) [
      | inl e ↦ ap (λ (b : Bool). if b then class_operand (get_or made index None) else indexed_operand pool kept (instrs.Class op index) (Some index)) e
          ∙ (ap class_operand (made_entry imaged pool made arrays index)
          ∙ use_made imaged op index (named_at pool index) (interface_at pool index) (tagged_at pool index) e)
      | inr e ↦ ap (λ (b : Bool). if b then class_operand (get_or made index None) else indexed_operand pool kept (instrs.Class op index) (Some index)) e
          ∙ indexed_free (instrs.Class op index) index (class_use op (named_at pool index)) (use_free op (named_at pool index) e)
    ]

    pub kept_is : (instr : Instr) → kept_operand types pool kept made instr ≡ operand_of imaged instr (named_if pool (index_of instr))
    unfolding kept_operand operand_of instruction_of
    kept_is (instrs.Simple op) = sym (made_free imaged (simple Nothing op) operands.Nothing (simple_free Nothing op))
    kept_is (instrs.Push op value) = refl
    kept_is (instrs.Literal op index) = indexed_free (instrs.Literal op index) index (literal op (named_at pool index)) (literal_free op (named_at pool index))
    kept_is (instrs.Local op slot wide) =
        sym (made_free imaged (operand_does local_rows Nothing op slot) operands.Nothing (operand_free local_rows Nothing op slot refl))
    kept_is (instrs.Inc slot by wide) = refl
    kept_is (instrs.Branch op target) =
        sym (made_free imaged (operand_does jump_rows Nothing op (unsigned_abs target)) operands.Nothing (operand_free jump_rows Nothing op (unsigned_abs target) refl))
    kept_is (instrs.Table low default targets) = refl
    kept_is (instrs.Lookup default pairs) = refl
    kept_is (instrs.Member op index) = indexed_free (instrs.Member op index) index (member op (named_at pool index)) (member_free op (named_at pool index))
    kept_is (instrs.Interface index count) =
        indexed_free (instrs.Interface index count) index (interface_call count (named_at pool index)) (call_free count (named_at pool index))
    kept_is (instrs.Dynamic index) = indexed_free (instrs.Dynamic index) index (Other 186 (named_at pool index)) refl
    kept_is (instrs.Class op index) = class_is op index
    kept_is (instrs.Array base) = base_made array_rows base
    kept_is (instrs.Multi index dims) = indexed_free (instrs.Multi index dims) index (Other 197 (named_at pool index)) refl
