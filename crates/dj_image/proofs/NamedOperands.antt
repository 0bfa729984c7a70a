-- Where an instruction is run and makes no array, its operand is what its index names.
use Rattle.std.proofs.Common.{◌≡◌, ℕ, ◌&&◌, inl, inr, Bool, true, false, List, [], ◌∷◌, refl, sym, ap, ◌∙◌, arith, IsTrue}
use Rattle.std.specs.Prelude.{⊤, nat_eq, nat_le, if◌then◌else◌}
use Rattle.std.proofs.lemmas.Bool.{eqb-true, false≢true}
use Rattle.std.proofs.lemmas.Bool.Decides.{nat_tests}
use Rattle.dj_names.specs.declared.run.Value.TheVariants as values
use Rattle.dj_ops.specs.declared.instruction.Instr.{Instr}
use Rattle.dj_ops.specs.declared.instruction.Instr.TheVariants as instrs
use Rattle.dj_pool.specs.trusted.Pool.{Constant}
use Rattle.dj_model.specs.trusted.Types.{Member}
use Rattle.dj_model.specs.trusted.Instructions.{Named, Nothing, AnInt, ALong, AText, AClass, AField, AMethod, AnInterfaceMethod, Instruction, Push, PushText, NewArray, Other}
use Rattle.dj_model.specs.trusted.Opcodes.{instruction_of, literal, field_rows, method_rows, interface_method_rows, member_does, member, interface_call, class_use}
use Rattle.dj_early_rules.specs.trusted.Instructions.{index_of}
use Rattle.dj_program.specs.trusted.Naming.{named_at, named_if, instruction_in}
use Rattle.dj_image.specs.declared.operand.Operand.{Operand}
use Rattle.dj_image.specs.declared.operand.Operand.TheVariants as operands
use Rattle.dj_image.specs.Imaged.{Imaged}
use Rattle.dj_image.specs.Operands.{named_operand, takes_named, made_operand, operand_by, operand_of}
use Rattle.dj_image.proofs.Bare.{either}

-- it is run, and makes no array
abbrev pub is_plain : Instruction → Bool
is_plain (Other op named) = false
is_plain (NewArray class element) = false
is_plain i = true

-- a literal is pushed by ldc, ldc_w or ldc2_w, and by no opcode above these
abbrev pub IsKnown : Instr → Type 0
IsKnown (instrs.Literal op index) = IsTrue (nat_le op 20)
IsKnown instr = ⊤

-- ---- tests

both : (a b : Bool) → (a && b) ≡ true → (a ≡ true) × (b ≡ true)
both true b e = (refl, e)
both false b e = absurd (false≢true e)

plain_unless : (b : Bool) (i j : Instruction) → is_plain i ≡ false → is_plain (if b then i else j) ≡ true → b ≡ false
plain_unless true i j other e = absurd (false≢true (sym other ∙ e))
plain_unless false i j other e = refl

plain_where : (b : Bool) (i j : Instruction) → is_plain j ≡ false → is_plain (if b then i else j) ≡ true → b ≡ true
plain_where true i j other e = refl
plain_where false i j other e = absurd (false≢true (sym other ∙ e))

below_last : (op : ℕ) → nat_le op 20 ≡ true → nat_eq op 20 ≡ false → nat_le op 19 ≡ true
below_last op le differs = grind (arith, nat_tests)

-- ---- what is taken

literal_takes : (op index : ℕ) (named : Named) → nat_le op 20 ≡ true → is_plain (literal op named) ≡ true → takes_named (instrs.Literal op index) named ≡ true
literal_takes op index (AnInt z) known e = below_last op known (plain_unless (nat_eq op 20) (Other op (AnInt z)) (Push (values.Int z)) refl e)
literal_takes op index (AText units) known e = below_last op known (plain_unless (nat_eq op 20) (Other op (AText units)) (PushText units) refl e)
literal_takes op index (ALong z) known e = plain_where (nat_eq op 20) (Push (values.Long z)) (Other op (ALong z)) refl e
literal_takes op index _ known e = absurd (false≢true e)

abbrev rows_pass : (ℕ → Bool) → List (ℕ × (Member → Instruction)) → Bool
rows_pass test [] = true
rows_pass test (row ∷ rows) = test row.0 && rows_pass test rows

-- the opcode is that of a row
row_passes : (test : ℕ → Bool) (rows : List (ℕ × (Member → Instruction))) (named : Named) (op : ℕ) (m : Member) → rows_pass test rows ≡ true
    → is_plain (member_does rows named op m) ≡ true → test op ≡ true
row_passes test [] named op m all e = absurd (false≢true e)
row_passes test (row ∷ rows) named op m all e = elim (either (nat_eq op row.0)) [
  | inl is ↦ ap test (eqb-true op row.0 is) ∙ (both (test row.0) (rows_pass test rows) all).0
  | inr isnt ↦
      row_passes test rows named op m (both (test row.0) (rows_pass test rows) all).1
      (sym (ap (λ (b : Bool). is_plain (if b then row.1 m else member_does rows named op m)) isnt) ∙ e)
]

member_takes : (op index : ℕ) (named : Named) → is_plain (member op named) ≡ true → takes_named (instrs.Member op index) named ≡ true
member_takes op index (AField m) e = row_passes (λ (n : ℕ). nat_le n 181) field_rows (AField m) op m refl e
member_takes op index (AMethod m) e = row_passes (λ (n : ℕ). nat_le 182 n) method_rows (AMethod m) op m refl e
member_takes op index (AnInterfaceMethod m) e = row_passes (λ (n : ℕ). nat_le 183 n) interface_method_rows (AnInterfaceMethod m) op m refl e
member_takes op index _ e = absurd (false≢true e)

call_takes : (index count : ℕ) (named : Named) → is_plain (interface_call count named) ≡ true → takes_named (instrs.Interface index count) named ≡ true
call_takes index count (AnInterfaceMethod m) e = refl
call_takes index count _ e = absurd (false≢true e)

class_takes : (op index : ℕ) (named : Named) → is_plain (class_use op named) ≡ true → takes_named (instrs.Class op index) named ≡ true
class_takes op index (AClass ty) e = refl
class_takes op index _ e = absurd (false≢true e)

-- ---- operands

taken : (imaged : Imaged) (instr : Instr) (named : Named) → takes_named instr named ≡ true → operand_by imaged instr named ≡ named_operand imaged named
taken imaged instr Nothing e = refl
taken imaged instr named e = ap (λ (b : Bool). if b then named_operand imaged named else operands.Unresolved) e

made_plain : (imaged : Imaged) (i : Instruction) (other : Operand) → is_plain i ≡ true → made_operand imaged i other ≡ other
made_plain imaged (NewArray class element) other e = absurd (false≢true e)
made_plain imaged _ other e = refl

taken_named : (imaged : Imaged) (pool : List Constant) (instr : Instr) → IsKnown instr → is_plain (instruction_in pool instr) ≡ true
    → operand_by imaged instr (named_if pool (index_of instr)) ≡ named_operand imaged (named_if pool (index_of instr))
unfolding instruction_of
taken_named imaged pool (instrs.Literal op index) known e = taken imaged (instrs.Literal op index) (named_at pool index) (literal_takes op index (named_at pool index) known e)
taken_named imaged pool (instrs.Member op index) known e = taken imaged (instrs.Member op index) (named_at pool index) (member_takes op index (named_at pool index) e)
taken_named imaged pool (instrs.Interface index count) known e = taken imaged (instrs.Interface index count) (named_at pool index) (call_takes index count (named_at pool index) e)
taken_named imaged pool (instrs.Class op index) known e = taken imaged (instrs.Class op index) (named_at pool index) (class_takes op index (named_at pool index) e)
taken_named imaged pool (instrs.Dynamic index) known e = absurd (false≢true e)
taken_named imaged pool (instrs.Multi index dims) known e = absurd (false≢true e)
taken_named imaged pool _ known e = refl

pub operand_is_named : (imaged : Imaged) (pool : List Constant) (instr : Instr) → IsKnown instr → is_plain (instruction_in pool instr) ≡ true
    → operand_of imaged instr (named_if pool (index_of instr)) ≡ named_operand imaged (named_if pool (index_of instr))
unfolding operand_of
operand_is_named imaged pool instr known e =
    made_plain imaged (instruction_in pool instr) (operand_by imaged instr (named_if pool (index_of instr))) e ∙ taken_named imaged pool instr known e
