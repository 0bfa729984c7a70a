-- The rules on instructions: 9 DYNAMIC, 10 REFLECTION, 12 FLOAT, 13 SUBROUTINE, 14 BREAKPOINT and 15 MULTI_ARRAY (JVMS 6.5).
use Rattle.std.specs.Prelude.{◌≡◌, ℕ, ◌⊎◌, ⊤, List, Option, Some, None, IsTrue, IsSomeAnd, option_and_then}
use Rattle.dj_ops.specs.declared.instruction.Instr.{Instr}
use Rattle.dj_ops.specs.declared.instruction.Instr.TheVariants as instrs
use Rattle.dj_pool.specs.trusted.Pool.{Constant, Float, Double, Class, Handle, MethodType, constant_at}
use Rattle.dj_early_rules.specs.trusted.Opcodes.{is_float_op, is_float_base, is_short_literal, is_subroutine_jump}
use Rattle.dj_early_rules.specs.trusted.Classes.{NamesReflective, NamesGetClass}

-- ---- operands

-- the index of the constant that an instruction names
abbrev pub index_of : Instr → Option ℕ
index_of (instrs.Literal op index) = Some index
index_of (instrs.Member op index) = Some index
index_of (instrs.Interface index count) = Some index
index_of (instrs.Dynamic index) = Some index
index_of (instrs.Class op index) = Some index
index_of (instrs.Multi index dims) = Some index
index_of _ = None

-- the index of the constant by which an instruction names a field or a method; invokedynamic names none
abbrev pub member_index_of : Instr → Option ℕ
member_index_of (instrs.Dynamic index) = None
member_index_of instr = index_of instr

-- the instruction names a constant that is such; constants of all tags count
abbrev pub NamesSuch : (List Constant → Constant → Type 0) → List Constant → Instr → Type 0
NamesSuch IsSuch pool instr = IsSomeAnd (option_and_then (constant_at pool) (index_of instr)) (IsSuch pool)

-- the same for the constant by which it names a field or a method
abbrev pub NamesSuchMember : (List Constant → Constant → Type 0) → List Constant → Instr → Type 0
NamesSuchMember IsSuch pool instr = IsSomeAnd (option_and_then (constant_at pool) (member_index_of instr)) (IsSuch pool)

-- ldc or ldc_w of such a constant
abbrev pub PushesSuch : (Constant → Type 0) → List Constant → Instr → Type 0
PushesSuch IsSuch pool (instrs.Literal op index) = IsTrue (is_short_literal op) × IsSomeAnd (constant_at pool index) IsSuch
PushesSuch IsSuch pool _ = ⊥

-- ---- constants that are pushed

-- JVMS 4.4.8 and 4.4.9: a method handle or a method's type
abbrev pub IsHandleOrType : Constant → Type 0
IsHandleOrType (Handle kind member) = ⊤
IsHandleOrType (MethodType desc) = ⊤
IsHandleOrType _ = ⊥

-- JVMS 4.4.1
abbrev pub IsClass : Constant → Type 0
IsClass (Class name) = ⊤
IsClass _ = ⊥

-- JVMS 4.4.4 and 4.4.5
abbrev pub IsFloatNumber : Constant → Type 0
IsFloatNumber (Float bits) = ⊤
IsFloatNumber (Double bits) = ⊤
IsFloatNumber _ = ⊥

-- ---- rules

-- rule 9: invokedynamic, and ldc or ldc_w of a method handle or a method's type
abbrev pub IsDynamic : List Constant → Instr → Type 0
IsDynamic pool (instrs.Dynamic index) = ⊤
IsDynamic pool instr = PushesSuch IsHandleOrType pool instr

-- rule 10: ldc or ldc_w of a class; or an instruction that names a class or a member of reflection
abbrev pub IsReflection : List Constant → Instr → Type 0
IsReflection pool instr =
    PushesSuch IsClass pool instr
    ⊎ (NamesSuch NamesReflective pool instr
    ⊎ NamesSuchMember NamesGetClass pool instr)

-- rule 12: an opcode of floats or doubles, wide or not; newarray of them; ldc, ldc_w or ldc2_w of one
abbrev pub IsFloat : List Constant → Instr → Type 0
IsFloat pool (instrs.Simple op) = IsTrue (is_float_op op)
IsFloat pool (instrs.Local op slot wide) = IsTrue (is_float_op op)
IsFloat pool (instrs.Array base) = IsTrue (is_float_base base)
IsFloat pool (instrs.Literal op index) = IsSomeAnd (constant_at pool index) IsFloatNumber
IsFloat pool _ = ⊥

-- rule 13: jsr, jsr_w, and ret, wide or not
abbrev pub IsSubroutine : List Constant → Instr → Type 0
IsSubroutine pool (instrs.Branch op target) = IsTrue (is_subroutine_jump op)
IsSubroutine pool (instrs.Local op slot wide) = op ≡ 169
IsSubroutine pool _ = ⊥

-- rule 14
abbrev pub IsBreakpoint : List Constant → Instr → Type 0
IsBreakpoint pool (instrs.Simple op) = op ≡ 202
IsBreakpoint pool _ = ⊥

-- rule 15: multianewarray
abbrev pub IsMultiArray : List Constant → Instr → Type 0
IsMultiArray pool (instrs.Multi index dims) = ⊤
IsMultiArray pool _ = ⊥
