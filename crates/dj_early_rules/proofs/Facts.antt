-- The rules at plain values.
use Rattle.std.proofs.Common.{◌≡◌, ℕ, true, false, List, [], ◌∷◌, map, replicate, Option, refl, ap, inl, inr, arith, codes, pos, get_or, unwrap_or}
use Rattle.dj_names.specs.declared.descriptor.Base.TheVariants as bases
use Rattle.dj_names.specs.declared.descriptor.Of.TheVariants as ofs
use Rattle.dj_names.specs.declared.descriptor.Ty.{Ty}
use Rattle.dj_names.specs.declared.descriptor.Desc.TheVariants as descs
use Rattle.dj_ops.specs.declared.instruction.Instr.TheVariants as instrs
use Rattle.dj_ops.specs.declared.frames.VType.TheVariants as types
use Rattle.dj_ops.specs.Mnemonics.{nop, ldc, ldc_w, ldc2_w, iload, fload, iadd, fadd, goto, jsr, ret, invokevirtual, anewarray, goto_w, jsr_w, breakpoint}
use Rattle.dj_pool.specs.trusted.Pool.{Constant, Utf8, Integer, Float, Long, Double, Class, Text, Method, NameAndType, Handle, MethodType}
use Rattle.dj_class.specs.trusted.ClassFile.{AttributeInfo, MemberInfo, ClassFile}
use Rattle.dj_early_rules.specs.trusted.Opcodes.{is_float_op, is_float_base, is_short_literal, is_subroutine_jump}
use Rattle.dj_early_rules.specs.trusted.Floats.{IsFloating, HasFloat, IsFloatArray}
use Rattle.dj_early_rules.specs.trusted.Malformed.{LacksCode, HasNeedlessCode, FitsField, NamesValue}
use Rattle.dj_early_rules.specs.trusted.Classes.{IsReserved, IsReflective, NamesGetClass}
use Rattle.dj_early_rules.specs.trusted.Code.{IsFloatType}
use Rattle.dj_early_rules.specs.trusted.Members.{IsFloatConstant, HasInterfaceCode}
use Rattle.dj_early_rules.specs.trusted.Instructions.{NamesSuchMember, IsDynamic, IsReflection, IsFloat, IsSubroutine, IsBreakpoint, IsMultiArray}
use Rattle.dj_early_rules.specs.trusted.Methods.{CatchesError}

-- ---- a pool

-- 1 and 2 are a class that mustn't be caught, 3 and 4 the class Class, 5 to 8 getClass of it, 9 to 12 constants, 13 the name of code
pool : List Constant
pool =
    Utf8 (codes "java/lang/OutOfMemoryError") ∷ Class 1 ∷ Utf8 (codes "java/lang/Class") ∷ Class 3 ∷ Utf8 (codes "getClass") ∷ Utf8 (codes "()Ljava/lang/Class;")
    ∷ NameAndType 5 6 ∷ Method 2 7 ∷ Handle 1 8 ∷ MethodType 6 ∷ Float 0 ∷ Integer (pos 7) ∷ Utf8 (codes "Code") ∷ Utf8 (codes "I") ∷ []

-- ---- rule 12, opcodes

-- the first and the last of each group
float_ops : map is_float_op (11 ∷ 15 ∷ 23 ∷ 24 ∷ 34 ∷ 41 ∷ 48 ∷ 49 ∷ 56 ∷ 57 ∷ 67 ∷ 74 ∷ 81 ∷ 82 ∷ 98 ∷ 99 ∷ 102 ∷ 103 ∷ 106 ∷ 107 ∷ 110 ∷ 111 ∷ 114 ∷ 115 ∷ 118 ∷ 119 ∷ 134 ∷ 135 ∷ 137 ∷ 144 ∷ 149 ∷ 152 ∷ 174 ∷ 175 ∷ []) ≡ replicate 34 true
float_ops = refl

-- those beside them
float_ops_not : map is_float_op (10 ∷ 16 ∷ 22 ∷ 25 ∷ 33 ∷ 42 ∷ 47 ∷ 50 ∷ 55 ∷ 58 ∷ 66 ∷ 75 ∷ 80 ∷ 83 ∷ 97 ∷ 100 ∷ 101 ∷ 104 ∷ 105 ∷ 108 ∷ 109 ∷ 112 ∷ 113 ∷ 116 ∷ 117 ∷ 120 ∷ 133 ∷ 136 ∷ 145 ∷ 148 ∷ 153 ∷ 173 ∷ 176 ∷ []) ≡ replicate 33 false
float_ops_not = refl

float_bases : map is_float_base (5 ∷ 6 ∷ 7 ∷ 8 ∷ []) ≡ false ∷ true ∷ true ∷ false ∷ []
float_bases = refl

short_literals : map is_short_literal (17 ∷ 18 ∷ 19 ∷ 20 ∷ []) ≡ false ∷ true ∷ true ∷ false ∷ []
short_literals = refl

subroutine_jumps : map is_subroutine_jump (goto ∷ jsr ∷ ret ∷ goto_w ∷ jsr_w ∷ 202 ∷ []) ≡ false ∷ true ∷ false ∷ false ∷ true ∷ false ∷ []
subroutine_jumps = refl

-- ---- instructions

float-instrs : IsFloat pool (instrs.Simple fadd) × IsFloat pool (instrs.Local fload 0 true) × IsFloat pool (instrs.Array 7) × IsFloat pool (instrs.Literal ldc 11)
unfolding pool
float-instrs = (refl, refl, refl, tt)

float-instrs_not : (IsFloat pool (instrs.Simple iadd) → ⊥) × (IsFloat pool (instrs.Array 8) → ⊥) × (IsFloat pool (instrs.Literal ldc 12) → ⊥)
unfolding pool
float-instrs_not = (λ e. absurd cc, λ e. absurd cc, λ is. is)

subroutines : IsSubroutine pool (instrs.Branch jsr (pos 0)) × IsSubroutine pool (instrs.Branch jsr_w (pos 0)) × IsSubroutine pool (instrs.Local ret 1 false) × IsSubroutine pool (instrs.Local ret 1 true)
subroutines = (refl, refl, refl, refl)

subroutines_not : (IsSubroutine pool (instrs.Branch goto (pos 0)) → ⊥) × (IsSubroutine pool (instrs.Local iload 1 true) → ⊥)
subroutines_not = (λ e. absurd cc, λ e. absurd (omega arith))

breakpoints : IsBreakpoint pool (instrs.Simple breakpoint)
breakpoints = refl

breakpoints_not : IsBreakpoint pool (instrs.Simple nop) → ⊥
breakpoints_not e = absurd (omega arith)

multi-arrays : IsMultiArray pool (instrs.Multi 2 1)
multi-arrays = tt

multi-arrays_not : IsMultiArray pool (instrs.Class anewarray 2) → ⊥
multi-arrays_not is = is

-- invokedynamic, and ldc of a handle or a method's type
dynamics : IsDynamic pool (instrs.Dynamic 0) × IsDynamic pool (instrs.Literal ldc 9) × IsDynamic pool (instrs.Literal ldc_w 10)
unfolding pool
dynamics = (tt, (refl, tt), (refl, tt))

-- ldc2_w of a handle, and ldc of an int
dynamics_not : (IsDynamic pool (instrs.Literal ldc2_w 9) → ⊥) × (IsDynamic pool (instrs.Literal ldc 12) → ⊥)
unfolding pool
dynamics_not = ((λ is. let e = is.0 in absurd cc), (λ is. is.1))

-- ldc of any class
reflection-ldc : IsReflection pool (instrs.Literal ldc 2)
unfolding pool
reflection-ldc = inl (refl, tt)

-- a member getClass of any class
reflection-get-class : IsReflection pool (instrs.Member invokevirtual 8)
unfolding pool
reflection-get-class = inr (inr (refl, refl))

-- invokedynamic names no member, even where its index is that of a method
reflection-dynamic_not : NamesSuchMember NamesGetClass pool (instrs.Dynamic 8) → ⊥
unfolding pool
reflection-dynamic_not is = is

-- ---- names

reserved : IsReserved (codes "java/A") × IsReserved (codes "javax/swing/A") × IsReserved (codes "sandbox/A")
reserved = (inr (inl refl), inr (inr refl), inl refl)

reserved_not : (IsReserved (codes "javaz/A") → ⊥) × (IsReserved (codes "sandbox") → ⊥)
reserved_not = (
  λ is. elim is [ inl e ↦ absurd cc | inr (inl e) ↦ absurd cc | inr (inr e) ↦ absurd cc ],
  λ is. elim is [ inl e ↦ absurd cc | inr (inl e) ↦ absurd cc | inr (inr e) ↦ absurd cc ],
)

reflective : IsReflective (codes "java/lang/Class") × IsReflective (codes "java/lang/reflect/Method")
reflective = (inl refl, inr (inr (inl refl)))

-- catch_type: the class by its index; no class has the index 0 or that of a text
catches : CatchesError pool 2
unfolding pool
catches = inr (inr (inr refl))

catches_not : (CatchesError pool 0 → ⊥) × (CatchesError pool 1 → ⊥)
unfolding pool
catches_not = ((λ is. is), (λ is. is))

-- ---- descriptors

float-ty : Ty
float-ty = record { dims = 0; of = ofs.Base bases.Float }

double-array : Ty
double-array = record { dims = 1; of = ofs.Base bases.Double }

floats : HasFloat (codes "F") × IsFloatArray (codes "[D")
unfolding float-ty double-array
floats = (
  (descs.Field float-ty, record { text_is = refl; valid = record { few = omega arith; named = tt } }, inl refl),
  record { ty = double-array; array = omega arith; described = record { text_is = refl; valid = record { few = omega arith; named = tt } }; floating = inr refl },
)

-- neither an int nor a class whose name has these letters
floats_not : (IsFloating (record { dims = 0; of = ofs.Base bases.Int }) → ⊥) × (IsFloating (record { dims = 2; of = ofs.Class (codes "FD") }) → ⊥)
floats_not = (
  λ is. elim is [ inl e ↦ absurd cc | inr e ↦ absurd cc ],
  λ is. elim is [ inl e ↦ absurd cc | inr e ↦ absurd cc ],
)

float-constants : IsFloatConstant pool (Float 0) × IsFloatConstant pool (Double 0)
float-constants = (tt, tt)

float-constants_not : (IsFloatConstant pool (Integer (pos 0)) → ⊥) × (IsFloatConstant pool (Utf8 (codes "F")) → ⊥)
float-constants_not = ((λ is. is), (λ is. is))

float-types : IsFloatType types.Float × IsFloatType types.Double
float-types = (inl refl, inr refl)

float-types_not : (IsFloatType types.Long → ⊥) × (IsFloatType types.Top → ⊥)
float-types_not = (
  λ is. elim is [ inl e ↦ absurd cc | inr e ↦ absurd cc ],
  λ is. elim is [ inl e ↦ absurd cc | inr e ↦ absurd cc ],
)

-- ---- rule 1

method : ℕ → List AttributeInfo → MemberInfo
method flags attributes = record { flags = flags; name = 5; desc = 6; attributes = attributes }

code : AttributeInfo
code = record { name = 13; body = [] }

other : AttributeInfo
other = record { name = 14; body = [] }

-- neither native nor abstract: without code, and with two; an attribute of another name is none
lacks-code : LacksCode pool (method 1 []) × LacksCode pool (method 1 (other ∷ [])) × LacksCode pool (method 9 (code ∷ code ∷ []))
unfolding pool method code other
lacks-code = (
  ((λ is. elim is [ inl n ↦ n refl | inr a ↦ a refl ]), λ e. absurd (omega (arith, e))),
  ((λ is. elim is [ inl n ↦ n refl | inr a ↦ a refl ]), λ e. absurd (omega (arith, e))),
  ((λ is. elim is [ inl n ↦ n refl | inr a ↦ a refl ]), λ e. absurd (omega (arith, e))),
)

lacks-code_not : (LacksCode pool (method 1 (other ∷ code ∷ [])) → ⊥) × (LacksCode pool (method 257 []) → ⊥) × (LacksCode pool (method 1025 []) → ⊥)
unfolding pool method code other
lacks-code_not = (
  λ is. is.1 refl,
  λ is. is.0 (inl (λ e. absurd cc)),
  λ is. is.0 (inr (λ e. absurd cc)),
)

needless-code : HasNeedlessCode pool (method 257 (code ∷ []))
unfolding pool method code
needless-code = (inl (λ e. absurd cc), λ e. absurd cc)

needless-code_not : (HasNeedlessCode pool (method 257 []) → ⊥) × (HasNeedlessCode pool (method 1 (code ∷ [])) → ⊥)
unfolding pool method code
needless-code_not = (λ is. is.1 refl, λ is. elim is.0 [ inl n ↦ n refl | inr a ↦ a refl ])

-- JVMS table 4.7.2-A
fits : FitsField (Integer (pos 7)) (codes "Z") × FitsField (Long (pos 7)) (codes "J") × FitsField (Float 0) (codes "F") × FitsField (Double 0) (codes "D") × FitsField (Text 1) (codes "Ljava/lang/String;")
fits = (inr (inr (inr (inr refl))), refl, refl, refl, refl)

fits_not : (FitsField (Utf8 (codes "I")) (codes "I") → ⊥) × (FitsField (Class 1) (codes "Ljava/lang/String;") → ⊥)
fits_not = ((λ is. is), (λ is. is))

-- the constant 12 for a field whose descriptor has the index 14
names-value : NamesValue pool 14 12
unfolding pool
names-value = record { constant = Integer (pos 7); found = refl; text = codes "I"; described = refl; fits = inr (inr (inl refl)) }

-- ---- rule 16

class : ℕ → ClassFile
class flags = record {
  minor = 0;
  major = 52;
  pool = pool;
  flags = flags;
  this_class = 2;
  super_class = 0;
  interfaces = [];
  fields = [];
  methods = [];
  attributes = [];
}

interface-code : HasInterfaceCode (class 512) (method 1 (code ∷ []))
unfolding class pool method code
interface-code = (
  (λ e. absurd cc, λ e. let first : 103 ≡ 60 = ap (λ (t : Option (List ℕ)). get_or (unwrap_or t []) 0 0) e in absurd (omega (arith, first))),
  λ e. absurd cc,
)

-- no interface, and no code
interface-code_not : (HasInterfaceCode (class 33) (method 1 (code ∷ [])) → ⊥) × (HasInterfaceCode (class 512) (method 1025 []) → ⊥)
unfolding class pool method code
interface-code_not = (λ is. is.0.0 refl, λ is. is.1 refl)
