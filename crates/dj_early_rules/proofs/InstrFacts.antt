-- What each instruction names, and the number of the rule that it violates, by plain values.
use Rattle.std.proofs.Common.{◌≡◌, ℕ, true, false, pos, List, [], ◌∷◌, ◌++◌, map, Some, None, refl, inl, inr, arith, codes}
use Rattle.dj_ops.specs.declared.instruction.Instr.{Instr}
use Rattle.dj_ops.specs.declared.instruction.Instr.TheVariants as instrs
use Rattle.dj_ops.specs.Mnemonics.{nop, bipush, ldc, ldc_w, ldc2_w, iload, fload, fadd, goto, jsr, ret, invokevirtual, new, jsr_w}
use Rattle.dj_pool.specs.trusted.Pool.{Constant, Utf8, Integer, Float, Long, Double, Class, Text, Field, Method, InterfaceMethod, NameAndType, Handle, MethodType, Dynamic}
use Rattle.dj_early_rules.specs.trusted.Classes.{class_text_index, names_at}
use Rattle.dj_early_rules.specs.trusted.Instructions.{index_of, member_index_of, PushesSuch, IsHandleOrType, IsClass, IsFloatNumber}
use Rattle.dj_early_rules.specs.Instructions.{is_plain}
use Rattle.dj_early_rules.specs.trusted.Methods.{InstrViolates}

-- ---- what they name

-- one of each form, with 7 as its index where it has one
abbrev each : List Instr
each =
    instrs.Simple nop ∷ instrs.Push bipush (pos 7) ∷ instrs.Literal ldc 7 ∷ instrs.Local iload 7 false ∷ instrs.Inc 7 (pos 7) false ∷ instrs.Branch goto (pos 7) ∷ instrs.Member invokevirtual 7 ∷ instrs.Interface 7 1
    ∷ instrs.Dynamic 7 ∷ instrs.Class new 7 ∷ instrs.Array 7 ∷ instrs.Multi 7 1 ∷ []

indexes : map index_of each ≡ None ∷ None ∷ Some 7 ∷ None ∷ None ∷ None ∷ Some 7 ∷ Some 7 ∷ Some 7 ∷ Some 7 ∷ None ∷ Some 7 ∷ []
indexes = refl

-- of invokedynamic none
member_indexes : map member_index_of each ≡ None ∷ None ∷ Some 7 ∷ None ∷ None ∷ None ∷ Some 7 ∷ Some 7 ∷ None ∷ Some 7 ∷ None ∷ Some 7 ∷ []
member_indexes = refl

-- no rule speaks of these but the float's load, ret, jsr and the breakpoint
plain_ones : map is_plain (each ++ instrs.Local fload 0 false ∷ instrs.Local ret 0 false ∷ instrs.Branch jsr (pos 0) ∷ instrs.Branch jsr_w (pos 0) ∷ instrs.Simple 202 ∷ instrs.Simple fadd ∷ [])
    ≡ true ∷ true ∷ false ∷ true ∷ true ∷ true ∷ false ∷ false ∷ false ∷ false ∷ false ∷ false ∷ false ∷ false ∷ false ∷ false ∷ false ∷ false ∷ []
plain_ones = refl

-- ---- what constants name

-- 1 to 5 are a class and a name with a descriptor, 6 to 8 its members
pool : List Constant
pool =
    Utf8 (codes "A") ∷ Class 1 ∷ Utf8 (codes "m") ∷ Utf8 (codes "()V") ∷ NameAndType 3 4 ∷ Field 2 5 ∷ Method 2 5 ∷ InterfaceMethod 2 5 ∷ Integer (pos 7) ∷ Text 1 ∷ Handle 5 7 ∷ MethodType 4 ∷ Dynamic 0 5 ∷ Float 0 ∷ []

-- a class its own text, and a member that of its class
class_texts : map (class_text_index pool) (Class 1 ∷ Field 2 5 ∷ Method 2 5 ∷ InterfaceMethod 2 5 ∷ Field 1 5 ∷ Method 0 5 ∷ NameAndType 3 4 ∷ Text 1 ∷ Handle 5 7 ∷ MethodType 4 ∷ Dynamic 0 5 ∷ Integer (pos 7) ∷ Utf8 (codes "A") ∷ [])
    ≡ Some 1 ∷ Some 1 ∷ Some 1 ∷ Some 1 ∷ None ∷ None ∷ None ∷ None ∷ None ∷ None ∷ None ∷ None ∷ None ∷ []
unfolding pool
class_texts = refl

-- a member its name and its descriptor, and a class none
names : map (names_at pool) (Field 2 5 ∷ Method 2 5 ∷ InterfaceMethod 2 5 ∷ Method 2 4 ∷ Class 1 ∷ NameAndType 3 4 ∷ Dynamic 0 5 ∷ [])
    ≡ Some (codes "m", codes "()V") ∷ Some (codes "m", codes "()V") ∷ Some (codes "m", codes "()V") ∷ None ∷ None ∷ None ∷ None ∷ []
unfolding pool
names = refl

-- ---- the rules' numbers

violates : InstrViolates pool (instrs.Dynamic 13) 9 × InstrViolates pool (instrs.Literal ldc 2) 10 × InstrViolates pool (instrs.Simple fadd) 12 × InstrViolates pool (instrs.Branch jsr (pos 0)) 13
    × InstrViolates pool (instrs.Simple 202) 14 × InstrViolates pool (instrs.Multi 2 1) 15
unfolding pool
violates = (
  inl (tt, refl),
  inr (inl (inl (refl, tt), refl)),
  inr (inr (inl (refl, refl))),
  inr (inr (inr (inl (refl, refl)))),
  inr (inr (inr (inr (inl (refl, refl))))),
  inr (inr (inr (inr (inr (tt, refl))))),
)

-- an addition of floats violates FLOAT and no other
float_alone : (rule : ℕ) → InstrViolates pool (instrs.Simple fadd) rule → rule ≡ 12
unfolding pool
float_alone rule v = elim v [
  | inl dynamic ↦ absurd dynamic.0
  | inr (inl reflection) ↦ elim reflection.0 [ inl pushes ↦ absurd pushes | inr (inl class) ↦ absurd class | inr (inr member) ↦ absurd member ]
  | inr (inr (inl float)) ↦ float.1
  | inr (inr (inr (inl subroutine))) ↦ absurd subroutine.0
  | inr (inr (inr (inr (inl breakpoint)))) ↦ let e = breakpoint.0 in absurd (omega (arith, e))
  | inr (inr (inr (inr (inr multi)))) ↦ absurd multi.0
]

-- and nop none at all
nop_not : (rule : ℕ) → InstrViolates pool (instrs.Simple nop) rule → ⊥
unfolding pool
nop_not rule v = elim v [
  | inl dynamic ↦ absurd dynamic.0
  | inr (inl reflection) ↦ elim reflection.0 [ inl pushes ↦ absurd pushes | inr (inl class) ↦ absurd class | inr (inr member) ↦ absurd member ]
  | inr (inr (inl float)) ↦ let e = float.0 in absurd cc
  | inr (inr (inr (inl subroutine))) ↦ absurd subroutine.0
  | inr (inr (inr (inr (inl breakpoint)))) ↦ let e = breakpoint.0 in absurd (omega (arith, e))
  | inr (inr (inr (inr (inr multi)))) ↦ absurd multi.0
]

-- ---- what ldc and ldc_w push

-- ldc2_w is another thing, and so is an instruction of the same constant
pushes : PushesSuch IsClass pool (instrs.Literal ldc 2) × PushesSuch IsClass pool (instrs.Literal ldc_w 2)
unfolding pool
pushes = ((refl, tt), (refl, tt))

pushes_not : (PushesSuch IsClass pool (instrs.Literal ldc2_w 2) → ⊥) × (PushesSuch IsClass pool (instrs.Literal ldc 10) → ⊥) × (PushesSuch IsClass pool (instrs.Class new 2) → ⊥) × (PushesSuch IsClass pool (instrs.Literal ldc 99) → ⊥)
unfolding pool
pushes_not = (λ is. let e = is.0 in absurd cc, λ is. is.1, λ is. is, λ is. is.1)

handles : IsHandleOrType (Handle 5 7) × IsHandleOrType (MethodType 4)
handles = (tt, tt)

handles_not : (IsHandleOrType (Dynamic 0 5) → ⊥) × (IsHandleOrType (NameAndType 3 4) → ⊥) × (IsHandleOrType (Method 2 5) → ⊥)
handles_not = (λ is. is, λ is. is, λ is. is)

float_numbers : IsFloatNumber (Float 0) × IsFloatNumber (Double 0)
float_numbers = (tt, tt)

float_numbers_not : (IsFloatNumber (Integer (pos 0)) → ⊥) × (IsFloatNumber (Long (pos 0)) → ⊥)
float_numbers_not = (λ is. is, λ is. is)
