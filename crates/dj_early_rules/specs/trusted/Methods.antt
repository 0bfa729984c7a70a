-- The violations of a method, as a whole or at an instruction: the rules 9 to 16.
use Rattle.std.specs.Prelude.{◌≡◌, ℕ, ◌⊎◌, List, Option, Some, None, IsSomeAnd, slice_get, Contains}
use Rattle.dj_ops.specs.declared.instruction.Instr.{Instr}
use Rattle.dj_pool.specs.trusted.Pool.{Constant, class_name_at}
use Rattle.dj_class.specs.trusted.ClassFile.{MemberInfo, ClassFile}
use Rattle.dj_labels.specs.declared.labelled.Protected.{Protected}
use Rattle.dj_labels.specs.declared.labelled.Labelled.{Labelled}
use Rattle.dj_early_rules.specs.trusted.Classes.{IsUncatchable}
use Rattle.dj_early_rules.specs.trusted.Code.{IsLabelledOf}
use Rattle.dj_early_rules.specs.trusted.Members.{IsFloatMethod, HasInterfaceCode}
use Rattle.dj_early_rules.specs.trusted.Instructions.{IsDynamic, IsReflection, IsFloat, IsSubroutine, IsBreakpoint, IsMultiArray}

-- an instruction violates the rule of this number
abbrev pub InstrViolates : List Constant → Instr → ℕ → Type 0
InstrViolates pool instr rule =
    (IsDynamic pool instr × (rule ≡ 9))
    ⊎ ((IsReflection pool instr × (rule ≡ 10))
    ⊎ ((IsFloat pool instr × (rule ≡ 12))
    ⊎ ((IsSubroutine pool instr × (rule ≡ 13))
    ⊎ ((IsBreakpoint pool instr × (rule ≡ 14))
    ⊎ (IsMultiArray pool instr × (rule ≡ 15))))))

-- rule 11, CATCH (JVMS 4.7.3, catch_type): the class at the index is one of those that may not be caught
abbrev pub CatchesError : List Constant → ℕ → Type 0
CatchesError pool catch_type = IsSomeAnd (class_name_at pool catch_type) IsUncatchable

-- the instruction of this number violates the rule
pub record ViolatesAt (pool : List Constant) (labelled : Labelled) (number rule : ℕ) : Type 0 where
  pub instr : Instr
  pub stands : slice_get labelled.code number ≡ Some instr
  pub such : InstrViolates pool instr rule

-- a handler whose first instruction has this number violates the rule; each row of the table counts as a handler of its own
pub record HandlerViolates (pool : List Constant) (labelled : Labelled) (number rule : ℕ) : Type 0 where
  pub range : Protected
  pub own : Contains labelled.ranges range
  pub begins : number ≡ range.handler
  pub catches : CatchesError pool range.catch_type
  pub is : rule ≡ 11

-- labelled code violates the rule at the instruction of this number
abbrev pub CodeViolates : List Constant → Labelled → ℕ → ℕ → Type 0
CodeViolates pool labelled number rule = ViolatesAt pool labelled number rule ⊎ HandlerViolates pool labelled number rule

-- the method violates the rule at one of its instructions
pub record ViolatesWithin (pool : List Constant) (m : MemberInfo) (number : Option ℕ) (rule : ℕ) : Type 0 where
  pub labelled : Labelled
  pub code : IsLabelledOf pool m labelled
  pub at : ℕ
  pub number_is : number ≡ Some at
  pub such : CodeViolates pool labelled at rule

-- the method violates the rule as a whole: rule 12 for a method, or rule 16 in an interface
abbrev pub ViolatesWhole : ClassFile → MemberInfo → ℕ → Type 0
ViolatesWhole c m rule =
    (IsFloatMethod c.pool m × (rule ≡ 12))
    ⊎ (HasInterfaceCode c m × (rule ≡ 16))

-- the method violates the rule, at an instruction or as a whole
abbrev pub MethodViolates : ClassFile → MemberInfo → Option ℕ → ℕ → Type 0
MethodViolates c m number rule = ((number ≡ None) × ViolatesWhole c m rule) ⊎ ViolatesWithin c.pool m number rule
