-- What rewriting needs of a class file. Each file of an accepted set has it.
use Rattle.std.specs.Prelude.{◌≡◌, ℕ, ◌⊎◌, ⊤, List, Option, Some, None, Contains, nat_eq, true}
use Rattle.std.specs.List.{AllByRecursion}
use Rattle.dj_ops.specs.declared.frames.Frame.{Frame}
use Rattle.dj_labels.specs.declared.labelled.Protected.{Protected}
use Rattle.dj_pool.specs.trusted.Pool.{Constant, constant_at}
use Rattle.dj_class.specs.trusted.ClassFile.{MemberInfo, ClassFile, IsValid}
use Rattle.dj_early_rules.specs.trusted.Instructions.{index_of}
use Rattle.dj_early_rules.specs.trusted.Malformed.{IsFaulty}
use Rattle.dj_program.specs.trusted.Codes.{CodeParts, IsMethodCode}

-- the index of an instruction is one of a constant, where it has one
abbrev pub HasConstant : List Constant → Option ℕ → Type 0
HasConstant pool None = ⊤
HasConstant pool (Some index) = (k : Constant) × (constant_at pool index ≡ Some k)

-- so is that of a row's class, unless it is 0
abbrev pub HasClass : List Constant → Protected → Type 0
HasClass pool range = (nat_eq range.catch_type 0 ≡ true) ⊎ ((k : Constant) × (constant_at pool range.catch_type ≡ Some k))

-- the code names constants, and its stack map is one
pub record HasGoodParts (pool : List Constant) (parts : CodeParts) : Type 0 where
  pub constants : AllByRecursion (λ instr. HasConstant pool (index_of instr)) parts.labelled.code
  pub classes : AllByRecursion (HasClass pool) parts.labelled.ranges
  pub frames : List Frame
  pub some : parts.frames ≡ Some frames

pub record IsRewritable (c : ClassFile) : Type 0 where
  pub valid : IsValid c
  pub whole : IsFaulty c → ⊥
  pub codes : (m : MemberInfo) → Contains c.methods m → (parts : CodeParts) → IsMethodCode c.pool m parts → HasGoodParts c.pool parts
