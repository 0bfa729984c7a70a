-- The code of a method: its instructions, ranges and frames, with what indexes name in place of indexes (JVMS 4.7.3 and 4.7.4).
use Rattle.std.specs.Prelude.{◌≡◌, ℕ, List, map, Option, Some, None, nat_eq, if◌then◌else◌}
use Rattle.dj_ops.specs.declared.frames.Frame.{Frame}
use Rattle.dj_pool.specs.trusted.Pool.{Constant}
use Rattle.dj_class.specs.trusted.ClassFile.{MemberInfo}
use Rattle.dj_class.specs.trusted.Code.{CodeInfo}
use Rattle.dj_labels.specs.declared.labelled.Protected.{Protected}
use Rattle.dj_labels.specs.declared.labelled.Labelled.{Labelled}
use Rattle.dj_labels.specs.trusted.Labels.{IsLabelled}
use Rattle.dj_model.specs.trusted.Instructions.{Named}
use Rattle.dj_model.specs.trusted.Program.{Code, Range}
use Rattle.dj_early_rules.specs.trusted.Attributes.{maps_of}
use Rattle.dj_early_rules.specs.trusted.Code.{IsCodeOf, HasFrames}
use Rattle.dj_program.specs.trusted.Naming.{named_at, instruction_in}

-- ---- what code is made of

-- the code as its file has it, with numbers of instructions in place of addresses, but still with indexes
pub record CodeParts : Type 0 where
  pub max_stack : ℕ
  pub max_locals : ℕ
  pub labelled : Labelled
  -- an empty list where there is no such attribute; none where the attribute is no stack map
  pub frames : Option (List Frame)

-- what the index of a row's type names; nothing where the index is 0
abbrev pub catches_in : List Constant → ℕ → Option Named
catches_in pool index = if nat_eq index 0 then None else Some (named_at pool index)

abbrev pub range_in : List Constant → Protected → Range
range_in pool range = record {
  start = range.start;
  end = range.end;
  handler = range.handler;
  catches = catches_in pool range.catch_type;
}

unfoldable pub code_in : List Constant → CodeParts → Code
code_in pool parts = record {
  max_stack = parts.max_stack;
  max_locals = parts.max_locals;
  instructions = map (instruction_in pool) parts.labelled.code;
  ranges = map (range_in pool) parts.labelled.ranges;
  frames = parts.frames;
}

-- ---- the code of a method's Code attribute

pub record IsMethodCode (pool : List Constant) (m : MemberInfo) (parts : CodeParts) : Type 0 where
  pub info : CodeInfo
  pub own : IsCodeOf pool m info
  pub stack : parts.max_stack ≡ info.max_stack
  pub locals : parts.max_locals ≡ info.max_locals
  pub labels : IsLabelled info.code info.table parts.labelled
  pub frames : HasFrames info.code (maps_of pool info) parts.frames
