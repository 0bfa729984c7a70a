-- The state of the machine (JVMS 2.5 and 2.6).
use Rattle.std.specs.Prelude.{ℕ, Bool, List, Option, Some, None, slice_get}
use Rattle.dj_names.specs.declared.run.Value.{Value}
use Rattle.dj_names.specs.declared.run.Charge.{Charge}
use Rattle.dj_names.specs.declared.run.Costs.{Costs}
use Rattle.dj_straight.specs.trusted.Objects.{Object}
use Rattle.dj_straight.specs.trusted.Program.{Name, Program, MethodName, Code, code_of}
use Rattle.dj_straight.specs.trusted.Instructions.{Instruction}

-- the objects in the order in which they were made. The number of the first is 1; a reference is an object's number, and 0 is null
pub record Heap : Type 0 where
  pub objects : List Object
  -- the bytes that the objects take together
  pub used : ℕ

-- JVMS 2.6: a method that runs
pub record Frame : Type 0 where
  pub method : MethodName
  -- the number of the instruction that is next, or under way
  pub number : ℕ
  -- the local variables; none is one without a value, as the second slot of a long
  pub locals : List (Option Value)
  -- the operands, the top first
  pub operands : List Value
  -- whether the instruction's charges were added
  pub paid : Bool

-- the value of a static field
pub record Static : Type 0 where
  pub class : Name
  pub name : Name
  pub desc : Name
  pub value : Value

-- the text object of a literal
pub record Literal : Type 0 where
  pub units : List ℕ
  pub object : ℕ

pub record State : Type 0 where
  pub heap : Heap
  -- each static field once
  pub statics : List Static
  -- the classes whose initialisation has begun
  pub initialised : List Name
  -- each text once
  pub literals : List Literal
  -- the top first
  pub frames : List Frame
  -- what was charged so far
  pub costs : Costs
  -- the charge that passed its threshold
  pub exceeded : Option Charge

-- ---- the instruction that is next

abbrev pub instruction_in : Option Code → ℕ → Option Instruction
instruction_in None number = None
instruction_in (Some code) number = slice_get code.instructions number

-- the next instruction of a frame
abbrev pub instruction_at : Program → Frame → Option Instruction
instruction_at program f = instruction_in (code_of program f.method) f.number
