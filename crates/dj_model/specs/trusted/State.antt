-- The state of the machine (JVMS 2.5 and 2.6).
use Rattle.std.specs.Prelude.{ℕ, Bool, List, ◌∷◌, Option, Some, None, slice_get}
use Rattle.dj_names.specs.declared.run.Value.{Value}
use Rattle.dj_names.specs.declared.run.Charge.{Charge}
use Rattle.dj_names.specs.declared.run.Costs.{Costs}
use Rattle.dj_names.specs.declared.run.Outcome.{Outcome}
use Rattle.dj_names.specs.declared.run.Raised.{Raised}
use Rattle.dj_names.specs.declared.run.Thresholds.{Thresholds}
use Rattle.dj_names.specs.declared.descriptor.Ty.{Ty}
use Rattle.dj_names.specs.trusted.Heaps.{Heap}
use Rattle.dj_edge.specs.declared.host.HostAnswer.{HostAnswer}
use Rattle.dj_model.specs.trusted.Types.{Declared}
use Rattle.dj_model.specs.trusted.Instructions.{Instruction}
use Rattle.dj_model.specs.trusted.Program.{Program, Code, code_of}

-- ---- the terms of a run

-- who counts charges
pub data Counting : Type 0 where
  -- nobody counts
  Uncounted : Counting
  -- the run itself counts, and a charge that passes its threshold ends the run
  Metered : Thresholds → Counting
  -- the accounter counts, and a charge that passes its threshold throws the object that stops the run
  Accounted : Thresholds → Counting

pub record Terms : Type 0 where
  -- the limit on the heap's bytes, where there is one
  pub limit : Option ℕ
  pub counting : Counting

-- ---- frames

-- JVMS 2.6: a method that runs, named or numbered by M
pub record Frame (M : Type 0) : Type 0 where
  pub method : M
  -- the number of the instruction that is next, or under way
  pub number : ℕ
  -- the local variables; none is one without a value, as the second slot of a long
  pub locals : List (Option Value)
  -- the top first
  pub operands : List Value
  -- whether the instruction's charges were added
  pub paid : Bool

-- ---- the state

-- the text object of a literal
pub record Literal : Type 0 where
  pub units : List ℕ
  pub object : ℕ

-- the costs so far, and the charge that passed its threshold, where one did
pub record Account : Type 0 where
  pub costs : Costs
  pub exceeded : Option Charge

pub record State : Type 0 where
  pub heap : Heap Ty
  -- the 64 bits of each static field of the program, in their order
  pub statics : List ℕ
  -- for each class of the program, in their order, whether its initialisation has begun
  pub initialised : List Bool
  -- each text once, in the order in which its object was made
  pub literals : List Literal
  -- the top first
  pub frames : List (Frame Declared)
  pub account : Account
  -- the host's answers that aren't taken yet
  pub answers : List HostAnswer

abbrev pub instruction_in : Option Code → ℕ → Option Instruction
instruction_in None number = None
instruction_in (Some code) number = slice_get code.instructions number

-- the next instruction of a frame
abbrev pub instruction_at : Program → Frame Declared → Option Instruction
instruction_at program f = instruction_in (code_of program f.method) f.number

-- ---- what an instruction changes, and how the run goes on after it

-- what an instruction may change of the frame and the state
pub record Part : Type 0 where
  pub locals : List (Option Value)
  pub operands : List Value
  pub heap : Heap Ty
  pub statics : List ℕ
  pub literals : List Literal
  pub account : Account
  pub answers : List HostAnswer

-- how the run goes on after an instruction that only handles values
pub data Way : Type 0 where
  -- at the next instruction
  Next : Way
  -- at the instruction of this number
  To : ℕ → Way
  -- with an exception of the instruction's own
  Raise : Raised → Way
  -- in the caller, with this result of the method
  Back : Option Value → Way

-- how the run goes on after an instruction
pub data Flow : Type 0 where
  Goes : Way → Flow
  -- with the object of this number as an exception
  Catch : ℕ → Flow
  -- with the object that stops the run as an exception
  Stop : Flow
  -- in this method, with these arguments
  Call : Declared → List Value → Flow
  -- the run ends with this outcome
  End : Outcome → Flow

pub record Effect : Type 0 where
  pub part : Part
  pub flow : Flow

-- the run goes on at the next instruction, with the value on these operands
abbrev pub pushes : Part → List Value → Value → Effect
pushes p operands v = record { part = record p { operands = v ∷ operands }; flow = Goes Next }

-- the run goes on in this way, and nothing else changes
abbrev pub goes : Part → Flow → Effect
goes p flow = record { part = p; flow = flow }
