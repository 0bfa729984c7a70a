-- How many instructions a metered run does for what it has paid.
use Rattle.std.specs.Prelude.{ℕ, ◌+◌, ◌-◌, ◌*◌, ◌<◌, ◌≤◌, ◌&&◌, Bool, true, false, not, List, [], ◌∷◌, length, Option, Some, None}
use Rattle.dj_names.specs.declared.run.Costs.{Costs}
use Rattle.dj_names.specs.declared.run.Thresholds.{Thresholds}
use Rattle.dj_model.specs.trusted.Types.{Declared}
use Rattle.dj_model.specs.trusted.Instructions.{Instruction, Branch, Goto, Switch, Invoke}
use Rattle.dj_model.specs.trusted.Program.{Program, Code, code_of, has_initialiser, is_initialiser}
use Rattle.dj_model.specs.trusted.State.{Frame, State, instruction_at}
use Rattle.dj_model.specs.Runs.{starts_handler}
use Rattle.dj_sim.specs.Metering.{one_if}

-- ---- ways through code: a way begins with a frame, with a jump or at a handler, and each of its instructions comes after the one before it

-- more than any code has instructions (JVMS 4.7.3)
abbrev pub way : ℕ
way = 65536

abbrev pub code_length : Option Code → ℕ
code_length None = 0
code_length (Some code) = length code.instructions

abbrev pub AreShort : Program → Type 0
AreShort program = (m : Declared) → code_length (code_of program m) < way

-- ---- what the frames may still do without paying

-- the instructions from the frame's next one to the last
abbrev pub left_in : Program → Frame Declared → ℕ
left_in program x = code_length (code_of program x.method) - x.number

-- what the instruction pays is for a new way
abbrev pub goes_elsewhere : Option Instruction → Bool
goes_elsewhere (Some (Branch test target)) = true
goes_elsewhere (Some (Goto target)) = true
goes_elsewhere (Some (Switch pairs default)) = true
goes_elsewhere (Some (Invoke mode m)) = true
goes_elsewhere _ = false

-- the way is paid, and isn't gone yet
abbrev pub is_pending : Program → Frame Declared → Bool
is_pending program x = x.paid && goes_elsewhere (instruction_at program x)

abbrev pub weight : Bool → ℕ
weight b = way * one_if b

-- only the top frame and one below an initialiser's have their instruction still to do
abbrev pub spent : Program → Bool → List (Frame Declared) → ℕ
spent program ready [] = 0
spent program ready (x ∷ below) = left_in program x + weight (ready && is_pending program x) + spent program (is_initialiser x.method) below

-- ---- the ways that were paid, or are free

-- the classes with an initialiser
abbrev pub initialisers : Program → Program → ℕ
initialisers program [] = 0
initialisers program (c ∷ classes) = one_if (has_initialiser program c.name) + initialisers program classes

-- those whose initialisation has begun
abbrev pub begun : Program → Program → List Bool → ℕ
begun program [] flags = 0
begun program (c ∷ classes) [] = 0
begun program (c ∷ classes) (flag ∷ flags) = one_if (flag && has_initialiser program c.name) + begun program classes flags

-- an exception has arrived there, and isn't charged yet
abbrev pub is_at_handler : Program → Frame Declared → Bool
is_at_handler program x = not x.paid && starts_handler (code_of program x.method) x.number

abbrev pub arrived : Program → List (Frame Declared) → ℕ
arrived program [] = 0
arrived program (x ∷ below) = one_if (is_at_handler program x)

abbrev pub paid_ways : Costs → ℕ
paid_ways c = c.invoke + c.jump + c.throw

-- one more is the entry's
abbrev pub ways : Program → State → ℕ
ways program s = paid_ways s.account.costs + begun program program s.initialised + arrived program s.frames + 1

-- after this many instructions
abbrev pub IsBounded : Program → ℕ → State → Type 0
IsBounded program acts s = acts + spent program true s.frames ≤ way * ways program s

-- the ways under these thresholds: those that may be paid, a handler's that isn't charged yet, the initialisers' and the entry's
abbrev pub most_ways : Program → Thresholds → ℕ
most_ways program most = most.invoke + most.jump + most.throw + initialisers program program + 2
