-- States of a metered run, and of the plain run of the rewritten program.
use Rattle.std.specs.Prelude.{◌≡◌, ℕ, suc, ◌+◌, ◌*◌, ◌<◌, ◌≤◌, Bool, true, false, List, [], ◌∷◌, map, length, Option, Some, None, ⊤}
use Rattle.dj_names.specs.declared.descriptor.Ty.{Ty}
use Rattle.dj_names.specs.declared.run.Outcome.{Outcome}
use Rattle.dj_names.specs.declared.run.Outcome.TheVariants as outcomes
use Rattle.dj_names.specs.declared.run.Thresholds.{Thresholds}
use Rattle.dj_names.specs.trusted.Heaps.{Object, class_of, with_new}
use Rattle.dj_names.specs.Heaps.{heap_map}
use Rattle.dj_names.specs.trusted.Types.{class_type}
use Rattle.dj_names.specs.Types.{in_sandbox, sandbox_prefix, type_map}
use Rattle.dj_model.specs.trusted.Types.{Declared, object_name}
use Rattle.dj_model.specs.Types.{declared_map}
use Rattle.dj_model.specs.trusted.Instructions.{Instruction, targets}
use Rattle.dj_model.specs.trusted.Program.{Program, Class, Code, class_at, code_of, is_initialiser, has_initialiser}
use Rattle.dj_model.specs.trusted.Linking.{is_subtype}
use Rattle.dj_model.specs.trusted.State.{Terms, Accounted, Frame, State, To, Flow, Goes, Effect}
use Rattle.dj_model.specs.trusted.Effects.{effect}
use Rattle.dj_model.specs.trusted.Initialisation.{mark, Initialised, Ready, Waits, Fails}
use Rattle.dj_model.specs.trusted.Step.{StepAnswer, Went, Ended, IllFormed, new_stop, part_of}
use Rattle.dj_model.specs.trusted.Charging.{Charged, Fine, Over}
use Rattle.dj_model.specs.trusted.Runs.{Going, Finished, from_start, steps}
use Rattle.dj_model.specs.Mapping.{outcome_map}
use Rattle.dj_model.specs.Runs.{metered_terms, starts_handler}
use Rattle.dj_model.specs.Standing.{IsAmong}
use Rattle.dj_groups.specs.Groups.{Group, inserted, group_at, groups_of, start, own}
use Rattle.dj_groups.specs.Rewritten.{inserted_instruction}

-- ---- frames

-- the groups of a code; none where there is no code
abbrev pub groups_in : Program → Option Code → List Group
groups_in program None = []
groups_in program (Some code) = groups_of program code

-- what is inserted before the instruction of this number
abbrev pub part_at : List Group → ℕ → List Instruction
part_at gs number = map inserted_instruction (inserted (group_at gs number))

-- an instruction that is paid is itself next, and any other begins with what is inserted before it
abbrev pub place_in : List Group → Bool → ℕ → ℕ
place_in gs true number = own gs number
place_in gs false number = start gs number

abbrev pub frame_image : Program → Frame Declared → Frame Declared
frame_image program f = record {
  method = declared_map in_sandbox f.method;
  number = place_in (groups_in program (code_of program f.method)) f.paid f.number;
  locals = f.locals;
  operands = f.operands;
  paid = false;
}

-- ---- states

-- once inserted code has run, the accounter and Object are initialised
abbrev pub flags_image : Program → Bool → List Bool → List Bool
flags_image program false flags = false ∷ false ∷ flags
flags_image program true flags = true ∷ false ∷ mark program (object_name []) flags

abbrev pub state_image : Program → Bool → State → State
state_image program touched s = record {
  heap = heap_map (type_map in_sandbox) s.heap;
  statics = s.statics;
  initialised = flags_image program touched s.initialised;
  literals = s.literals;
  frames = map (frame_image program) s.frames;
  account = s.account;
  answers = s.answers;
}

-- ---- what holds of the frames and the heap of a metered run, beside their kinds

abbrev pub is_top_paid : List (Frame Declared) → Bool
is_top_paid [] = true
is_top_paid (f ∷ below) = f.paid

-- each frame that waits for one that isn't an initialiser's is paid
abbrev pub AreWaitingPaid : List (Frame Declared) → Type 0
AreWaitingPaid [] = ⊤
AreWaitingPaid (f ∷ below) = (is_initialiser f.method ≡ false → is_top_paid below ≡ true) × AreWaitingPaid below

-- the top frame is paid, and each that waits
abbrev pub AreActing : List (Frame Declared) → Type 0
AreActing frames = (is_top_paid frames ≡ true) × AreWaitingPaid frames

-- the class of each object is below Object
abbrev pub AreBelowObject : Program → List (Object Ty) → Type 0
AreBelowObject program [] = ⊤
AreBelowObject program (o ∷ objects) = (is_subtype program [] (class_of o) (class_type (object_name [])) ≡ true) × AreBelowObject program objects

-- Object stands at the top, and has no fields with names and no initialiser
pub record HasObject (program : Program) : Type 0 where
  pub object : Class
  pub there : class_at program (object_name []) ≡ Some object
  pub top : object.superclass ≡ None
  pub fields : object.fields ≡ []
  pub quiet : has_initialiser program (object_name []) ≡ false

-- handlers are instructions
abbrev pub AreHandlersWithin : Program → Type 0
AreHandlersWithin program = (m : Declared) (code : Code) (k : ℕ) → code_of program m ≡ Some code → starts_handler (Some code) k ≡ true → k < length code.instructions

-- the run goes on elsewhere only where the instruction may jump, as shape says
abbrev pub JumpsAmong : Instruction → Flow → Type 0
JumpsAmong i (Goes (To number)) = IsAmong (targets i) number
JumpsAmong i flow = ⊤

-- the instruction has an effect, as it has in a sound program, and jumps only where it may
pub record HasEffect (program : Program) (most : Thresholds) (x : Frame Declared) (i : Instruction) (s : State) : Type 0 where
  pub does : Effect
  pub has : effect program [] (metered_terms most) x.method.class i (part_of x s) ≡ Some does
  pub jumps : JumpsAmong i does.flow

-- ---- the end by a charge

abbrev pub plain_terms : Thresholds → Terms
plain_terms most = record { limit = None; counting = Accounted most }

-- the costs, the heap's bytes and the literals are the same
abbrev pub IsLeft : State → State → Type 0
IsLeft left t = (t.account.costs ≡ left.account.costs) × (t.heap.used ≡ left.heap.used) × (t.literals ≡ left.literals)

-- from there the plain run ends, after at most this many steps, with this outcome and what is left in this state
abbrev pub EndsWithin : Program → Thresholds → ℕ → StepAnswer → Outcome → State → Type 0
EndsWithin program most bound a outcome left =
    (n : ℕ) × (n ≤ bound) × (t : State) × (from_start (steps program sandbox_prefix (plain_terms most) n) a ≡ Finished outcome t n) × IsLeft left t

-- the object that stops the run is the last that is made
abbrev pub with_stop : State → State
with_stop s = record s { heap = with_new s.heap new_stop }

-- each frame is one of a method of the original program
abbrev pub AreOriginal : List (Frame Declared) → Type 0
AreOriginal [] = ⊤
AreOriginal (y ∷ ys) = ((m : Declared) × (y.method ≡ declared_map in_sandbox m)) × AreOriginal ys

-- in the plain run of R the charges are added in this many steps, and the top frame is paid; or the run ends
abbrev pub PaidImage : Program → Program → Thresholds → ℕ → Bool → State → Frame Declared → List (Frame Declared) → Charged → Type 0
PaidImage program R most k touched s x below (Fine account) = (now : Bool)
    × (steps R sandbox_prefix (plain_terms most) k (state_image program touched s) ≡ Going (state_image program now (record s { account = account; frames = record x { paid = true } ∷ below })))
PaidImage program R most k touched s x below (Over charge account) =
    EndsWithin R most (k + 2 * suc (length below)) (Went (state_image program touched s)) (outcomes.Stopped charge) (with_stop (record s { account = account }))

-- ---- answers

abbrev pub answer_image : Program → Bool → StepAnswer → StepAnswer
answer_image program touched (Went s) = Went (state_image program touched s)
answer_image program touched (Ended outcome s) = Ended (outcome_map in_sandbox outcome) (state_image program touched s)
answer_image program touched IllFormed = IllFormed

abbrev pub initialised_image : Program → Bool → Initialised → Initialised
initialised_image program touched (Ready s) = Ready (state_image program touched s)
initialised_image program touched (Waits s) = Waits (state_image program touched s)
initialised_image program touched (Fails outcome s) = Fails (outcome_map in_sandbox outcome) (state_image program touched s)
