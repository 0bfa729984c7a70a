-- How a run starts; the metered run, which turn by turn adds an instruction's charges and then does it; and the plain run, which only does instructions.
use Rattle.std.specs.Prelude.{ℕ, zero, suc, ◌-◌, false, List, [], ◌∷◌, length, map, replicate, Option, Some, None, if◌then◌else◌}
use Rattle.std.specs.Int.{w8, cast_signed}
use Rattle.dj_names.specs.declared.descriptor.Base.TheVariants as bases
use Rattle.dj_names.specs.declared.descriptor.Ty.{Ty}
use Rattle.dj_names.specs.declared.run.Value.TheVariants as values
use Rattle.dj_names.specs.declared.run.Element.TheVariants as elements
use Rattle.dj_names.specs.declared.run.Costs.{Costs}
use Rattle.dj_names.specs.declared.run.Outcome.{Outcome}
use Rattle.dj_names.specs.declared.run.Outcome.TheVariants as outcomes
use Rattle.dj_names.specs.trusted.Heaps.{Object, Array, Heap, object_size}
use Rattle.dj_names.specs.trusted.Types.{base_array}
use Rattle.dj_edge.specs.declared.host.HostAnswer.{HostAnswer}
use Rattle.dj_model.specs.trusted.Types.{Prefix, Declared}
use Rattle.dj_model.specs.trusted.Program.{Program}
use Rattle.dj_model.specs.trusted.Linking.{static_count}
use Rattle.dj_model.specs.trusted.State.{Terms, State}
use Rattle.dj_model.specs.trusted.Charging.{new_account}
use Rattle.dj_model.specs.trusted.Arrays.{passes_limit}
use Rattle.dj_model.specs.trusted.Initialisation.{Initialised, Ready, Waits, Fails, new_frame, initialise}
use Rattle.dj_model.specs.trusted.Step.{StepAnswer, Went, Ended, IllFormed, step}

-- ---- the start

-- the input as an array of bytes, which is the first object of the heap
abbrev pub input_array : List ℕ → Object Ty
input_array input = Array (base_array bases.Byte) elements.Byte (map (cast_signed w8) input)

abbrev pub empty_heap : Heap Ty
empty_heap = record { objects = []; used = 0 }

abbrev pub input_heap : List ℕ → Heap Ty
input_heap input = record { objects = input_array input ∷ []; used = object_size (input_array input) }

-- the frame of the entry alone, with the first object as its argument; no class is initialised
abbrev pub start_state : Program → Declared → Heap Ty → List HostAnswer → State
start_state program entry heap answers = record {
  heap = heap;
  statics = replicate (static_count program) 0;
  initialised = replicate (length program) false;
  literals = [];
  frames = new_frame program entry (values.Ref 1 ∷ []) ∷ [];
  account = new_account;
  answers = answers;
}

abbrev pub begun : Initialised → StepAnswer
begun (Ready s) = Went s
begun (Waits s) = Went s
begun (Fails outcome s) = Ended outcome s

-- the start of a run of the entry on the input, on these terms: the entry's class is initialised first
unfoldable pub begin : Program → Prefix → Terms → Declared → List ℕ → List HostAnswer → StepAnswer
begin program prefix terms entry input answers =
    if passes_limit terms.limit (object_size (input_array input))
    then Ended (outcomes.HeapFull 0 (object_size (input_array input))) (start_state program entry empty_heap answers)
    else begun (initialise program prefix terms entry.class (start_state program entry (input_heap input) answers))

-- ---- the plain run

pub data Ran : Type 0 where
  -- the run goes on in this state
  Going : State → Ran
  -- the run has ended with this outcome, in this state, after n steps
  Finished : Outcome → State → ℕ → Ran
  -- no step can be made
  NoStep : Ran

abbrev pub one_more : Ran → Ran
one_more (Going s) = Going s
one_more (Finished outcome s n) = Finished outcome s (suc n)
one_more NoStep = NoStep

abbrev pub then_steps : (State → Ran) → StepAnswer → Ran
then_steps more (Went s) = one_more (more s)
then_steps more (Ended outcome s) = Finished outcome s 1
then_steps more IllFormed = NoStep

-- n steps, or fewer where the run ends before
unfoldable pub steps : Program → Prefix → Terms → ℕ → State → Ran
steps program prefix terms zero s = Going s
steps program prefix terms (suc n) s = then_steps (steps program prefix terms n) (step program prefix terms s)

abbrev pub from_start : (State → Ran) → StepAnswer → Ran
from_start more (Went s) = more s
from_start more (Ended outcome s) = Finished outcome s 0
from_start more IllFormed = NoStep

-- how a plain run of at most n steps ended
pub record Report : Type 0 where
  pub outcome : Outcome
  pub costs : Costs
  pub steps : ℕ
  -- how many of the host's answers were taken, which are the first ones
  pub taken : ℕ

abbrev pub taken_of : List HostAnswer → State → ℕ
taken_of answers s = length answers - length s.answers

abbrev pub report_of : List HostAnswer → ℕ → Ran → Option Report
report_of answers most (Going s) =
    Some (record { outcome = outcomes.OutOfSteps most; costs = s.account.costs; steps = most; taken = taken_of answers s })
report_of answers most (Finished outcome s n) = Some (record { outcome = outcome; costs = s.account.costs; steps = n; taken = taken_of answers s })
report_of answers most NoStep = None

-- the report on a plain run; none where no step can be made
unfoldable pub plain_run : Program → Prefix → Terms → Declared → List ℕ → List HostAnswer → ℕ → Option Report
plain_run program prefix terms entry input answers most =
    report_of answers most (from_start (steps program prefix terms most) (begin program prefix terms entry input answers))
