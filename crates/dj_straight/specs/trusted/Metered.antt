-- The metered run: turn by turn an instruction's charges are added, and then it is done.
use Rattle.std.specs.Prelude.{◌≡◌, ℕ, zero, suc, Bool, true, List, [], ◌∷◌, length, map, Some, None, if◌then◌else◌}
use Rattle.std.specs.Int.{w8, cast_signed}
use Rattle.dj_names.specs.declared.run.Value.TheVariants as values
use Rattle.dj_names.specs.declared.run.Element.TheVariants as elements
use Rattle.dj_names.specs.declared.run.Costs.{Costs}
use Rattle.dj_names.specs.declared.run.Thresholds.{Thresholds}
use Rattle.dj_names.specs.declared.run.Outcome.{Outcome}
use Rattle.dj_names.specs.declared.run.Outcome.TheVariants as outcomes
use Rattle.dj_names.specs.trusted.Values.{raised_class}
use Rattle.dj_straight.specs.trusted.Objects.{Object, Array}
use Rattle.dj_straight.specs.trusted.Program.{Program, MethodName}
use Rattle.dj_straight.specs.trusted.State.{Heap, Frame, State}
use Rattle.dj_straight.specs.trusted.Instructions.{byte_array_class}
use Rattle.dj_straight.specs.trusted.Effects.{Terms, array_size, passes_limit}
use Rattle.dj_straight.specs.trusted.Initialisation.{Initialised, Ready, Waits, Fails, new_frame, statics_of, initialise}
use Rattle.dj_straight.specs.trusted.Step.{Answer, Went, Ended, IllFormed, step}
use Rattle.dj_straight.specs.trusted.Charges.{amounts, paid, Payment, Paid, Exceeds, no_costs}

-- ---- the beginning

-- the bytes as an array, the first object of the heap
abbrev pub input_array : List ℕ → Object
input_array input = Array byte_array_class elements.Byte (map (cast_signed w8) input)

abbrev pub input_size : List ℕ → ℕ
input_size input = array_size elements.Byte (length input)

abbrev pub empty_heap : Heap
empty_heap = record { objects = []; used = 0 }

abbrev pub input_heap : List ℕ → Heap
input_heap input = record { objects = input_array input ∷ []; used = input_size input }

-- the frame of the entry alone, with the first object as its argument; no class is initialised
abbrev pub start_state : Program → MethodName → Heap → State
start_state program entry heap = record {
  heap = heap;
  statics = statics_of program;
  initialised = [];
  literals = [];
  frames = new_frame program entry (values.Ref 1 ∷ []) ∷ [];
  costs = no_costs;
  exceeded = None;
}

abbrev pub begun : Initialised → Answer
begun (Ready s) = Went s
begun (Waits s) = Went s
begun (Fails outcome s) = Ended outcome s

-- the start of a run of the entry on the input, on these terms: the entry's class is initialised first
unfoldable pub begin : Program → MethodName → List ℕ → Terms → Answer
begin program entry input terms =
    if passes_limit terms.limit (input_size input) then Ended (outcomes.HeapFull 0 (input_size input)) (start_state program entry empty_heap)
    else begun (initialise program terms entry.class (start_state program entry (input_heap input)))

-- ---- turns

pub data Run : Type 0 where
  -- the run goes on in this state
  Goes : State → Run
  -- the run has ended with this outcome, at these costs
  Ends : Outcome → Costs → Run
  -- no turn can be made: the program isn't sound
  Stuck : Run

abbrev pub with_paid : List Frame → List Frame
with_paid [] = []
with_paid (f ∷ below) = record f { paid = true } ∷ below

abbrev pub top_is_paid : List Frame → Bool
top_is_paid [] = true
top_is_paid (f ∷ below) = f.paid

abbrev pub payment_run : State → Payment → Run
payment_run s (Paid costs) = Goes (record s { costs = costs; frames = with_paid s.frames })
payment_run s (Exceeds charge costs) = Ends (outcomes.Stopped charge) costs

-- the charges of the next instruction are added
abbrev pub pay : Program → Thresholds → State → Run
pay program most s = payment_run s (paid most s.costs (amounts program s))

abbrev pub answer_run : Answer → Run
answer_run (Went s) = Goes s
answer_run (Ended outcome s) = Ends outcome s.costs
answer_run IllFormed = Stuck

-- the terms of a metered run: the heap has no limit, and no object stops the run
abbrev pub metered_terms : Thresholds → Terms
metered_terms most = record { limit = None; raised = raised_class; thresholds = Some most; stop = None }

-- the next instruction's charges are added, where they weren't; else the instruction is done
unfoldable pub turn : Program → Thresholds → State → Run
turn program most s = if top_is_paid s.frames then answer_run (step program (metered_terms most) s) else pay program most s

-- one more turn, unless the run has ended
abbrev pub then_turn : (State → Run) → Run → Run
then_turn more (Goes s) = more s
then_turn more run = run

-- n turns, or fewer where the run ends before
unfoldable pub turns : Program → Thresholds → ℕ → State → Run
turns program most zero s = Goes s
turns program most (suc n) s = then_turn (turns program most n) (turn program most s)

abbrev pub turns_from : Program → Thresholds → ℕ → Answer → Run
turns_from program most n (Went s) = turns program most n s
turns_from program most n (Ended outcome s) = Ends outcome s.costs
turns_from program most n IllFormed = Stuck

-- the run of the entry on the input, after n turns
abbrev pub run : Program → MethodName → List ℕ → Thresholds → ℕ → Run
run program entry input most n = turns_from program most n (begin program entry input (metered_terms most))

-- the run ends with this outcome, at these costs
abbrev pub RunsTo : Program → MethodName → List ℕ → Thresholds → Outcome → Costs → Type 0
RunsTo program entry input most outcome costs = (n : ℕ) × (run program entry input most n ≡ Ends outcome costs)
