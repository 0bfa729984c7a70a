-- Beside trusted/Runs.antt: what no clause of the call `djvm` reaches.
use Rattle.std.specs.Prelude.{◌≡◌, ℕ, zero, suc, Bool, true, false, List, [], ◌∷◌, ◌++◌, Option, Some, None, nat_eq, if◌then◌else◌}
use Rattle.std.specs.List.{list_any}
use Rattle.dj_names.specs.declared.run.Charge.TheVariants as charges
use Rattle.dj_names.specs.declared.run.Costs.{Costs}
use Rattle.dj_names.specs.declared.run.Thresholds.{Thresholds}
use Rattle.dj_names.specs.declared.run.Outcome.{Outcome}
use Rattle.dj_names.specs.declared.run.Outcome.TheVariants as outcomes
use Rattle.dj_model.specs.trusted.Types.{Prefix, Declared}
use Rattle.dj_model.specs.trusted.Instructions.{Instruction}
use Rattle.dj_model.specs.trusted.Program.{Program, Code, code_of}
use Rattle.dj_model.specs.trusted.State.{Terms, Metered, Frame, State, instruction_at}
use Rattle.dj_model.specs.trusted.Charging.{Charged, Fine, Over}
use Rattle.dj_model.specs.Charging.{Amount, charge_all}
use Rattle.dj_model.specs.Effects.{pays}
use Rattle.dj_model.specs.trusted.Step.{StepAnswer, Went, Ended, IllFormed, step}
use Rattle.dj_model.specs.trusted.Runs.{begin}

-- ---- the charges of the next instruction

abbrev pub starts_handler : Option Code → ℕ → Bool
starts_handler None number = false
starts_handler (Some code) number = list_any (λ range. nat_eq number range.handler) code.ranges

-- the first instruction of a handler is charged one throw, however the run gets there
abbrev pub arrival : Bool → List Amount
arrival true = record { charge = charges.Throw; amount = 1 } ∷ []
arrival false = []

abbrev pub own_amounts : Program → Prefix → Frame Declared → Option Instruction → List Amount
own_amounts program prefix f None = []
own_amounts program prefix f (Some i) = pays program prefix i f.operands

abbrev pub frame_amounts : Program → Prefix → List (Frame Declared) → List Amount
frame_amounts program prefix [] = []
frame_amounts program prefix (f ∷ below) =
    arrival (starts_handler (code_of program f.method) f.number) ++ own_amounts program prefix f (instruction_at program f)

-- the charges of the top frame's next instruction, in order
unfoldable pub amounts : Program → Prefix → State → List Amount
amounts program prefix s = frame_amounts program prefix s.frames

-- ---- the metered run

pub data Run : Type 0 where
  -- the run goes on in this state
  Underway : State → Run
  -- the run has ended with this outcome, at these costs
  RunEnds : Outcome → Costs → Run
  -- no turn can be made: the program isn't sound
  Stuck : Run

abbrev pub with_paid : List (Frame Declared) → List (Frame Declared)
with_paid [] = []
with_paid (f ∷ below) = record f { paid = true } ∷ below

abbrev pub top_is_paid : List (Frame Declared) → Bool
top_is_paid [] = true
top_is_paid (f ∷ below) = f.paid

abbrev pub paid_run : State → Charged → Run
paid_run s (Fine account) = Underway (record s { account = account; frames = with_paid s.frames })
paid_run s (Over charge account) = RunEnds (outcomes.Stopped charge) account.costs

-- the charges of the next instruction are added
abbrev pub pay : Program → Thresholds → State → Run
pay program most s = paid_run s (charge_all most (amounts program [] s) s.account)

abbrev pub answer_run : StepAnswer → Run
answer_run (Went s) = Underway s
answer_run (Ended outcome s) = RunEnds outcome s.account.costs
answer_run IllFormed = Stuck

-- the heap of a metered run has no limit
abbrev pub metered_terms : Thresholds → Terms
metered_terms most = record { limit = None; counting = Metered most }

-- the next instruction's charges are added, where they weren't; else the instruction is done
unfoldable pub turn : Program → Thresholds → State → Run
turn program most s = if top_is_paid s.frames then answer_run (step program [] (metered_terms most) s) else pay program most s

abbrev pub then_turn : (State → Run) → Run → Run
then_turn more (Underway s) = more s
then_turn more (RunEnds outcome costs) = RunEnds outcome costs
then_turn more Stuck = Stuck

-- n turns, or fewer where the run ends before
unfoldable pub turns : Program → Thresholds → ℕ → State → Run
turns program most zero s = Underway s
turns program most (suc n) s = then_turn (turns program most n) (turn program most s)

-- the run of the entry on the input, after n turns
unfoldable pub metered_run : Program → Declared → List ℕ → Thresholds → ℕ → Run
metered_run program entry input most n = then_turn (turns program most n) (answer_run (begin program [] (metered_terms most) entry input []))

-- the run ends with this outcome, at these costs
abbrev pub RunsTo : Program → Declared → List ℕ → Thresholds → Outcome → Costs → Type 0
RunsTo program entry input most outcome costs = (n : ℕ) × (metered_run program entry input most n ≡ RunEnds outcome costs)
