-- The metered run of a program, and the plain run of the rewritten program that follows it.
use Rattle.std.specs.Prelude.{◌≡◌, ℕ, zero, suc, ◌+◌, ◌*◌, ◌≤◌, ⊤, Bool, true, false, List, [], length, Some}
use Rattle.dj_names.specs.declared.run.Costs.{Costs}
use Rattle.dj_names.specs.declared.run.Outcome.{Outcome}
use Rattle.dj_names.specs.declared.run.Outcome.TheVariants as outcomes
use Rattle.dj_names.specs.declared.run.Thresholds.{Thresholds}
use Rattle.dj_names.specs.Types.{in_sandbox, sandbox_prefix}
use Rattle.dj_model.specs.trusted.Types.{Declared}
use Rattle.dj_model.specs.Types.{declared_map}
use Rattle.dj_model.specs.trusted.Program.{Program}
use Rattle.dj_model.specs.trusted.State.{State}
use Rattle.dj_model.specs.trusted.Initialisation.{most_frames}
use Rattle.dj_model.specs.trusted.Runs.{Ran, Going, Finished, Report, begin, from_start, steps, plain_run}
use Rattle.dj_model.specs.Mapping.{outcome_map}
use Rattle.dj_model.specs.Runs.{Run, Underway, RunEnds, Stuck, RunsTo, answer_run, metered_run, metered_terms, top_is_paid, turn}
use Rattle.dj_model.specs.Laws.{IsPaid}
use Rattle.dj_model.specs.Standing.{AreStanding}
use Rattle.dj_groups.specs.Rewritten.{rewritten}
use Rattle.dj_sim.specs.Simulation.{state_image, plain_terms, AreWaitingPaid, AreBelowObject}

-- ---- how many of a metered run's turns do an instruction

abbrev pub one_if : Bool → ℕ
one_if true = 1
one_if false = 0

abbrev pub then_acts : (State → ℕ) → Run → ℕ
then_acts more (Underway s) = more s
then_acts more (RunEnds outcome costs) = 0
then_acts more Stuck = 0

-- of the next n turns
unfoldable pub acts_from : Program → Thresholds → ℕ → State → ℕ
acts_from program most zero s = 0
acts_from program most (suc n) s = one_if (top_is_paid s.frames) + then_acts (acts_from program most n) (turn program most s)

-- of the first n turns
abbrev pub acts : Program → Declared → List ℕ → Thresholds → ℕ → ℕ
acts program entry input most n = then_acts (acts_from program most n) (answer_run (begin program [] (metered_terms most) entry input []))

-- ---- what holds of the state of a metered run

pub record Stands (program : Program) (most : Thresholds) (s : State) : Type 0 where
  pub standing : AreStanding program s.frames
  pub waiting : AreWaitingPaid s.frames
  pub paid : IsPaid most s.account
  pub below : AreBelowObject program s.heap.objects
  pub few : length s.frames ≤ most_frames

-- ---- the plain run of the rewritten program, under the same thresholds

-- after at most this many steps
abbrev pub plain_after : Program → Thresholds → Declared → List ℕ → ℕ → Ran
plain_after program most entry input j =
    from_start (steps (rewritten program) sandbox_prefix (plain_terms most) j) (begin (rewritten program) sandbox_prefix (plain_terms most) (declared_map in_sandbox entry) input [])

-- After n turns, of which so many do an instruction, the metered run is so. Where it goes on, the plain run is in a state's image after j steps, which are at least half
-- of the turns and at most seven for each instruction and six for one that is paid and not done. Where it has ended, the plain run ends so after j steps, at the same costs
abbrev pub RunFollows : Program → Thresholds → Declared → List ℕ → ℕ → ℕ → Run → Type 0
RunFollows program most entry input n acts (Underway s) = (touched : Bool) × (j : ℕ) × (n ≤ 2 * j + 1) × (j ≤ 7 * acts + 6)
    × (plain_after program most entry input j ≡ Going (state_image program touched s)) × Stands program most s
RunFollows program most entry input n acts (RunEnds outcome costs) = (j : ℕ) × (j ≤ 7 * acts + 2055)
    × (t : State) × (plain_after program most entry input j ≡ Finished (outcome_map in_sandbox outcome) t j) × (t.account.costs ≡ costs)
RunFollows program most entry input n acts Stuck = ⊥

abbrev pub Follows : Program → Thresholds → Declared → List ℕ → ℕ → Type 0
Follows program most entry input n = RunFollows program most entry input n (acts program entry input most n) (metered_run program entry input most n)

-- the run had enough steps
abbrev pub IsNotSpent : Outcome → Type 0
IsNotSpent (outcomes.OutOfSteps steps) = ⊥
IsNotSpent outcome = ⊤

-- The plain run of the rewritten program follows the metered run of the program. Where the one ends, the other does, with the same outcome under other names and at the same costs
pub record Meters (program : Program) (most : Thresholds) (entry : Declared) (input : List ℕ) : Type 0 where
  pub follows : (n : ℕ) → Follows program most entry input n
  -- with the same steps, however many more there might be
  pub ends : (outcome : Outcome) (costs : Costs) → RunsTo program entry input most outcome costs
      → (j : ℕ) × ((k : ℕ) → j ≤ k → plain_run (rewritten program) sandbox_prefix (plain_terms most) (declared_map in_sandbox entry) input [] k
      ≡ Some (record { outcome = outcome_map in_sandbox outcome; costs = costs; steps = j; taken = 0 }))
  pub back : (k : ℕ) (report : Report) → plain_run (rewritten program) sandbox_prefix (plain_terms most) (declared_map in_sandbox entry) input [] k ≡ Some report → IsNotSpent report.outcome
      → (outcome : Outcome) × RunsTo program entry input most outcome report.costs × (outcome_map in_sandbox outcome ≡ report.outcome)

-- the heap had room
abbrev pub IsNotFull : Outcome → Type 0
IsNotFull (outcomes.HeapFull used size) = ⊥
IsNotFull outcome = ⊤
