-- Laws of the two runs: the metered run of a program, and the plain run of the rewritten program.
use Rattle.std.specs.Prelude.{◌≡◌, ℕ, ◌*◌, ◌≤◌, Bool, true, false, List, [], ◌∷◌, length, Option, Some, None}
use Rattle.dj_names.specs.declared.run.Charge.{Charge}
use Rattle.dj_names.specs.declared.run.Outcome.{Outcome}
use Rattle.dj_names.specs.declared.run.Outcome.TheVariants as outcomes
use Rattle.dj_names.specs.declared.run.Thresholds.{Thresholds}
use Rattle.dj_names.specs.trusted.Types.{Name, class_type}
use Rattle.dj_names.specs.trusted.Library.{stop_class}
use Rattle.dj_names.specs.Types.{in_sandbox, sandbox_prefix}
use Rattle.dj_edge.specs.declared.host.HostAnswer.{HostAnswer}
use Rattle.dj_model.specs.trusted.Types.{Prefix, Declared, object_name}
use Rattle.dj_model.specs.trusted.Instructions.{Instruction}
use Rattle.dj_model.specs.trusted.Program.{Program, Code, code_of}
use Rattle.dj_model.specs.trusted.State.{Terms, Counting, Metered, Accounted, Frame, State, instruction_at}
use Rattle.dj_model.specs.trusted.Performing.{class_at_number, is_instance}
use Rattle.dj_model.specs.trusted.Effects.{used_class}
use Rattle.dj_model.specs.trusted.Initialisation.{Ready, initialise}
use Rattle.dj_model.specs.trusted.Step.{prepared, unwound, step}
use Rattle.dj_model.specs.trusted.Runs as runs
use Rattle.dj_model.specs.trusted.Runs.{begin, from_start, Report, plain_run}
use Rattle.dj_model.specs.Types.{declared_map}
use Rattle.dj_model.specs.Charging.{charge_all}
use Rattle.dj_model.specs.Mapping.{outcome_map}
use Rattle.dj_model.specs.Runs.{RunsTo, amounts, metered_terms, turn}
use Rattle.dj_model.specs.Sound.{IsSound}
use Rattle.dj_model.specs.Standing.{AsksNothing, AreStanding, IsEntry}
use Rattle.dj_groups.specs.Groups.{groups_of}
use Rattle.dj_groups.specs.Rewritten.{rewritten}
use Rattle.dj_sim.specs.Paying.{Paying}
use Rattle.dj_sim.specs.Counting.{terms_with, CountsAs}
use Rattle.dj_sim.specs.Limits.{IsLimited, RanLimited}
use Rattle.dj_sim.specs.Objects.{HasBase, AnswerBelow, RunBelow}
use Rattle.dj_sim.specs.Metering.{Meters, IsNotSpent, IsNotFull}
use Rattle.dj_sim.specs.Waiting.{AnswerWaits, RunWaits}
use Rattle.dj_sim.specs.Simulation.{groups_in, part_at, state_image, AreWaitingPaid, AreActing, AreBelowObject, HasObject, AreHandlersWithin, HasEffect, EndsWithin, AreOriginal, PaidImage, answer_image, initialised_image}

-- The rewritten program initialises the class of another name as the program initialises the class, on the same terms.
abbrev pub Initialises : Type 0
Initialises = (program : Program) → HasObject program → (terms : Terms) (touched : Bool) (class : Name) (s : State)
    → initialise (rewritten program) sandbox_prefix terms (in_sandbox class) (state_image program touched s) ≡ initialised_image program touched (initialise program [] terms class s)

-- So the runs begin alike, on the same terms.
abbrev pub Begins : Type 0
Begins = (program : Program) → HasObject program → (terms : Terms) (entry : Declared) (input : List ℕ) (answers : List HostAnswer)
    → begin (rewritten program) sandbox_prefix terms (declared_map in_sandbox entry) input answers ≡ answer_image program false (begin program [] terms entry input answers)

-- An instruction that is paid is one step of the rewritten program, on the same terms.
abbrev pub Acts : Type 0
Acts = (program : Program) → HasObject program → (most : Thresholds) (touched : Bool) (s : State) (x : Frame Declared) (below : List (Frame Declared)) (i : Instruction)
    → s.frames ≡ x ∷ below → AreActing (x ∷ below) → instruction_at program x ≡ Some i
    → ((t : State) → prepared program [] (metered_terms most) (used_class program [] i) s ≡ Ready t → HasEffect program most x i t)
    → step (rewritten program) sandbox_prefix (metered_terms most) (state_image program touched s) ≡ answer_image program touched (step program [] (metered_terms most) s)

-- What is inserted before an instruction adds the instruction's charges in as many steps as there are inserted, or the run ends by the one that passed its threshold.
abbrev pub Pays : Type 0
Pays = (program : Program) → HasObject program → AreHandlersWithin program → (most : Thresholds) (touched : Bool) (s : State) (x : Frame Declared) (below : List (Frame Declared)) (code : Code)
    → s.frames ≡ x ∷ below → x.paid ≡ false → code_of program x.method ≡ Some code
    → Paying (part_at (groups_of program code) x.number) x.operands (amounts program [] s)
    → ((r : ℕ) → is_instance program [] s.heap r (class_type (object_name [])) ≡ true)
    → PaidImage program (rewritten program) most (length (part_at (groups_of program code) x.number)) touched s x below (charge_all most (amounts program [] s) s.account)

-- The object that stops a run leaves all frames, in at most two steps a frame.
abbrev pub Stops : Type 0
Stops = (program : Program) → HasObject program → AreHandlersWithin program → (most : Thresholds) (frames : List (Frame Declared)) → AreOriginal frames
    → (r : State) (exception : ℕ) (charge : Charge) → r.account.exceeded ≡ Some charge → class_at_number r.heap exception ≡ class_type stop_class
    → EndsWithin (rewritten program) most (2 * length frames) (unwound (rewritten program) sandbox_prefix r (class_type stop_class) exception frames) (outcomes.Stopped charge) r

-- Each frame that waits for one that isn't an initialiser's is paid when a metered run begins, and stays so.
pub record KeepsWaiting : Type 0 where
  pub begins : (program : Program) (prefix : Prefix) (terms : Terms) (entry : Declared) (input : List ℕ) (answers : List HostAnswer) → AnswerWaits (begin program prefix terms entry input answers)
  pub steps : (program : Program) (prefix : Prefix) (terms : Terms) (s : State) → AreActing s.frames → AnswerWaits (step program prefix terms s)
  pub turns : (program : Program) (most : Thresholds) (s : State) → AreWaitingPaid s.frames → RunWaits (turn program most s)

-- Where the accounter counts, a run begins as where the run counts, and each step is the same, but for an end by a charge: there the object that stops the run is thrown.
pub record Counts : Type 0 where
  pub begins : (program : Program) (prefix : Prefix) (limit : Option ℕ) (most : Thresholds) (entry : Declared) (input : List ℕ) (answers : List HostAnswer)
      → begin program prefix (terms_with limit (Accounted most)) entry input answers ≡ begin program prefix (terms_with limit (Metered most)) entry input answers
  pub steps : (program : Program) (prefix : Prefix) (limit : Option ℕ) (most : Thresholds) (s : State)
      → CountsAs program prefix (terms_with limit (Accounted most)) s (step program prefix (terms_with limit (Accounted most)) s) (step program prefix (terms_with limit (Metered most)) s)

-- With a limit on the heap's bytes, a run begins, each step is made and a run of n steps goes as without one; or the heap is full, and without the limit it has more bytes then.
pub record Limits : Type 0 where
  pub begins : (program : Program) (prefix : Prefix) (limit : ℕ) (counting : Counting) (entry : Declared) (input : List ℕ) (answers : List HostAnswer)
      → IsLimited limit (begin program prefix (terms_with (Some limit) counting) entry input answers) (begin program prefix (terms_with None counting) entry input answers)
  pub steps : (program : Program) (prefix : Prefix) (limit : ℕ) (counting : Counting) (s : State)
      → IsLimited limit (step program prefix (terms_with (Some limit) counting) s) (step program prefix (terms_with None counting) s)
  pub runs : (program : Program) (prefix : Prefix) (limit : ℕ) (counting : Counting) (entry : Declared) (input : List ℕ) (answers : List HostAnswer) (n : ℕ)
      → RanLimited limit (from_start (runs.steps program prefix (terms_with (Some limit) counting) n) (begin program prefix (terms_with (Some limit) counting) entry input answers))
      (from_start (runs.steps program prefix (terms_with None counting) n) (begin program prefix (terms_with None counting) entry input answers))

-- ---- sound programs

-- In a sound program that asks nothing, each act of frames that have the kinds that shape says is one step of the rewritten program, on the same terms.
abbrev pub SoundActs : Type 0
SoundActs = (program : Program) → IsSound program [] → AsksNothing program → HasObject program → (most : Thresholds) (touched : Bool) (s : State) → AreStanding program s.frames → AreActing s.frames
    → step (rewritten program) sandbox_prefix (metered_terms most) (state_image program touched s) ≡ answer_image program touched (step program [] (metered_terms most) s)

-- In a sound program, what is inserted pays the charges of the top frame's next instruction, where each object's class is below Object. At most six instructions are inserted before one.
pub record SoundPays : Type 0 where
  pub pays : (program : Program) → IsSound program [] → HasObject program → (most : Thresholds) (touched : Bool) (s : State) (x : Frame Declared) (below : List (Frame Declared))
      → s.frames ≡ x ∷ below → AreStanding program s.frames → x.paid ≡ false → AreBelowObject program s.heap.objects
      → PaidImage program (rewritten program) most (length (part_at (groups_in program (code_of program x.method)) x.number)) touched s x below (charge_all most (amounts program [] s) s.account)
  pub few : (program : Program) (code : Code) (number : ℕ) → length (part_at (groups_of program code) number) ≤ 6
  -- so what laws on any program ask of handlers
  pub handlers : (program : Program) → IsSound program [] → AreHandlersWithin program

-- In a sound program whose classes are below Object, the class of each object is below Object when a metered run begins, and stays so.
pub record KeepsBelow : Type 0 where
  pub begins : (program : Program) → HasBase program → (limit : Option ℕ) (most : Thresholds) (entry : Declared) (input : List ℕ) (answers : List HostAnswer)
      → AnswerBelow program (begin program [] (terms_with limit (Metered most)) entry input answers)
  pub steps : (program : Program) → IsSound program [] → HasBase program → (limit : Option ℕ) (most : Thresholds) (s : State) → AreStanding program s.frames → AreBelowObject program s.heap.objects
      → AnswerBelow program (step program [] (terms_with limit (Metered most)) s)
  pub turns : (program : Program) → IsSound program [] → HasBase program → (most : Thresholds) (s : State) → AreStanding program s.frames → AreBelowObject program s.heap.objects
      → RunBelow program (turn program most s)

-- ---- whole runs

-- The plain run of the rewritten program follows the metered run of a sound program whose classes are below Object and that asks nothing.
abbrev pub MeteringTheorem : Type 0
MeteringTheorem = (program : Program) → IsSound program [] → HasBase program → AsksNothing program → (entry : Declared) → IsEntry program entry → (most : Thresholds) (input : List ℕ)
    → Meters program most entry input

-- So where its plain run ends under a limit on the heap's bytes, with enough steps and room, the metered run, which has no limit, ends so.
abbrev pub LimitedEnds : Type 0
LimitedEnds = (program : Program) → IsSound program [] → HasBase program → AsksNothing program → (entry : Declared) → IsEntry program entry → (most : Thresholds) (input : List ℕ)
    → (limit k : ℕ) (report : Report)
    → plain_run (rewritten program) sandbox_prefix (terms_with (Some limit) (Accounted most)) (declared_map in_sandbox entry) input [] k ≡ Some report
    → IsNotSpent report.outcome → IsNotFull report.outcome
    → (outcome : Outcome) × RunsTo program entry input most outcome report.costs × (outcome_map in_sandbox outcome ≡ report.outcome)
