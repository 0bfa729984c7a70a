-- Laws of bounded work: what a run does and takes under its thresholds.
use Rattle.std.specs.Prelude.{◌≡◌, ℕ, ◌+◌, ◌*◌, ◌≤◌, List, [], length, Some, Contains}
use Rattle.dj_names.specs.declared.run.Costs.{Costs}
use Rattle.dj_names.specs.declared.run.Outcome.{Outcome}
use Rattle.dj_names.specs.declared.run.Thresholds.{Thresholds}
use Rattle.dj_names.specs.Types.{in_sandbox, sandbox_prefix}
use Rattle.dj_edge.specs.declared.host.HostAnswer.{HostAnswer}
use Rattle.dj_model.specs.trusted.Types.{Prefix, Declared}
use Rattle.dj_model.specs.Types.{declared_map}
use Rattle.dj_model.specs.trusted.Program.{Program, Class, class_at}
use Rattle.dj_model.specs.trusted.State.{Terms, Accounted}
use Rattle.dj_model.specs.trusted.Runs as runs
use Rattle.dj_model.specs.trusted.Runs.{Ran, Going, Finished, NoStep, plain_run, begin, from_start}
use Rattle.dj_model.specs.Libraries.{metered_program}
use Rattle.dj_model.specs.Mapping.{outcome_map}
use Rattle.dj_model.specs.Runs.{Run, Underway, RunEnds, Stuck, RunsTo, metered_run}
use Rattle.dj_model.specs.Sound.{IsSound}
use Rattle.dj_model.specs.Standing.{AsksNothing, IsEntry}
use Rattle.dj_groups.specs.Rewritten.{rewritten}
use Rattle.dj_sim.specs.Counting.{terms_with}
use Rattle.dj_sim.specs.Simulation.{plain_terms}
use Rattle.dj_sim.specs.Objects.{HasBase}
use Rattle.dj_sim.specs.Metering.{acts, plain_after}
use Rattle.dj_bounds.specs.Acts.{way, AreShort, initialisers, IsBounded, most_ways}
use Rattle.dj_bounds.specs.Texts.{AreTextsOf, text_bytes, AreLiteralsWithin}
use Rattle.dj_bounds.specs.Bytes.{literal_bytes, HasRoom, most_bytes}

-- ---- the metered run

-- after so many instructions
abbrev pub RunIsBounded : Program → Thresholds → List ℕ → ℕ → Run → Type 0
RunIsBounded program most input acts (Underway s) = IsBounded program acts s × HasRoom program input s
RunIsBounded program most input acts (RunEnds outcome costs) = acts ≤ way * most_ways program most
RunIsBounded program most input acts Stuck = ⊥

-- In a sound program that asks nothing and whose codes are short, a metered run never does more than its ways, and its heap never takes more than what was paid, the literals and the input.
abbrev pub MeteredIsBounded : Type 0
MeteredIsBounded = (program : Program) → IsSound program [] → AsksNothing program → AreShort program → (entry : Declared) → IsEntry program entry → (most : Thresholds) (input : List ℕ) (n : ℕ)
    → RunIsBounded program most input (acts program entry input most n) (metered_run program entry input most n)

-- ---- the plain run of the rewritten program

-- the heap takes at most so many bytes beside the literals
abbrev pub RanWithin : ℕ → Ran → Type 0
RanWithin bytes (Going s) = s.heap.used ≤ bytes + literal_bytes s.literals
RanWithin bytes (Finished outcome s n) = s.heap.used ≤ bytes + literal_bytes s.literals
RanWithin bytes NoStep = ⊥

pub record IsWorkBounded (program : Program) (entry : Declared) (most : Thresholds) (input : List ℕ) : Type 0 where
  -- the metered run does at most so many instructions
  pub acts : (n : ℕ) → acts program entry input most n ≤ way * most_ways program most
  -- and ends
  pub outcome : Outcome
  pub costs : Costs
  pub ends : RunsTo program entry input most outcome costs
  -- so does the plain run of the rewritten program, in at most so many steps, and however many more there might be
  pub steps : ℕ
  pub few : steps ≤ 1048576 * (most_ways program most + 2)
  pub plain : (k : ℕ) → steps ≤ k → plain_run (rewritten program) sandbox_prefix (plain_terms most) (declared_map in_sandbox entry) input [] k
      ≡ Some (record { outcome = outcome_map in_sandbox outcome; costs = costs; steps = steps; taken = 0 })
  -- whose heap is within these bytes after each step
  pub bytes : (k : ℕ) → RanWithin (most_bytes most input) (plain_after program most entry input k)

-- In a sound program whose classes are below Object, which asks nothing and whose codes are short, all work is bounded by the thresholds, the literals and the input.
abbrev pub WorkIsBounded : Type 0
WorkIsBounded = (program : Program) → IsSound program [] → HasBase program → AsksNothing program → AreShort program → (entry : Declared) → IsEntry program entry
    → (most : Thresholds) (input : List ℕ) → IsWorkBounded program entry most input

-- ---- a limit on the heap's bytes

-- with its literals the heap stays within the limit
abbrev pub RanFits : ℕ → ℕ → Ran → Type 0
RanFits limit bytes (Going s) = bytes + literal_bytes s.literals ≤ limit
RanFits limit bytes (Finished outcome s n) = bytes + literal_bytes s.literals ≤ limit
RanFits limit bytes NoStep = ⊥

-- Where work is bounded, a limit that the bytes don't reach makes no difference: the heap is never full.
abbrev pub LimitIsIdle : Type 0
LimitIsIdle = (program : Program) (entry : Declared) (most : Thresholds) (input : List ℕ) → IsWorkBounded program entry most input
    → (limit k : ℕ) → RanFits limit (most_bytes most input) (plain_after program most entry input k)
    → plain_run (rewritten program) sandbox_prefix (terms_with (Some limit) (Accounted most)) (declared_map in_sandbox entry) input [] k
    ≡ plain_run (rewritten program) sandbox_prefix (plain_terms most) (declared_map in_sandbox entry) input [] k

-- ---- the classes of files

-- Where each class of the files and of the deterministic library is found by its name, no more classes have an initialiser than there are files.
abbrev pub FewInitialisers : Type 0
FewInitialisers = (files : List Class) → ((c : Class) → Contains (metered_program files) c → class_at (metered_program files) c.name ≡ Some c)
    → initialisers (metered_program files) (metered_program files) ≤ length files

-- ---- literals

-- The literals of a run are of different texts, each one of the program's, so they take no more bytes than objects of all its texts: after each step, on any terms.
abbrev pub LiteralsAreWithin : Type 0
LiteralsAreWithin = (program : Program) (prefix : Prefix) (terms : Terms) (texts : List (List ℕ)) → AreTextsOf program texts → (entry : Declared) (input : List ℕ) (answers : List HostAnswer) (n : ℕ)
    → AreLiteralsWithin (text_bytes texts) (from_start (runs.steps program prefix terms n) (begin program prefix terms entry input answers))
