-- A machine over an image as the model sees it, how it begins, and what a step of it answers.
use Rattle.std.specs.Prelude.{◌≡◌, ℕ, ⊤, Bool, true, false, List, [], ◌∷◌, ◌++◌, Option, Some, None, if◌then◌else◌}
use Rattle.dj_names.specs.declared.run.Outcome.{Outcome}
use Rattle.dj_names.specs.declared.run.Outcome.TheVariants as outcomes
use Rattle.dj_names.specs.declared.run.Thresholds.{Thresholds}
use Rattle.dj_edge.specs.declared.host.HostAnswer.{HostAnswer}
use Rattle.dj_model.specs.trusted.Types.{Prefix, Declared}
use Rattle.dj_model.specs.trusted.Charging.{new_account}
use Rattle.dj_model.specs.trusted.State.{Terms, Counting, Uncounted, Accounted, State}
use Rattle.dj_model.specs.trusted.Step.{Went, step}
use Rattle.dj_model.specs.trusted.Runs.{begin}
use Rattle.dj_image.specs.Imaged.{Imaged, program_of}
use Rattle.dj_image_step.specs.Answers.{Reported, On, Over, reported_of}
use Rattle.dj_step.specs.declared.answers.StepAnswer.{StepAnswer}
use Rattle.dj_step.specs.declared.answers.StepAnswer.TheVariants as steps
use Rattle.dj_step.specs.declared.answers.StartError.{StartError}
use Rattle.dj_step.specs.declared.answers.StartError.TheVariants as starts

pub record Machined : Type 0 where
  pub image : Imaged
  -- the limit on the heap's bytes
  pub limit : ℕ
  pub counting : Counting
  -- without answers of the host
  pub state : State
  -- how the run ended, where it has
  pub outcome : Option Outcome
  -- whether there was no memory
  pub failed : Bool

-- ---- the run in the model

abbrev pub terms_of : Machined → Terms
terms_of m = record { limit = Some m.limit; counting = m.counting }

-- the state with these answers of the host left
abbrev pub state_with : List HostAnswer → Machined → State
state_with answers m = record m.state { answers = answers }

-- rewritten classes have an accounter; for other classes no charges are counted
abbrev pub counting_for : Prefix → Thresholds → Counting
counting_for [] most = Uncounted
counting_for (byte ∷ prefix) most = Accounted most

-- ---- answers of the model

-- the run goes on in this state, or it has ended with this outcome
abbrev pub on_or_over : Option Outcome → State → Reported
on_or_over None s = On s
on_or_over (Some outcome) s = Over outcome s.account s.answers

-- the state of the machine as an answer of the model, with these answers of the host left
abbrev pub machine_reported : List HostAnswer → Machined → Reported
machine_reported answers m = on_or_over m.outcome (state_with answers m)

-- ---- the start

-- the model's run of the entry on the input begins in the machine's state, whatever the host will answer
pub record Begins (imaged : Imaged) (entry : Declared) (input : List ℕ) (most : Thresholds) (limit : ℕ) (m : Machined) : Type 0 where
  pub image : m.image ≡ imaged
  pub limited : m.limit ≡ limit
  pub counting : m.counting ≡ counting_for imaged.prefix most
  pub outcome : m.outcome ≡ None
  pub failed : m.failed ≡ false
  pub state : (answers : List HostAnswer) → begin (program_of imaged) imaged.prefix (terms_of m) entry input answers ≡ Went (state_with answers m)

-- how a run ends that ends before its first step; nothing is said where there was no memory
abbrev pub start_outcome : StartError → Option Outcome
start_outcome starts.Memory = None
start_outcome (starts.Full used size) = Some (outcomes.HeapFull used size)
start_outcome starts.TooDeep = Some outcomes.TooDeep

abbrev pub EndsAtStart : Imaged → Declared → List ℕ → Thresholds → ℕ → Option Outcome → Type 0
EndsAtStart imaged entry input most limit None = ⊤
EndsAtStart imaged entry input most limit (Some outcome) = (answers : List HostAnswer)
    → reported_of (begin (program_of imaged) imaged.prefix (record { limit = Some limit; counting = counting_for imaged.prefix most }) entry input answers)
    ≡ Over outcome new_account answers

-- ---- a step

-- it has failed, or the run has ended
abbrev pub is_over : Machined → Bool
is_over m = if m.failed then true else has_ended m.outcome where
  has_ended : Option Outcome → Bool
  has_ended None = false
  has_ended (Some outcome) = true

abbrev pub step_answer : Machined → StepAnswer
step_answer m = if m.failed then steps.Memory else answer_for m.outcome where
  answer_for : Option Outcome → StepAnswer
  answer_for None = steps.Went
  answer_for (Some outcome) = steps.Ended

-- the run is still that of the image, on the same terms
pub record IsSameRun (old new : Machined) : Type 0 where
  pub image : new.image ≡ old.image
  pub limit : new.limit ≡ old.limit
  pub counting : new.counting ≡ old.counting

-- a machine whose run is over stays as it is, and asks the host nothing
pub record Stays (old new : Machined) (gave : List HostAnswer) : Type 0 where
  pub same : new ≡ old
  pub quiet : gave ≡ []

-- where what the host gave comes first among the answers, whatever the others are, the machine's step is the model's; nothing is said where there was no memory
abbrev pub Goes : Machined → Machined → List HostAnswer → Type 0
Goes old new gave = new.failed ≡ false → (rest : List HostAnswer)
    → reported_of (step (program_of old.image) old.image.prefix (terms_of old) (state_with (gave ++ rest) old)) ≡ machine_reported rest new

pub record Steps (old new : Machined) (gave : List HostAnswer) (answer : StepAnswer) : Type 0 where
  pub answers : answer ≡ step_answer new
  pub run : IsSameRun old new
  pub over : is_over old ≡ true → Stays old new gave
  pub goes : is_over old ≡ false → Goes old new gave
