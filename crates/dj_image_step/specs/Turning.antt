-- A step of a run over an image.
use Rattle.std.specs.Prelude.{◌≡◌, List, ◌++◌, Some}
use Rattle.dj_edge.specs.declared.host.HostAnswer.{HostAnswer}
use Rattle.dj_model.specs.trusted.Step.{step}
use Rattle.dj_natives.specs.Calls.{counting_of}
use Rattle.dj_image.specs.Imaged.{Imaged, program_of}
use Rattle.dj_settling.specs.declared.settled.Settled.{Settled}
use Rattle.dj_settling.specs.declared.settled.Settled.TheVariants as settles
use Rattle.dj_settling.specs.Reported.{reported_of}
use Rattle.dj_settling.specs.Settling.{settled_reported}
use Rattle.dj_image_step.specs.Running.{Running, IsRunning, state_of, terms_of}

-- the step is the model's, where what the host gave comes first among the model's answers, whatever the others are; and a run that goes on is still one
pub record MakesStep (imaged : Imaged) (old new : Running) (gave : List HostAnswer) (settled : Settled) : Type 0 where
  pub says : (rest : List HostAnswer)
      → reported_of (step (program_of imaged) imaged.prefix (terms_of old) (state_of imaged (gave ++ rest) old)) ≡ settled_reported settled (state_of imaged rest new)
  pub limit : new.parts.store.heap.limit ≡ old.parts.store.heap.limit
  pub counting : counting_of new.counter ≡ counting_of old.counter
  pub running : settled ≡ settles.Went → IsRunning imaged new
