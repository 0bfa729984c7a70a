use Rattle.dj_sim.proofs.BelowObject.{begin_below, step_below, turn_below}
use Rattle.dj_sim.proofs.laws.objects.Goals as goal

pub returns : goal.returns
returns c = record {
  begins = begin_below;
  steps = λ program sound base limit most s standing below. step_below program base limit most sound s standing below;
  turns = λ program sound base most s standing below. turn_below program base sound most s standing below;
}
