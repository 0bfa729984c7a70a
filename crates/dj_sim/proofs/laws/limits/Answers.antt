use Rattle.dj_sim.proofs.Limited.{begin_limited, step_limited, run_limited}
use Rattle.dj_sim.proofs.laws.limits.Goals as goal

pub returns : goal.returns
returns c = record {
  begins = begin_limited;
  steps = step_limited;
  runs = λ program prefix limit counting entry input answers n.
      run_limited program prefix limit counting n _ _ (begin_limited program prefix limit counting entry input answers);
}
