use Rattle.dj_step.specs.Running.{FillsTo}
use Rattle.dj_step.proofs.input.fill.Given as goal

abbrev pub invariant-loop-at : goal.invariant-loop-at
invariant-loop-at l = FillsTo l.input l.at l.initial.heap l.heap
