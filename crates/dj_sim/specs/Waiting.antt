-- Frames that wait, after a step and after a turn.
use Rattle.std.specs.Prelude.{⊤}
use Rattle.dj_model.specs.trusted.Step.{StepAnswer, Went, Ended, IllFormed}
use Rattle.dj_model.specs.Runs.{Run, Underway, RunEnds, Stuck}
use Rattle.dj_sim.specs.Simulation.{AreWaitingPaid}

abbrev pub AnswerWaits : StepAnswer → Type 0
AnswerWaits (Went s) = AreWaitingPaid s.frames
AnswerWaits (Ended outcome s) = ⊤
AnswerWaits IllFormed = ⊤

abbrev pub RunWaits : Run → Type 0
RunWaits (Underway s) = AreWaitingPaid s.frames
RunWaits (RunEnds outcome costs) = ⊤
RunWaits Stuck = ⊤
