-- What an answer of the model says.
use Rattle.std.specs.Prelude.{List}
use Rattle.dj_names.specs.declared.run.Outcome.{Outcome}
use Rattle.dj_edge.specs.declared.host.HostAnswer.{HostAnswer}
use Rattle.dj_model.specs.trusted.State.{State, Account}
use Rattle.dj_model.specs.trusted.Step.{StepAnswer, Went, Ended, IllFormed}

-- what an answer of the model says; of the state in which a run ended, its account and the answers that are left
pub data Reported : Type 0 where
  On : State → Reported
  Over : Outcome → Account → List HostAnswer → Reported
  -- no step can be made
  Nowhere : Reported

abbrev pub reported_of : StepAnswer → Reported
reported_of (Went s) = On s
reported_of (Ended outcome s) = Over outcome s.account s.answers
reported_of IllFormed = Nowhere
