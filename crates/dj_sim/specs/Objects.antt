-- Programs in which each class is below Object, and the classes of a run's objects.
use Rattle.std.specs.Prelude.{◌≡◌, true, [], IsSome, Contains, ⊤}
use Rattle.dj_names.specs.declared.run.Raised.{Raised}
use Rattle.dj_names.specs.trusted.Values.{raised_class}
use Rattle.dj_model.specs.trusted.Types.{object_name, string_name}
use Rattle.dj_model.specs.trusted.Program.{Program, Class, class_at}
use Rattle.dj_model.specs.trusted.Linking.{chain, is_among}
use Rattle.dj_model.specs.trusted.Step.{StepAnswer, Went, Ended, IllFormed}
use Rattle.dj_model.specs.Runs.{Run, Underway, RunEnds, Stuck}
use Rattle.dj_sim.specs.Simulation.{HasObject, AreBelowObject}

-- Object stands at the top, each class is below it, and the classes are there of which the machine makes objects
pub record HasBase (program : Program) : Type 0 where
  pub object : HasObject program
  pub below : (c : Class) → Contains program c → is_among (chain program c.name) (object_name []) ≡ true
  pub raised : (raised : Raised) → IsSome (class_at program (raised_class raised))
  pub string : IsSome (class_at program (string_name []))

abbrev pub AnswerBelow : Program → StepAnswer → Type 0
AnswerBelow program (Went s) = AreBelowObject program s.heap.objects
AnswerBelow program (Ended outcome s) = AreBelowObject program s.heap.objects
AnswerBelow program IllFormed = ⊤

abbrev pub RunBelow : Program → Run → Type 0
RunBelow program (Underway s) = AreBelowObject program s.heap.objects
RunBelow program (RunEnds outcome costs) = ⊤
RunBelow program Stuck = ⊤
