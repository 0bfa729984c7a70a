-- Laws of rewritten programs that need no run.
use Rattle.std.specs.Prelude.{[]}
use Rattle.dj_names.specs.Types.{in_sandbox, sandbox_prefix}
use Rattle.dj_model.specs.trusted.Types.{Declared}
use Rattle.dj_model.specs.trusted.Program.{Program}
use Rattle.dj_model.specs.Types.{declared_map}
use Rattle.dj_model.specs.Sound.{IsSound}
use Rattle.dj_model.specs.Standing.{AsksNothing, IsEntry}
use Rattle.dj_groups.specs.Rewritten.{rewritten}
use Rattle.dj_sim.specs.Simulation.{HasObject}

-- The rewritten program of a sound program with Object at the top is sound. It asks the host nothing where the program doesn't, and an entry of the program, under
-- its other name, is one of the rewritten program.
pub record RewrittenIsSound : Type 0 where
  pub sound : (program : Program) → IsSound program [] → HasObject program → IsSound (rewritten program) sandbox_prefix
  pub quiet : (program : Program) → AsksNothing program → AsksNothing (rewritten program)
  pub entry : (program : Program) (entry : Declared) → IsEntry program entry → IsEntry (rewritten program) (declared_map in_sandbox entry)
