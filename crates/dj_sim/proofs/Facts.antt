-- What the laws ask of a program, by a plain value.
use Rattle.std.proofs.Common.{[], Option, Some, None, refl}
use Rattle.dj_names.specs.trusted.Library.{stop_class}
use Rattle.dj_names.specs.Library.{below_object}
use Rattle.dj_model.specs.trusted.Types.{object_name}
use Rattle.dj_model.specs.trusted.Program.{Class, class_at, has_initialiser, code_of}
use Rattle.dj_model.specs.trusted.Libraries.{library_class}
use Rattle.dj_model.specs.Libraries.{metered_program}
use Rattle.dj_sim.specs.Simulation.{HasObject}

class_or : Class → Option Class → Class
class_or other None = other
class_or other (Some c) = c

-- Object of the library stands at the top, and has nothing to initialise
pub library_has_object : HasObject (metered_program [])
unfolding metered_program has_initialiser code_of class_or
library_has_object = record {
  object = class_or (library_class (below_object stop_class [])) (class_at (metered_program []) (object_name []));
  there = refl;
  top = refl;
  fields = refl;
  quiet = refl;
}
