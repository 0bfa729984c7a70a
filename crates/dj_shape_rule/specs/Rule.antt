-- Beside trusted/Rule.antt: what no clause of the call `djvm` reaches.
use Rattle.std.specs.Prelude.{Option, Some, None}
use Rattle.dj_model.specs.trusted.Program.{Code}
use Rattle.dj_model.specs.trusted.Kinds.{Signature}
use Rattle.dj_model.specs.trusted.Shape.{IsShapeFault}
use Rattle.dj_model.specs.Shape.{HasShape}
use Rattle.dj_shape_rule.specs.declared.judge.ShapeFault.{ShapeFault}

-- code has shape, or this is its first fault
abbrev pub IsShapeAnswer : Signature → Code → Option ShapeFault → Type 0
IsShapeAnswer signature code None = HasShape signature code
IsShapeAnswer signature code (Some fault) = IsShapeFault signature code fault.number
