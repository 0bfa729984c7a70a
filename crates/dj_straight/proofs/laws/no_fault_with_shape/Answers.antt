use Rattle.dj_straight.proofs.Shapes.{no_fault_with_shape}
use Rattle.dj_straight.proofs.laws.no_fault_with_shape.Goals as goal

pub returns : goal.returns
returns c = no_fault_with_shape
