use Rattle.dj_straight.proofs.Shapes.{one_shape_fault}
use Rattle.dj_straight.proofs.laws.one_shape_fault.Goals as goal

pub returns : goal.returns
returns c = one_shape_fault
