use Rattle.dj_straight.proofs.Shapes.{shape_or_fault}
use Rattle.dj_straight.proofs.laws.shape_or_fault.Goals as goal

pub returns : goal.returns
returns c = shape_or_fault
