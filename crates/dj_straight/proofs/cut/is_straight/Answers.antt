use Rattle.dj_straight.proofs.StraightInstrs.{array_says}
use Rattle.dj_straight.proofs.cut.is_straight.Goals as goal

pub returns-in-Array : goal.returns-in-Array
returns-in-Array c = array_says c.in-Array.base c.args.instr.now c.in-Array.is
