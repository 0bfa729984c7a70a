use Rattle.dj_asm.proofs.MethodCode.{lines_well_formed}
use Rattle.dj_asm.proofs.code.laid_of.Goals as goal

pub lay_out-requires : goal.lay_out-requires
lay_out-requires c =
    lines_well_formed c.args.pool.now c.args.labels.now c.args.lines.now (record { code = c.in_ok-code.code; ranges = c.in_ok-ranges.ranges }) c.requires.labels c.requires.can c.in_ok-code.ensures c.in_ok-ranges.ensures
