use Rattle.dj_asm_pool.specs.Pooling.{found_index}
use Rattle.dj_asm.specs.trusted.Files.{places_of}
use Rattle.dj_asm.proofs.ProperCode.{proper_at}
use Rattle.dj_asm.proofs.instrs.instrs_of.Goals as goal

pub push_line-requires : goal.push_line-requires
push_line-requires c =
    proper_at (places_of (found_index c.args.pool.now) c.args.labels.now) c.args.lines.now c.loop-line.line-index c.line-item.result c.loop-line-test.true c.line-item.is c.requires
