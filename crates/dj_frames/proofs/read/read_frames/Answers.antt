use Rattle.std.proofs.Common.{arith}
use Rattle.dj_frames.proofs.WholeFaults.{reads_frames}
use Rattle.dj_frames.proofs.read.read_frames.Goals as goal

pub returns-clause-means : goal.returns-clause-means
returns-clause-means c = reads_frames c.args.body.now c.args.starts.now c.read_whole.result c.requires.rise (λ i. omega (arith, c.type_inv.body i)) c.read_whole.ensures
