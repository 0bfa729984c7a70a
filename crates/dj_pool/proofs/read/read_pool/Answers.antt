use Rattle.std.proofs.Common.{arith}
use Rattle.dj_pool.proofs.Decides.{tests_decide}
use Rattle.dj_pool.proofs.PoolAnswers.{reads_pool}
use Rattle.dj_pool.proofs.read.read_pool.Goals as goal

pub returns : goal.returns
returns c = reads_pool tests_decide c.args.file.now c.args.at c.read_from.result (λ i. omega (arith, c.type_inv.file i)) c.read_from.ensures
