use Rattle.std.proofs.Common.{arith}
use Rattle.dj_pool.proofs.Decides.{tests_decide}
use Rattle.dj_class.proofs.AnswerLaws.{reads_class}
use Rattle.dj_class.proofs.class.read_class.Goals as goal

pub returns : goal.returns
returns c = reads_class tests_decide c.args.file.now c.read_all.result (λ i. omega (arith, c.type_inv.file i)) c.read_all.ensures
