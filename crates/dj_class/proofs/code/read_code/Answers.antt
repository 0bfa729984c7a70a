use Rattle.std.proofs.Common.{arith}
use Rattle.dj_class.proofs.CodeLaws.{reads_code}
use Rattle.dj_class.proofs.code.read_code.Goals as goal

pub returns : goal.returns
returns c = reads_code c.args.body.now c.read_whole_code.result (λ i. omega (arith, c.type_inv.body i)) c.read_whole_code.ensures
