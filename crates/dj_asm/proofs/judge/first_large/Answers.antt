use Rattle.std.proofs.lemmas.Result.{IfOk-weaker}
use Rattle.dj_asm.proofs.Judged.{first_beside}
use Rattle.dj_asm.proofs.judge.first_large.Goals as goal

pub returns : goal.returns
returns c = IfOk-weaker c.first_judged.result _ _ (λ first is s judged. first_beside c.args.pool.now c.args.lines.now first s is judged) c.first_judged.ensures
