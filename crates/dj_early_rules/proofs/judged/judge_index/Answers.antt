use Rattle.std.proofs.lemmas.Result.{IfOk-weaker}
use Rattle.dj_pool.specs.trusted.Pool.{text_at}
use Rattle.dj_early_rules.proofs.Noted.{copied_some, judged_some}
use Rattle.dj_early_rules.proofs.judged.judge_index.Goals as goal

pub returns-in-Some : goal.returns-in-Some
returns-in-Some c =
    let at = copied_some c.text.result (text_at c.args.pool.now c.args.index) c.in-Some.text c.text.ensures c.in-Some.is in
    IfOk-weaker c.judge_text.result _ _
    (λ text reported. judged_some c.args.pool.now c.args.indexes.now c.judge_text.new.indexes c.args.index c.args.marked c.in-Some.text.now text at c.requires reported)
    c.judge_text.ensures
