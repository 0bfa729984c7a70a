use Rattle.std.proofs.Common.{◌≡◌, ℕ, subst, arith}
use Rattle.dj_early_rules.specs.Judged.{AreOwnTexts}
use Rattle.dj_early_rules.proofs.OwnTexts.{one_own_more}
use Rattle.dj_early_rules.proofs.judged.judge_own_texts.Goals as goal

pub loop-index-preserved : goal.loop-index-preserved
loop-index-preserved c = one_own_more c.args.pool.now c.loop-index.texts.items c.push.new.self.items c.loop-index.index _ c.in_ok-push.ensures.items c.in_ok-judge_own.ensures c.loop-index.invariant

pub returns : goal.returns
returns c =
    let past = c.loop-index-test.false in
    let most = c.loop-index.auto.index-end in
    let whole : c.loop-index.index ≡ c.args.count = omega (arith, past, most) in
    subst (λ (n : ℕ). AreOwnTexts c.args.pool.now n c.loop-index.texts.items) whole c.loop-index.invariant
