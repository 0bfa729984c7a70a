use Rattle.std.proofs.Common.{sym, ◌∙◌, arith}
use Rattle.dj_resolution.proofs.Tops.{none_common, none_higher, none_in, past_others, top_here}
use Rattle.dj_resolution.proofs.words.common_in.Goals as goal

pub returns-then-at-others : goal.returns-then-at-others
returns-then-at-others c = past_others c.args.words.now c.args.others.now c.args.at c.if-at-others.true

pub returns-then-words-at-eq0 : goal.returns-then-words-at-eq0
returns-then-words-at-eq0 c = none_common c.args.words.now c.args.others.now c.args.at c.if-words-at-eq0.true

pub loop-back-init : goal.loop-back-init
loop-back-init c z place high = absurd (omega (arith, high))

pub returns-then-is_in_both : goal.returns-then-is_in_both
returns-then-is_in_both c =
    top_here c.args.words.now c.args.others.now c.args.at c.loop-back.back c.number_at-number.result c.loop-back-test.true c.number_at-number.ensures c.loop-back.invariant (sym c.is_in_both.ensures ∙ c.if-is_in_both.true)

pub loop-back-preserved : goal.loop-back-preserved
loop-back-preserved c =
    none_higher c.args.words.now c.args.others.now c.args.at c.loop-back.back c.number_at-number.result c.loop-back-test.true c.number_at-number.ensures c.loop-back.invariant (sym c.is_in_both.ensures ∙ c.if-is_in_both.false)

pub returns : goal.returns
returns c = none_in c.args.words.now c.args.others.now c.args.at c.loop-back.back c.loop-back-test.false c.loop-back.invariant
