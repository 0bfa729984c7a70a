use Rattle.std.proofs.Common.{◌-◌, length, refl}
use Rattle.dj_resolution.proofs.Tops.{past_all, past_more, past_none, past_top}
use Rattle.dj_resolution.proofs.words.highest_common.Goals as goal

pub loop-back-init : goal.loop-back-init
loop-back-init c = past_none c.args.words.now c.args.others.now

pub returns-in-Some : goal.returns-in-Some
returns-in-Some c =
    past_top c.args.words.now c.args.others.now (length c.args.words.now - 1 - c.loop-back.back) c.loop-back.back c.in-Some.number c.loop-back-test.true refl
    c.loop-back.invariant c.in-Some.ensures

pub loop-back-preserved : goal.loop-back-preserved
loop-back-preserved c =
    past_more c.args.words.now c.args.others.now (length c.args.words.now - 1 - c.loop-back.back) c.loop-back.back c.loop-back-test.true refl
    c.loop-back.invariant c.in_default.ensures

pub returns : goal.returns
returns c = past_all c.args.words.now c.args.others.now c.loop-back.back c.loop-back-test.false c.loop-back.invariant
