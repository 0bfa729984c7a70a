use Rattle.std.proofs.Common.{refl}
use Rattle.dj_frames.proofs.Written.{rising, writes_on, writes_done}
use Rattle.dj_frames.proofs.write.put_frames.Goals as goal

pub loop-frame-init : goal.loop-frame-init
loop-frame-init c = (refl, rising c.args.starts.now c.args.frames.now c.requires)

pub loop-frame-preserved : goal.loop-frame-preserved
loop-frame-preserved c =
    rw (c.in_ok-put_form.ensures.ok, c.in_ok-put_head.ensures.ok) (writes_on c.args.starts.now c.args.out.now c.args.frames.now c.loop-frame.frame-index c.loop-frame.least c.loop-frame.out c.frame-item.result c.loop-frame.invariant c.loop-frame-test.true c.frame-item.is)

pub returns-clause-ok : goal.returns-clause-ok
returns-clause-ok c =
    writes_done c.args.starts.now c.args.out.now c.args.frames.now c.loop-frame.frame-index c.loop-frame.least c.loop-frame.out c.loop-frame.invariant c.loop-frame-test.false
